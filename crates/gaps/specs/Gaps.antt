-- Gaps. Document 02, 2.2: The new clamp writes -2,147,483,648 when it has no sample.
use Rattle.lists.specs.Prelude.{Bool, false, List, eqb, ℤ, pos, negsuc, any}

-- is the value no sample but a gap; `negsuc n` is -(n + 1)
unfoldable pub is_gap : ℤ → Bool
is_gap (pos n) = false
is_gap (negsuc n) = eqb n 2147483647

-- is one of the values a gap
abbrev pub holds_gap : List ℤ → Bool
holds_gap xs = any is_gap xs
