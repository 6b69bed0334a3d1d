-- The set rules as they are tested on an array's words, whatever they are. Document 01: Set;
-- refusal 5.
use Rattle.std.specs.Prelude.{◌≡◌, ◌+◌, ◌<◌, ◌≤◌}
use Rattle.lists.specs.Prelude.{List, ℕ, T, length, get_or}
use Rattle.realization.specs.Realization.{realizable}
use Rattle.pattern_set.specs.PatternSet.{pattern_in}

-- neither count is above its limit, and the array is long enough for both
abbrev pub SizesFit : List ℕ → Type 0
SizesFit ws = (get_or ws 0 0 ≤ 64) × (get_or ws 1 0 ≤ 4096) × (3 + get_or ws 0 0 + get_or ws 1 0 ≤ length ws)

-- an offset is 1 to 256 above the one before
abbrev pub IsNextOffset : ℕ → ℕ → Type 0
IsNextOffset before next = (before < next) × (next ≤ before + 256)

-- so it is from each of the first k offsets to the next
abbrev pub OffsetsRise : List ℕ → ℕ → Type 0
OffsetsRise ws k = (j : ℕ) → j < k → IsNextOffset (get_or ws (2 + j) 0) (get_or ws (3 + j) 0)

-- some values have each of the first k lists
abbrev pub ListsRealizable : List ℕ → ℕ → Type 0
ListsRealizable ws k = (j : ℕ) → j < k → T (realizable (pattern_in ws j))

-- the counts and the offsets of the array are those of a set
pub record HasOffsets (ws : List ℕ) : Type 0 where
  pub sizes : SizesFit ws
  pub first : get_or ws 2 0 ≡ 0
  pub rise : OffsetsRise ws (get_or ws 0 0)
  pub last : get_or ws (2 + get_or ws 0 0) 0 ≡ get_or ws 1 0
