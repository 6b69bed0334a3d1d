-- Fingerprints of values. Document 01: the key of b readings.
use Rattle.std.specs.Prelude.{◌∷◌, ◌+◌, ◌*◌, ◌^◌}
use Rattle.lists.specs.Prelude.{cond, List, [], ℕ, ℤ, le_z, length}

-- a bit for each value but the last, the earliest highest: 1 where the next value is not below this
-- one
unfoldable pub fingerprint : List ℤ → ℕ
fingerprint [] = 0
fingerprint (x ∷ []) = 0
fingerprint (x ∷ y ∷ ys) = cond (le_z x y) 1 0 * 2 ^ length ys + fingerprint (y ∷ ys)
