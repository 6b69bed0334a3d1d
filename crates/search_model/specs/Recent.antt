-- The last 256 values that a search has taken, each in the slot of its place modulo 256: what they
-- are, when they are accepted, and the value that a call finds at a place. Document 02, 2.7.
use Rattle.std.specs.Prelude.{◌&&◌, ◌||◌, ◌∷◌, ◌-◌, ◌%◌}
use Rattle.lists.specs.Prelude.{Bool, cond, List, [], ℕ, suc, ltb, ℤ, pos, eq_z, get_or, set, tabulate, all}
use Rattle.search_model.specs.Ring.{Ring, place_at, value_at}

-- the value kept for place p
abbrev pub kept_for : List ℤ → ℕ → ℤ
kept_for recent p = get_or recent (p % 256) (pos 0)

-- with the values taken, the first of them at place p
unfoldable pub keeping : ℕ → List ℤ → List ℤ → List ℤ
keeping p recent [] = recent
keeping p recent (x ∷ xs) = keeping (suc p) (set recent (p % 256) x) xs

-- the slots not yet filled once so many values are taken are 0
abbrev pub unfilled_from : ℕ → List ℤ → Bool
unfilled_from taken recent = all (λ i. ltb i taken || eq_z (get_or recent i (pos 0)) (pos 0)) (tabulate 256 (λ i. i))

-- each open minimum has the value kept for its place
abbrev pub kept_minima : Ring → List ℤ → Bool
kept_minima r recent = all (λ i. eq_z (value_at r i) (kept_for recent (place_at r i))) (tabulate r.minima (λ i. i))

-- accepted
unfoldable pub good_recent : ℕ → Ring → List ℤ → Bool
good_recent taken r recent = unfilled_from taken recent && kept_minima r recent

-- the value at place p for a call that is handed the values xs once so many are taken: the one kept
-- where it was taken before, else one of xs
abbrev pub found_at : ℕ → List ℤ → List ℤ → ℕ → ℤ
found_at taken recent xs p = cond (ltb p taken) (kept_for recent p) (get_or xs (p - taken) (pos 0))
