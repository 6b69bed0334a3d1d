-- The rank of a list of parent distances in the factorial number system, and back. Document 01:
-- Code.
use Rattle.std.specs.Prelude.{◌&&◌, ◌∷◌, ◌+◌, ◌*◌, ◌/◌, ◌%◌}
use Rattle.lists.specs.Prelude.{Bool, List, [], ℕ, zero, suc, ltb, tabulate}
use Rattle.realization.specs.Realization.{realizable}

unfoldable pub factorial : ℕ → ℕ
factorial zero = 1
factorial (suc n) = suc n * factorial n

-- the sum of distance times factorial of the place, over the places from i on
unfoldable pub rank_from : ℕ → List ℕ → ℕ
rank_from i [] = 0
rank_from i (d ∷ ds) = d * factorial i + rank_from (suc i) ds

-- the sum over the places from 1
abbrev pub rank : List ℕ → ℕ
rank [] = 0
rank (d ∷ ds) = rank_from 1 ds

-- the list of n distances whose rank is the code, where there is one (law `unrank_iff`)
unfoldable pub unrank : ℕ → ℕ → List ℕ
unrank n code = tabulate n (λ i. code / factorial i % suc i)

-- is the code that of a realizable list of n distances (law `is_rank_iff`)
unfoldable pub is_rank : ℕ → ℕ → Bool
is_rank n code = ltb code (factorial n) && realizable (unrank n code)
