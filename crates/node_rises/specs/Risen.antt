-- The rises over hits at one place.
use Rattle.lists.specs.Prelude.{List, map, ℕ, ℤ}
use Rattle.pattern_set.specs.PatternSet.{PatternSet}
use Rattle.matching.specs.Rise.{rise}

-- the rises over the hits of the patterns with the numbers js, all at the same last place
abbrev pub place_rises : PatternSet → (ℕ → ℤ) → ℕ → List ℕ → List ℤ
place_rises ps at place js = map (rise ps at) (map (λ j. (place, j)) js)
