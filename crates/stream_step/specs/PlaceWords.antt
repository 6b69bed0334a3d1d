-- The words of hits at one place.
use Rattle.lists.specs.Prelude.{List, map, ℕ}
use Rattle.matching.specs.Matching.{hit_words}

-- the words of the hits of the patterns with the numbers js, all at the same last place
abbrev pub place_words : ℕ → List ℕ → List ℕ
place_words place js = hit_words (map (λ j. (place, j)) js)
