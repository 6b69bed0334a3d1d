-- Sets of patterns and the words they lie in. Document 01: Set.
use Rattle.std.specs.Prelude.{◌≡◌, ◌&&◌, ◌∷◌, ◌++◌, ◌+◌, ◌-◌}
use Rattle.lists.specs.Prelude.{Bool, true, cond, not, List, [], flatten, ℕ, suc, eqb, leb, length, get_or, take, drop, tabulate}
use Rattle.lists.specs.Prelude.{any, all, begins}
use Rattle.realization.specs.Realization.{realizable}

-- the patterns' distance lists; a pattern's number is its place
abbrev pub PatternSet : Type 0
PatternSet = List (List ℕ)

-- where each pattern starts, counted from o, and last where the last one ends
unfoldable pub offsets : ℕ → PatternSet → List ℕ
offsets o [] = o ∷ []
offsets o (p ∷ ps) = o ∷ offsets (o + length p) ps

-- the number of patterns, the number of distances, the offsets, the distances
unfoldable pub set_words : PatternSet → List ℕ
set_words ps = length ps ∷ length (flatten ps) ∷ (offsets 0 ps ++ flatten ps)

unfoldable pub good_pattern : List ℕ → Bool
good_pattern p = leb 1 (length p) && leb (length p) 256 && realizable p

unfoldable pub good_set : PatternSet → Bool
good_set ps = leb (length ps) 64 && leb (length (flatten ps)) 4096 && all good_pattern ps

-- has a pattern, given as values or as distances, one value
abbrev pub has_one_value : {A : Type 0} → List A → Bool
has_one_value xs = eqb (length xs) 1

-- does the set hold a pattern of one value: it would hit at every sample
abbrev pub holds_one_value : PatternSet → Bool
holds_one_value ps = any has_one_value ps

-- may the set be searched: it is good, it holds a pattern, and none of one value. Document 02, 2.6
unfoldable pub may_search : PatternSet → Bool
may_search ps = good_set ps && leb 1 (length ps) && not (holds_one_value ps)

-- pattern j as the array's first words tell of it, whatever they are
unfoldable pub pattern_in : List ℕ → ℕ → List ℕ
pattern_in ws j = take (get_or ws (3 + j) 0 - get_or ws (2 + j) 0) (drop (3 + get_or ws 0 0 + get_or ws (2 + j) 0) ws)

abbrev pub patterns_in : List ℕ → PatternSet
patterns_in ws = tabulate (get_or ws 0 0) (pattern_in ws)

-- does the array begin with the words of a good set: of the patterns that its first words tell of
-- (law `IsSet-iff`)
unfoldable pub is_set : List ℕ → Bool
is_set ws = good_set (patterns_in ws) && begins ws (set_words (patterns_in ws))

-- the array is a set array
abbrev pub IsSet : List ℕ → Type 0
IsSet ws = is_set ws ≡ true

-- the patterns of a set array; of any other array none
unfoldable pub patterns_of : List ℕ → PatternSet
patterns_of ws = cond (is_set ws) (patterns_in ws) []

-- the set without pattern j: higher numbers move down by one. Document 02, 2.3
unfoldable pub without : ℕ → PatternSet → PatternSet
without j ps = take j ps ++ drop (suc j) ps
