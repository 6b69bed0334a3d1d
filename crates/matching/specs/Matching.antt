-- Search hits, by trees of windows; heads of patterns, and the failure of a head. Document 01: Hits
-- of R; the order of a search's list; A ladder, its rungs and their falls. Document 02, 2.2: A
-- window that holds a gap has no tree and is no hit; it is no candidate.
use Rattle.std.specs.Prelude.{◌&&◌, ◌∷◌, ◌++◌}
use Rattle.lists.specs.Prelude.{Bool, cond, not, List, [], map, flatten, ℕ, zero, suc, pred, min, eqb, leb, ℤ, length, take, tabulate}
use Rattle.lists.specs.Prelude.{last_below, last_of, any, select, begins}
use Rattle.gaps.specs.Gaps.{holds_gap}
use Rattle.cartesian.specs.Cartesian.{tree, same_tree, tree_of, distances}
use Rattle.pattern_set.specs.PatternSet.{PatternSet}
use Rattle.realization.specs.Realization.{least_realization}
use Rattle.fingerprint.specs.Fingerprint.{fingerprint}

-- ---- Search hits, by trees of windows. Document 01: Hits of R; the order of a search's list.

-- the window has the tree of the pattern; one that holds a gap has none
unfoldable pub has_tree : List ℤ → List ℕ → Bool
has_tree window p = not (holds_gap window) && same_tree (tree window) (tree_of p)

-- the numbers of the patterns, the first of which has number j, that have the tree of the window,
-- lower number first
unfoldable pub numbers_from : ℕ → List ℤ → PatternSet → List ℕ
numbers_from j window [] = []
numbers_from j window (p ∷ ps) = cond (has_tree window p) (j ∷ numbers_from (suc j) window ps) (numbers_from (suc j) window ps)

-- the numbers of the patterns that have the tree of one of the windows of at most n values at the
-- end of the text, longer window first
unfoldable pub end_hits : PatternSet → List ℤ → ℕ → List ℕ
end_hits ps text zero = []
end_hits ps text (suc n) = numbers_from 0 (last_of (suc n) text) ps ++ end_hits ps text n

-- the numbers of the patterns with a hit at the last place of the text
abbrev pub last_hits : PatternSet → List ℤ → List ℕ
last_hits ps text = end_hits ps text (length text)

-- the hits with last place p
unfoldable pub hits_at : PatternSet → List ℤ → ℕ → List (ℕ × ℕ)
hits_at ps text p = map (λ j. (p, j)) (last_hits ps (take (suc p) text))

-- the hits of a text: last place and pattern number; by last place, longer pattern first, then
-- lower number
unfoldable pub hits : PatternSet → List ℤ → List (ℕ × ℕ)
hits ps text = flatten (tabulate (length text) (hits_at ps text))

-- two words a hit
unfoldable pub hit_words : List (ℕ × ℕ) → List ℕ
hit_words [] = []
hit_words (h ∷ hs) = h.0 ∷ h.1 ∷ hit_words hs

-- ---- Heads of patterns, and the failure of a head. Document 01: A ladder, its rungs and their
-- falls.

-- is h a head of some pattern
unfoldable pub is_head : PatternSet → List ℕ → Bool
is_head ps h = any (λ p. begins p h) ps

-- has the window the tree of some head
unfoldable pub head_tree : PatternSet → List ℤ → Bool
head_tree ps window = any (λ p. has_tree window (take (length window) p)) ps

-- the head that the failure link of a head leads to: the distances of its longest proper tail that
-- has the tree of some head
unfoldable pub failure : PatternSet → List ℕ → List ℕ
failure ps h = distances (last_of (pred (last_below (λ m. head_tree ps (last_of m (least_realization h))) (length h))) (least_realization h))

-- a head and the heads that its failure links lead to, one after the other, down to the empty one
unfoldable pub chain_within : ℕ → PatternSet → List ℕ → List (List ℕ)
chain_within zero ps h = h ∷ []
chain_within (suc n) ps h = h ∷ cond (eqb (length h) 0) [] (chain_within n ps (failure ps h))

abbrev pub chain : PatternSet → List ℕ → List (List ℕ)
chain ps h = chain_within (length h) ps h

-- ---- The candidates of a filter search. Document 01: A tail search.

-- the length of the shortest pattern, or bound where that is smaller
unfoldable pub shortest : ℕ → PatternSet → ℕ
shortest bound [] = bound
shortest bound (p ∷ ps) = shortest (min bound (length p)) ps

-- does the pattern's window at the end of the text lie within it, and hold no gap
abbrev pub fits : List ℤ → List ℕ → Bool
fits text p = leb (length p) (length text) && not (holds_gap (last_of (length p) text))

-- is the pattern a candidate at the end of the text: its window fits, and their last b values have
-- one fingerprint
unfoldable pub is_candidate : ℕ → List ℤ → List ℕ → Bool
is_candidate b text p = fits text p && eqb (fingerprint (last_of b text)) (fingerprint (last_of b (least_realization p)))

-- the candidates of a text, one for each last place and pattern
unfoldable pub candidates : PatternSet → List ℤ → ℕ
candidates ps text = length (flatten (tabulate (length text) (λ p. select (is_candidate (shortest 17 ps) (take (suc p) text)) ps)))
