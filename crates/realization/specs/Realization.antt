-- Lists of parent distances that some values have, the least such values, and the failure function.
-- Document 01: Possible lists; Least readings; Fall length.
use Rattle.std.specs.Prelude.{◌≡◌, ◌∷◌, ◌++◌, ◌≤ℤ◌}
use Rattle.lists.specs.Prelude.{Bool, List, [], map, ℕ, suc, pred, ℤ, pos, length, get_or, take, tabulate, last_below, last_of, same}
use Rattle.cartesian.specs.Cartesian.{distances, Tree, leaf, node, tree_of, tree, same_tree}

-- ---- Lists of parent distances that some values have. Document 01: Possible lists.

-- some values have it
unfoldable pub Realizable : List ℕ → Type 0
Realizable ds = (xs : List ℤ) × (distances xs ≡ ds)

-- ---- The least values that have a list of parent distances. Document 01: Least readings.

-- what document 01 says of the least values: they have the list, none is negative, and at every
-- place they are no larger than any other such values
pub record IsLeast (ds : List ℕ) (xs : List ℤ) : Type 0 where
  pub has : distances xs ≡ ds
  pub not_negative : (i : ℕ) → pos 0 ≤ℤ get_or xs i (pos 0)
  pub least : (ys : List ℤ) → distances ys ≡ ds → ((i : ℕ) → pos 0 ≤ℤ get_or ys i (pos 0)) → (i : ℕ) → get_or xs i (pos 0) ≤ℤ get_or ys i (pos 0)

-- at each place, in the order of the places, the number of left turns on the way from the root
unfoldable pub left_turns : Tree → List ℕ
left_turns leaf = []
left_turns (node l r) = map suc (left_turns l) ++ (0 ∷ left_turns r)

-- the least realization of a realizable list (law `least_realization_least`)
unfoldable pub least_realization : List ℕ → List ℤ
least_realization ds = map pos (left_turns (tree_of ds))

-- is the list realizable: do its least values have it (law `realizable_iff`)
unfoldable pub realizable : List ℕ → Bool
realizable ds = same (distances (least_realization ds)) ds

-- ---- The failure function of a pattern. Document 01: Fall length.

-- of the head of n values: the length of its longest proper tail that has the tree of the head of
-- that length (the empty tail always has)
unfoldable pub failure_length : List ℕ → ℕ → ℕ
failure_length ds n = pred (last_below (λ m. same_tree (tree (last_of m (take n (least_realization ds)))) (tree (take m (least_realization ds)))) n)

-- one for each head, from the head of one value up
unfoldable pub failure_lengths : List ℕ → List ℕ
failure_lengths ds = tabulate (length ds) (λ i. failure_length ds (suc i))
