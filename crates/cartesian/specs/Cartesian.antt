-- Cartesian trees, parent distances, parent distances in a window, and the tree that a list of
-- distances stands for. Document 01: Tree; Distance; Distances of a window.
use Rattle.std.specs.Prelude.{◌&&◌, ◌∷◌, ◌+◌, ◌-◌}
use Rattle.lists.specs.Prelude.{Bool, true, false, cond, List, [], ℕ, zero, suc, pred, eqb, leb, ℤ, pos, le_z, lt_z, length, get_or, take}
use Rattle.lists.specs.Prelude.{drop, tabulate, last_below}

-- ---- Cartesian trees. Document 01: Tree.

pub data Tree : Type 0 where
  leaf : Tree
  node : Tree → Tree → Tree

-- the number of places
unfoldable pub size : Tree → ℕ
size leaf = 0
size (node l r) = size l + suc (size r)

-- the place of the leftmost lowest value, where m, at place b, is the leftmost lowest so far and
-- the list goes on at place i
unfoldable pub leftmost_from : ℤ → ℕ → ℕ → List ℤ → ℕ
leftmost_from m b i [] = b
leftmost_from m b i (x ∷ xs) = cond (lt_z x m) (leftmost_from x i (suc i) xs) (leftmost_from m b (suc i) xs)

-- the place of the leftmost lowest value
unfoldable pub leftmost : List ℤ → ℕ
leftmost [] = 0
leftmost (x ∷ xs) = leftmost_from x 0 1 xs

-- the tree of a list of at most n values
unfoldable pub tree_within : ℕ → List ℤ → Tree
tree_within zero xs = leaf
tree_within (suc n) [] = leaf
tree_within (suc n) (x ∷ xs) =
    let p = leftmost (x ∷ xs) in
    node (tree_within n (take p (x ∷ xs))) (tree_within n (drop (suc p) (x ∷ xs)))

-- the Cartesian tree: the root is the leftmost lowest value, with the tree of what is before it on
-- its left and of what is after it on its right
unfoldable pub tree : List ℤ → Tree
tree xs = tree_within (length xs) xs

-- are two trees equal
unfoldable pub same_tree : Tree → Tree → Bool
same_tree leaf leaf = true
same_tree leaf (node m s) = false
same_tree (node l r) leaf = false
same_tree (node l r) (node m s) = same_tree l m && same_tree r s

-- ---- Parent distances, and parent distances in a window. Document 01: Distance; Distances of a
-- window.

-- one more than the greatest place below n whose value is not above x; 0 where there is none
abbrev pub seek : List ℤ → ℤ → ℕ → ℕ
seek xs x n = last_below (λ j. le_z (get_or xs j (pos 0)) x) n

-- i - j for a `seek` that answers suc j; 0 where it answers 0
abbrev pub apart : ℕ → ℕ → ℕ
apart i zero = 0
apart i (suc j) = i - j

-- the parent distance at place i
unfoldable pub distance_at : List ℤ → ℕ → ℕ
distance_at xs i = apart i (seek xs (get_or xs i (pos 0)) i)

unfoldable pub distances : List ℤ → List ℕ
distances xs = tabulate (length xs) (distance_at xs)

-- the last distance in a window of d + 1 values, where it is v in the whole text
abbrev pub cut : ℕ → ℕ → ℕ
cut d v = cond (leb v d) v 0

-- each distance cut at its own place, the first at place i
unfoldable pub cut_from : ℕ → List ℕ → List ℕ
cut_from i [] = []
cut_from i (v ∷ vs) = cut i v ∷ cut_from (suc i) vs

-- ---- The tree that a list of parent distances stands for: the tree of any values that have these
-- distances (law `tree_of-distances`).

-- the root's place: the last one with distance 0, as no value before it is as low and none after it
-- is lower
unfoldable pub root_place : List ℕ → ℕ
root_place ds = pred (last_below (λ j. eqb (get_or ds j 1) 0) (length ds))

unfoldable pub tree_of_within : ℕ → List ℕ → Tree
tree_of_within zero ds = leaf
tree_of_within (suc n) [] = leaf
tree_of_within (suc n) (d ∷ ds) =
    let p = root_place (d ∷ ds) in
    node (tree_of_within n (take p (d ∷ ds))) (tree_of_within n (cut_from 0 (drop (suc p) (d ∷ ds))))

unfoldable pub tree_of : List ℕ → Tree
tree_of ds = tree_of_within (length ds) ds
