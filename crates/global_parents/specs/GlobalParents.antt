-- Global parents. Document 01 (and 000): Global parent.
use Rattle.std.specs.Prelude.{◌&&◌, ◌+◌, ◌-◌}
use Rattle.lists.specs.Prelude.{Bool, false, Option, None, Some, List, ℕ, zero, suc, eqb, ltb, length, get_or, take, tabulate, last_below}
use Rattle.cartesian.specs.Cartesian.{Tree, leaf, node, size, tree_of}

-- the place of the root of a tree whose first place is a
abbrev pub root_of : ℕ → Tree → Option ℕ
root_of a leaf = None
root_of a (node l r) = Some (a + size l)

-- the left child of the last place of a tree whose first place is a
unfoldable pub last_left_child : ℕ → Tree → Option ℕ
last_left_child a leaf = None
last_left_child a (node l leaf) = root_of a l
last_left_child a (node l (node m r)) = last_left_child (suc (a + size l)) (node m r)

-- is i the prefix child of j: the left child of j in the tree over the places 0 to j
unfoldable pub is_prefix_child : List ℕ → ℕ → ℕ → Bool
is_prefix_child ds i j = is (last_left_child 0 (tree_of (take (suc j) ds)))
  where
    is : Option ℕ → Bool
    is None = false
    is (Some c) = eqb c i

-- the place after i whose prefix child is i, and where there is none, i minus its distance
unfoldable pub global_parent : List ℕ → ℕ → ℕ
global_parent ds i = or_else (last_below (λ j. ltb i j && is_prefix_child ds i j) (length ds))
  where
    or_else : ℕ → ℕ
    or_else zero = i - get_or ds i 0
    or_else (suc j) = j

unfoldable pub global_parents : List ℕ → List ℕ
global_parents ds = tabulate (length ds) (global_parent ds)
