-- The parent of each place in a tree: what the global parents are proved to be.
use Rattle.std.specs.Prelude.{◌∷◌, ◌++◌, ◌+◌}
use Rattle.lists.specs.Prelude.{List, [], ℕ, suc}
use Rattle.cartesian.specs.Cartesian.{Tree, leaf, node, size}

-- in the order of the places, for a tree whose first place is a and whose root has the parent g
unfoldable pub parents_from : ℕ → ℕ → Tree → List ℕ
parents_from a g leaf = []
parents_from a g (node l r) =
    let m = a + size l in
    parents_from a m l ++ (g ∷ parents_from (suc m) m r)

-- the root is its own parent
unfoldable pub parents : Tree → List ℕ
parents leaf = []
parents (node l r) = parents_from 0 (size l) (node l r)
