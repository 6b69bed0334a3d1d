-- The left children, the distances and the parents of a node, part by part: at a place on its left,
-- at its root, at a place on its right.
use Rattle.std.specs.Prelude.{◌≡◌, ◌∷◌, ◌+◌, ◌<◌}
use Rattle.lists.proofs.Prelude.{◌∙◌, ap, refl, ap₂, None, ℕ, suc, length, get_or, length-append, get_or_at, arith}
use Rattle.lists.proofs.Places.{get_or_before, get_or_after}
use Rattle.cartesian.specs.Cartesian.{Tree, leaf, node, size}
use Rattle.cartesian.proofs.Structure.{or_else, lift, tree_distances, length-tree_distances, get_or-lift}
use Rattle.global_parents.specs.GlobalParents.{root_of}
use Rattle.global_parents.specs.Parents.{parents_from}
use Rattle.global_parents.proofs.Prefix.{left_children, length-left_children}

pub length-parents_from : (a g : ℕ) (t : Tree) → length (parents_from a g t) ≡ size t
unfolding parents_from size
length-parents_from a g leaf = refl
length-parents_from a g (node l r) =
    length-append (parents_from a (a + size l) l) (g ∷ parents_from (suc (a + size l)) (a + size l) r)
    ∙ ap₂ (λ (n m : ℕ). n + suc m) (length-parents_from a (a + size l) l) (length-parents_from (suc (a + size l)) (a + size l) r)

-- the three parts of the parents of a node
pub parent_left : (a g : ℕ) (l r : Tree) (k : ℕ) → k < size l → get_or (parents_from a g (node l r)) k 0 ≡ get_or (parents_from a (a + size l) l) k 0
unfolding parents_from
parent_left a g l r k h =
    get_or_before (parents_from a (a + size l) l) g (parents_from (suc (a + size l)) (a + size l) r) 0 (size l) k (length-parents_from a (a + size l) l) h

pub parent_root : (a g : ℕ) (l r : Tree) → get_or (parents_from a g (node l r)) (size l) 0 ≡ g
unfolding parents_from
parent_root a g l r = get_or_at (parents_from a (a + size l) l) g (parents_from (suc (a + size l)) (a + size l) r) 0 (size l)
    (length-parents_from a (a + size l) l)

pub parent_right : (a g : ℕ) (l r : Tree) (k : ℕ)
    → get_or (parents_from a g (node l r)) (size l + suc k) 0 ≡ get_or (parents_from (suc (a + size l)) (a + size l) r) k 0
unfolding parents_from
parent_right a g l r k =
    get_or_after (parents_from a (a + size l) l) g (parents_from (suc (a + size l)) (a + size l) r) 0 (size l) k (length-parents_from a (a + size l) l)

-- the three parts of the left children of a node
pub child_left : (a : ℕ) (l r : Tree) (k : ℕ) → k < size l → get_or (left_children a (node l r)) k None ≡ get_or (left_children a l) k None
unfolding left_children
child_left a l r k h = get_or_before (left_children a l) (root_of a l) (left_children (suc (a + size l)) r) None (size l) k (length-left_children a l) h

pub child_root : (a : ℕ) (l r : Tree) → get_or (left_children a (node l r)) (size l) None ≡ root_of a l
unfolding left_children
child_root a l r = get_or_at (left_children a l) (root_of a l) (left_children (suc (a + size l)) r) None (size l) (length-left_children a l)

pub child_right : (a : ℕ) (l r : Tree) (k : ℕ) → get_or (left_children a (node l r)) (size l + suc k) None ≡ get_or (left_children (suc (a + size l)) r) k None
unfolding left_children
child_right a l r k = get_or_after (left_children a l) (root_of a l) (left_children (suc (a + size l)) r) None (size l) k (length-left_children a l)

-- the three parts of the distances of a node
pub distance_left : (l r : Tree) (k : ℕ) → k < size l → get_or (tree_distances (node l r)) k 0 ≡ get_or (tree_distances l) k 0
unfolding tree_distances
distance_left l r k h = get_or_before (tree_distances l) 0 (lift 1 (tree_distances r)) 0 (size l) k (length-tree_distances l) h

pub distance_root : (l r : Tree) → get_or (tree_distances (node l r)) (size l) 0 ≡ 0
unfolding tree_distances
distance_root l r = get_or_at (tree_distances l) 0 (lift 1 (tree_distances r)) 0 (size l) (length-tree_distances l)

pub distance_right : (l r : Tree) (k : ℕ) → k < size r → get_or (tree_distances (node l r)) (size l + suc k) 0 ≡ or_else (get_or (tree_distances r) k 0) (suc k)
unfolding tree_distances
distance_right l r k h =
    get_or_after (tree_distances l) 0 (lift 1 (tree_distances r)) 0 (size l) k (length-tree_distances l)
    ∙ get_or-lift 1 (tree_distances r) k (rw length-tree_distances h)
    ∙ ap (or_else (get_or (tree_distances r) k 0)) (omega arith)
