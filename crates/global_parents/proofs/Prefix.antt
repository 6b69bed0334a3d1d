-- The tree over the first places of a tree: its distances are the first distances,
-- and the left child of its last place is the left child that this place has in the whole tree.
use Rattle.std.specs.Prelude.{◌≡◌, ◌∷◌, ◌++◌, ◌+◌, ◌-◌, ◌≤◌, ◌<◌}
use Rattle.lists.proofs.Prelude.{◌∙◌, ap, sym, refl, ap₂, cond, Option, None, List, [], ℕ, zero, suc, min, leb, length}
use Rattle.lists.proofs.Prelude.{get_or, take, length-append, length-take, get_or_at, take-append-le, take-nil, take-append-add, dec_lt, arith, le-leb, lt-leb}
use Rattle.lists.proofs.Places.{Place, before, here, after, place, get_or_before, get_or_after}
use Rattle.cartesian.specs.Cartesian.{Tree, leaf, node, size, tree_of}
use Rattle.cartesian.proofs.Structure.{lift, tree_distances, length-tree_distances}
use Rattle.cartesian.proofs.TreeOf.{tree_of-tree_distances}
use Rattle.global_parents.specs.GlobalParents.{root_of, last_left_child}

take-lift : (n k : ℕ) (ds : List ℕ) → take n (lift k ds) ≡ lift k (take n ds)
unfolding lift
take-lift zero k ds = refl
take-lift (suc n) k [] = refl
take-lift (suc n) k (d ∷ ds) = ap₂ (λ (x : ℕ) (l : List ℕ). x ∷ l) refl (take-lift n (suc k) ds)

-- the tree over the first n places
unfoldable pub prefix_tree : ℕ → Tree → Tree
prefix_tree n leaf = leaf
prefix_tree n (node l r) = cond (leb n (size l)) (prefix_tree n l) (node l (prefix_tree (n - suc (size l)) r))

prefix_left : (n : ℕ) (l r : Tree) → n ≤ size l → prefix_tree n (node l r) ≡ prefix_tree n l
unfolding prefix_tree
prefix_left n l r h = rw (le-leb n (size l) h) refl

prefix_right : (k : ℕ) (l r : Tree) → prefix_tree (size l + suc k) (node l r) ≡ node l (prefix_tree k r)
unfolding prefix_tree
prefix_right k l r =
    let e : size l + suc k - suc (size l) ≡ k = omega arith in
    rw (lt-leb (size l + suc k) (size l) (omega arith), e) refl

pub take-tree_distances : (n : ℕ) (t : Tree) → take n (tree_distances t) ≡ tree_distances (prefix_tree n t)
unfolding tree_distances prefix_tree
take-tree_distances n leaf = take-nil n
take-tree_distances n (node l r) = go (dec_lt (size l) n) (take-tree_distances n l) (take-tree_distances (n - suc (size l)) r)
  where
    go : Dec (size l < n) → take n (tree_distances l) ≡ tree_distances (prefix_tree n l)
        → take (n - suc (size l)) (tree_distances r) ≡ tree_distances (prefix_tree (n - suc (size l)) r)
        → take n (tree_distances l ++ (0 ∷ lift 1 (tree_distances r))) ≡ tree_distances (prefix_tree n (node l r))
    go (no f) hl hr =
        rw (prefix_left n l r (omega arith))
        (take-append-le n (tree_distances l) (0 ∷ lift 1 (tree_distances r)) (rw length-tree_distances (omega arith)) ∙ hl)
    go (yes h) hl hr =
        let k = n - suc (size l) in
        let e : n ≡ size l + suc k = omega arith in
        let d : n ≡ length (tree_distances l) + suc k = rw length-tree_distances e in
        ap (λ (i : ℕ). take i (tree_distances l ++ (0 ∷ lift 1 (tree_distances r)))) d
        ∙ take-append-add (tree_distances l) (0 ∷ lift 1 (tree_distances r)) (suc k)
        ∙ ap (λ (ds : List ℕ). tree_distances l ++ (0 ∷ ds)) (take-lift k 1 (tree_distances r) ∙ ap (lift 1) hr)
        ∙ ap tree_distances (sym (prefix_right k l r))
        ∙ ap (λ (i : ℕ). tree_distances (prefix_tree i (node l r))) (sym e)

pub tree_of-take : (n : ℕ) (t : Tree) → tree_of (take n (tree_distances t)) ≡ prefix_tree n t
tree_of-take n t = ap tree_of (take-tree_distances n t) ∙ tree_of-tree_distances (prefix_tree n t)

-- ---- left children

-- the left child of each place, in the order of the places, for a tree whose first place is a
unfoldable pub left_children : ℕ → Tree → List (Option ℕ)
left_children a leaf = []
left_children a (node l r) = left_children a l ++ (root_of a l ∷ left_children (suc (a + size l)) r)

pub length-left_children : (a : ℕ) (t : Tree) → length (left_children a t) ≡ size t
unfolding left_children size
length-left_children a leaf = refl
length-left_children a (node l r) =
    length-append (left_children a l) (root_of a l ∷ left_children (suc (a + size l)) r)
    ∙ ap₂ (λ (n m : ℕ). n + suc m) (length-left_children a l) (length-left_children (suc (a + size l)) r)

prefix_none : (t : Tree) → prefix_tree 0 t ≡ leaf
unfolding prefix_tree
prefix_none leaf = refl
prefix_none (node l r) = prefix_left 0 l r (omega arith) ∙ prefix_none l

-- a prefix with a place is no leaf
prefix_some : (k : ℕ) (t : Tree) → k < size t → 0 < size (prefix_tree (suc k) t)
prefix_some k t h =
    let e : size (prefix_tree (suc k) t) ≡ min (suc k) (size t) =
    sym (length-tree_distances (prefix_tree (suc k) t))
    ∙ ap length (sym (take-tree_distances (suc k) t))
    ∙ length-take (suc k) (tree_distances t)
    ∙ ap (min (suc k)) (length-tree_distances t) in
    omega arith

last_right : (a : ℕ) (l u : Tree) → 0 < size u → last_left_child a (node l u) ≡ last_left_child (suc (a + size l)) u
unfolding last_left_child size
last_right a l leaf h = absurd (let z : ⊥ = omega arith in z)
last_right a l (node m r) h = refl

pub last_prefix : (a j : ℕ) (t : Tree) → j < size t → last_left_child a (prefix_tree (suc j) t) ≡ get_or (left_children a t) j None
unfolding left_children size last_left_child
last_prefix a j leaf h = absurd (let z : ⊥ = omega arith in z)
last_prefix a j (node l r) h = go j (place (size l) (size r) j h) (λ k. last_prefix a k l) (λ k. last_prefix (suc (a + size l)) k r)
  where
    go : (j : ℕ) → Place (size l) (size r) j
        → ((k : ℕ) → k < size l → last_left_child a (prefix_tree (suc k) l) ≡ get_or (left_children a l) k None)
        → ((k : ℕ) → k < size r → last_left_child (suc (a + size l)) (prefix_tree (suc k) r) ≡ get_or (left_children (suc (a + size l)) r) k None)
        → last_left_child a (prefix_tree (suc j) (node l r)) ≡ get_or (left_children a l ++ (root_of a l ∷ left_children (suc (a + size l)) r)) j None
    go j (before h) hl hr =
        let left = get_or_before (left_children a l) (root_of a l) (left_children (suc (a + size l)) r) None (size l) j (length-left_children a l) h in
        rw (prefix_left (suc j) l r h, left) (hl j h)
    go _ here hl hr =
        let e : suc (size l) ≡ size l + 1 = omega arith in
        rw (e, prefix_right 0 l r, prefix_none r)
        (sym (get_or_at (left_children a l) (root_of a l) (left_children (suc (a + size l)) r) None (size l) (length-left_children a l)))
    go _ (after k h) hl hr =
        let e : suc (size l + suc k) ≡ size l + suc (suc k) = omega arith in
        rw (
          e,
          prefix_right (suc k) l r,
          last_right a l (prefix_tree (suc k) r) (prefix_some k r h),
          get_or_after (left_children a l) (root_of a l)
              (left_children (suc (a + size l)) r) None (size l) k (length-left_children a l),
        )
        (hr k h)
