-- THE LAW OF GLOBAL PARENTS: the global parents of distances are the parents in the tree. A left
-- child has its parent on its right, as the only place whose left child it is; a right child has
-- its parent on its left, at its distance; the root is its own.
use Rattle.std.specs.Prelude.{◌≡◌, ◌⊎◌, ◌&&◌, ◌+◌, ◌-◌, ◌≤◌, ◌<◌}
use Rattle.lists.proofs.Prelude.{◌∙◌, ap, sym, refl, inl, inr, Bool, Option, None, Some, same_Some, none-some, List, ℕ}
use Rattle.lists.proofs.Prelude.{zero, suc, ℤ, T, ltb, eqb→eq, lt→ltb, eqb_refl, length, get_or, take, ext_get_or, arith, last_below}
use Rattle.lists.proofs.Tests.{and_split, and_join}
use Rattle.lists.proofs.Tables.{length-tabulate, get_or-tabulate}
use Rattle.lists.proofs.LastBelow.{last_below_passes, last_below-le, last_below_none}
use Rattle.lists.proofs.Places.{Place, before, here, after, place}
use Rattle.cartesian.specs.Cartesian.{Tree, leaf, node, size, tree, tree_of, distances}
use Rattle.cartesian.proofs.HasTree.{tree_has}
use Rattle.cartesian.proofs.Structure.{or_else, tree_distances, distances_tree, length-tree_distances}
use Rattle.global_parents.specs.GlobalParents.{root_of, last_left_child, is_prefix_child, global_parent, global_parents}
use Rattle.global_parents.specs.Parents.{parents_from, parents}
use Rattle.global_parents.specs.Passes.{ParentsArePlaces}
use Rattle.global_parents.proofs.Prefix.{tree_of-take, left_children, last_prefix}
use Rattle.global_parents.proofs.Parts.{length-parents_from, parent_left, parent_root, parent_right, child_left, child_root, child_right, distance_left}
use Rattle.global_parents.proofs.Parts.{distance_root, distance_right}

pub length-global_parents : (ds : List ℕ) → length (global_parents ds) ≡ length ds
unfolding global_parents
length-global_parents ds = length-tabulate (length ds) (global_parent ds)

root_of_range : (a c : ℕ) (t : Tree) → root_of a t ≡ Some c → (a ≤ c) × (c < a + size t)
unfolding size
root_of_range a c leaf e = absurd (none-some c e)
root_of_range a c (node l r) e =
    let q : a + size l ≡ c = same_Some (a + size l) c e in
    (omega arith, omega arith)

-- a left child is in the tree, before its parent
child_range : (a j c : ℕ) (t : Tree) → j < size t → get_or (left_children a t) j None ≡ Some c → (a ≤ c) × (c < a + j)
unfolding size
child_range a j c leaf h e = absurd (let z : ⊥ = omega arith in z)
child_range a j c (node l r) h e = go j (place (size l) (size r) j h) e (λ k. child_range a k c l) (λ k. child_range (suc (a + size l)) k c r)
  where
    go : (j : ℕ) → Place (size l) (size r) j → get_or (left_children a (node l r)) j None ≡ Some c
        → ((k : ℕ) → k < size l → get_or (left_children a l) k None ≡ Some c → (a ≤ c) × (c < a + k))
        → ((k : ℕ) → k < size r → get_or (left_children (suc (a + size l)) r) k None ≡ Some c → (suc (a + size l) ≤ c) × (c < suc (a + size l) + k))
        → (a ≤ c) × (c < a + j)
    go j (before h) e hl hr = hl j h (rw (child_left a l r j h) at e)
    go _ here e hl hr = root_of_range a c l (rw (child_root a l r) at e)
    go _ (after k h) e hl hr =
        let p = hr k h (rw (child_right a l r k) at e) in
        (omega (arith, p.0), omega (arith, p.1))

-- the root has the parent that is given
parent_root_of : (a g k : ℕ) (t : Tree) → root_of a t ≡ Some (a + k) → get_or (parents_from a g t) k 0 ≡ g
parent_root_of a g k leaf e = absurd (none-some (a + k) e)
parent_root_of a g k (node l r) e =
    let q : a + size l ≡ a + k = same_Some (a + size l) (a + k) e in
    let p : k ≡ size l = omega arith in
    rw p (parent_root a g l r)

-- the place whose left child is k is the parent of k
parent_of_child : (a g j k : ℕ) (t : Tree) → j < size t → k < size t → get_or (left_children a t) j None ≡ Some (a + k) → get_or (parents_from a g t) k 0
    ≡ a + j
unfolding size
parent_of_child a g j k leaf hj hk e = absurd (let z : ⊥ = omega arith in z)
parent_of_child a g j k (node l r) hj hk e =
    go j (place (size l) (size r) j hj) k (place (size l) (size r) k hk) e (λ i n. parent_of_child a (a + size l) i n l)
    (λ i n. parent_of_child (suc (a + size l)) (a + size l) i n r)
  where
    go : (j : ℕ) → Place (size l) (size r) j → (k : ℕ) → Place (size l) (size r) k → get_or (left_children a (node l r)) j None ≡ Some (a + k)
        → ((i n : ℕ) → i < size l → n < size l → get_or (left_children a l) i None ≡ Some (a + n) → get_or (parents_from a (a + size l) l) n 0 ≡ a + i)
        → ((i n : ℕ) → i < size r → n < size r → get_or (left_children (suc (a + size l)) r) i None ≡ Some (suc (a + size l) + n) → get_or
        (parents_from (suc (a + size l)) (a + size l) r) n 0 ≡ suc (a + size l) + i)
        → get_or (parents_from a g (node l r)) k 0 ≡ a + j
    go j (before h) k (before h') e hl hr = parent_left a g l r k h' ∙ hl j k h h' (rw (child_left a l r j h) at e)
    go _ here k (before h') e hl hr = parent_left a g l r k h' ∙ parent_root_of a (a + size l) k l (rw (child_root a l r) at e)
    go _ (after i h) k (before h') e hl hr =
        let p = child_range (suc (a + size l)) i (a + k) r h (rw (child_right a l r i) at e) in
        absurd (let z : ⊥ = omega (arith, p.0) in z)
    go j (before h) _ here e hl hr =
        let p = child_range a j (a + size l) l h (rw (child_left a l r j h) at e) in
        absurd (let z : ⊥ = omega (arith, p.1) in z)
    go _ here _ here e hl hr =
        let p = root_of_range a (a + size l) l (rw (child_root a l r) at e) in
        absurd (let z : ⊥ = omega (arith, p.1) in z)
    go _ (after i h) _ here e hl hr =
        let p = child_range (suc (a + size l)) i (a + size l) r h (rw (child_right a l r i) at e) in
        absurd (let z : ⊥ = omega (arith, p.0) in z)
    go j (before h) _ (after n h') e hl hr =
        let p = child_range a j (a + (size l + suc n)) l h (rw (child_left a l r j h) at e) in
        absurd (let z : ⊥ = omega (arith, p.1) in z)
    go _ here _ (after n h') e hl hr =
        let p = root_of_range a (a + (size l + suc n)) l (rw (child_root a l r) at e) in
        absurd (let z : ⊥ = omega (arith, p.1) in z)
    go _ (after i h) _ (after n h') e hl hr =
        let q : a + (size l + suc n) ≡ suc (a + size l) + n = omega arith in
        parent_right a g l r n ∙ hr i n h h' (rw (child_right a l r i, q) at e) ∙ (omega arith)

-- place k of a tree whose first place is a is no left child
abbrev NoLeftChild : ℕ → Tree → ℕ → Type 0
NoLeftChild a t k = (j : ℕ) → j < size t → get_or (left_children a t) j None ≡ Some (a + k) → ⊥

-- place k is the root, with the distance 0 and the parent g, or its parent is before it at its
-- distance
abbrev RootOrBefore : ℕ → ℕ → Tree → ℕ → Type 0
RootOrBefore a g t k =
    ((root_of a t ≡ Some (a + k)) × (get_or (tree_distances t) k 0 ≡ 0) × (get_or (parents_from a g t) k 0 ≡ g))
    ⊎ ((0 < get_or (tree_distances t) k 0) × (get_or (parents_from a g t) k 0 + get_or (tree_distances t) k 0 ≡ a + k))

parent_of_other : (a g k : ℕ) (t : Tree) → k < size t → NoLeftChild a t k → RootOrBefore a g t k
unfolding size
parent_of_other a g k leaf h f = absurd (let z : ⊥ = omega arith in z)
parent_of_other a g k (node l r) h f =
    go k (place (size l) (size r) k h) f (λ n. parent_of_other a (a + size l) n l) (λ n. parent_of_other (suc (a + size l)) (a + size l) n r)
  where
    left : (k : ℕ) → k < size l → NoLeftChild a (node l r) k → RootOrBefore a (a + size l) l k → RootOrBefore a g (node l r) k
    left k h f (inl p) = absurd (f (size l) (omega arith) (child_root a l r ∙ p.0))
    left k h f (inr p) = inr (rw (distance_left l r k h, parent_left a g l r k h) p)

    right : (k : ℕ) → k < size r → RootOrBefore (suc (a + size l)) (a + size l) r k → RootOrBefore a g (node l r) (size l + suc k)
    right k h (inl p) =
        let d : get_or (tree_distances (node l r)) (size l + suc k) 0 ≡ suc k = distance_right l r k h ∙ ap (λ (i : ℕ). or_else i (suc k)) p.1 in
        let q : get_or (parents_from a g (node l r)) (size l + suc k) 0 ≡ a + size l = parent_right a g l r k ∙ p.2 in
        inr (rw (d, q) (omega arith, omega arith))
    right k h (inr p) =
        let d : get_or (tree_distances (node l r)) (size l + suc k) 0 ≡ get_or (tree_distances r) k 0 =
        distance_right l r k h ∙ positive (get_or (tree_distances r) k 0) (suc k) p.0 in
        inr (rw (d, parent_right a g l r k) (p.0, p.1 ∙ (omega arith)))
      where
        positive : (d b : ℕ) → 0 < d → or_else d b ≡ d
        positive zero b h = omega arith
        positive (suc d) b h = refl

    go : (k : ℕ) → Place (size l) (size r) k → NoLeftChild a (node l r) k
        → ((n : ℕ) → n < size l → NoLeftChild a l n → RootOrBefore a (a + size l) l n)
        → ((n : ℕ) → n < size r → NoLeftChild (suc (a + size l)) r n → RootOrBefore (suc (a + size l)) (a + size l) r n)
        → RootOrBefore a g (node l r) k
    go k (before h) f hl hr = left k h f (hl k h (λ j i e. f j (omega arith) (child_left a l r j i ∙ e)))
    go _ here f hl hr = inl (refl, distance_root l r, parent_root a g l r)
    go _ (after k h) f hl hr =
        let q : suc (a + size l) + k ≡ a + (size l + suc k) = omega arith in
        right k h (hr k h (λ j i e. f (size l + suc j) (omega arith) (child_right a l r j ∙ e ∙ ap Some q)))

-- ---- global parents

last_child : (t : Tree) (j : ℕ) → j < size t → last_left_child 0 (tree_of (take (suc j) (tree_distances t))) ≡ get_or (left_children 0 t) j None
last_child t j h = ap (last_left_child 0) (tree_of-take (suc j) t) ∙ last_prefix 0 j t h

-- i is the prefix child of j exactly if it is the left child of j in the tree
prefix_child : (t : Tree) (i j : ℕ) → j < size t → T (is_prefix_child (tree_distances t) i j) → get_or (left_children 0 t) j None ≡ Some i
unfolding is_prefix_child
prefix_child t i j h p = go (get_or (left_children 0 t) j None) (last_child t j h)
  where
    go : (o : Option ℕ) → last_left_child 0 (tree_of (take (suc j) (tree_distances t))) ≡ o → o ≡ Some i
    go None e = absurd (rw e at p)
    go (Some c) e = ap Some (eqb→eq c i (rw e at p))

child_prefix : (t : Tree) (i j : ℕ) → j < size t → get_or (left_children 0 t) j None ≡ Some i → T (is_prefix_child (tree_distances t) i j)
unfolding is_prefix_child
child_prefix t i j h e = rw (last_child t j h ∙ e) (eqb_refl i)

global_parent-node : (l r : Tree) (i : ℕ) → i < size (node l r) → global_parent (tree_distances (node l r)) i ≡ get_or (parents_from 0 (size l) (node l r)) i 0
unfolding global_parent
global_parent-node l r i h = go (last_below test (length ds)) refl
  where
    t : Tree
    t = node l r

    ds : List ℕ
    ds = tree_distances t

    test : ℕ → Bool
    test = λ j. ltb i j && is_prefix_child ds i j

    other : RootOrBefore 0 (size l) t i → i - get_or ds i 0 ≡ get_or (parents_from 0 (size l) t) i 0
    other (inl p) =
        let e : 0 + size l ≡ 0 + i = same_Some (0 + size l) (0 + i) p.0 in
        rw (p.1, p.2) (omega arith)
    other (inr p) = omega (arith, p.1)

    go : (q : ℕ) → last_below test (length ds) ≡ q → global_parent ds i ≡ get_or (parents_from 0 (size l) t) i 0
    go zero e =
        rw e
        (other (parent_of_other 0 (size l) i t h
        (λ j hj c.
        let c' : get_or (left_children 0 t) j None ≡ Some i = c ∙ ap Some (omega arith) in
        let b = child_range 0 j i t hj c' in
        last_below_none test (length ds) j (omega arith) (rw length-tree_distances hj)
        (and_join (ltb i j) (is_prefix_child ds i j) (lt→ltb i j (omega (arith, b.1))) (child_prefix t i j hj c')))))
    go (suc j) e =
        let hj : j < size t = omega (arith, last_below-le test (length ds), length-tree_distances t) in
        let p = and_split (ltb i j) (is_prefix_child ds i j) (last_below_passes test (length ds) j e) in
        let c : get_or (left_children 0 t) j None ≡ Some (0 + i) = prefix_child t i j hj p.1 ∙ ap Some (omega arith) in
        rw e (sym (parent_of_child 0 (size l) j i t hj h c ∙ (omega arith)))

pub global_parent_tree : (t : Tree) (i : ℕ) → i < size t → global_parent (tree_distances t) i ≡ get_or (parents t) i 0
unfolding parents size
global_parent_tree leaf i h = absurd (let z : ⊥ = omega arith in z)
global_parent_tree (node l r) i h = global_parent-node l r i h

length-parents : (t : Tree) → length (parents t) ≡ size t
unfolding parents size
length-parents leaf = refl
length-parents (node l r) = length-parents_from 0 (size l) (node l r)

pub global_parents_tree : (t : Tree) → global_parents (tree_distances t) ≡ parents t
unfolding global_parents
global_parents_tree t =
    let n = length (tree_distances t) in
    let e = length-tabulate n (global_parent (tree_distances t)) in
    ext_get_or 0 (global_parents (tree_distances t)) (parents t) (e ∙ length-tree_distances t ∙ sym (length-parents t))
    (λ i h. get_or-tabulate n (global_parent (tree_distances t)) 0 i (rw e at h) ∙ global_parent_tree t i (rw (e, length-tree_distances) at h))

-- THE LAW
pub global_parents-parents : (xs : List ℤ) → global_parents (distances xs) ≡ parents (tree xs)
global_parents-parents xs = ap global_parents (distances_tree (tree_has xs)) ∙ global_parents_tree (tree xs)

-- ---- global parents are places

global_parent-lt : (ds : List ℕ) (i : ℕ) → i < length ds → global_parent ds i < length ds
unfolding global_parent
global_parent-lt ds i h =
    go (last_below (λ j. ltb i j && is_prefix_child ds i j) (length ds)) refl (last_below-le (λ j. ltb i j && is_prefix_child ds i j) (length ds))
  where
    go : (q : ℕ) → last_below (λ j. ltb i j && is_prefix_child ds i j) (length ds) ≡ q → q ≤ length ds → global_parent ds i < length ds
    go zero e l = rw e (omega arith)
    go (suc j) e l = rw e l

pub global_parents_places : (ds : List ℕ) → ParentsArePlaces (global_parents ds)
unfolding global_parents
global_parents_places ds i h =
    let k : i < length ds = rw length-tabulate at h in
    rw (length-tabulate, get_or-tabulate (length ds) (global_parent ds) 0 i k) (global_parent-lt ds i k)
