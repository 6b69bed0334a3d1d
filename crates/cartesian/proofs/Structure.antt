-- The distances are a function of the tree: two lists with one tree have one list of distances.
use Rattle.std.specs.Prelude.{◌≡◌, ◌∷◌, ◌++◌, ◌+◌, ◌<◌, ◌≤ℤ◌, ◌<ℤ◌}
use Rattle.lists.proofs.Places.{get_or_before, get_or_after}
use Rattle.lists.proofs.Prelude.{get_or_at, ◌∙◌, ap, sym, refl, ap₂, Bool, true, false, cond, List, [], ℕ, zero, suc, ℤ, le_z}
use Rattle.lists.proofs.Prelude.{length, get_or, length-append, add-zero, arith}
use Rattle.lists.proofs.Order.{le-le_z, lt-le_z}
use Rattle.cartesian.specs.Cartesian.{Tree, leaf, node, size, distances}
use Rattle.cartesian.proofs.ByList.{back, dists_from, onto, dists_app, distances_list}
use Rattle.cartesian.proofs.HasTree.{Over, over_nil, over_cons, HasTree, empty, root}

-- a where it is not 0, and else b
abbrev pub or_else : ℕ → ℕ → ℕ
or_else zero b = b
or_else (suc a) b = suc a

-- the distances of what stands after a smaller or equal value: each 0 becomes the distance to that
-- value
unfoldable pub lift : ℕ → List ℕ → List ℕ
lift k [] = []
lift k (d ∷ ds) = or_else d k ∷ lift (suc k) ds

pub get_or-lift : (k : ℕ) (ds : List ℕ) (j : ℕ) → j < length ds → get_or (lift k ds) j 0 ≡ or_else (get_or ds j 0) (k + j)
unfolding lift
get_or-lift k [] j h = absurd (let z : ⊥ = omega arith in z)
get_or-lift k (d ∷ ds) zero h = rw add-zero refl
get_or-lift k (d ∷ ds) (suc j) h = let e : k + suc j ≡ suc k + j = omega arith in rw e (get_or-lift (suc k) ds j (omega arith))

-- the distances of a tree: the root has 0, and what is on its right and had 0 now reaches the root
unfoldable pub tree_distances : Tree → List ℕ
tree_distances leaf = []
tree_distances (node l r) = tree_distances l ++ (0 ∷ lift 1 (tree_distances r))

back_app : (q z : List ℤ) (x y : ℤ) (k : ℕ) → le_z x y ≡ true → back (q ++ (x ∷ z)) y (suc k) ≡ or_else (back q y (suc k)) (suc k + length q)
unfolding back
back_app [] z x y k e = rw e (sym (add-zero (suc k)))
back_app (w ∷ q) z x y k e = go (le_z w y) (back_app q z x y (suc k) e)
  where
    go : (b : Bool) → back (q ++ (x ∷ z)) y (suc (suc k)) ≡ or_else (back q y (suc (suc k))) (suc (suc k) + length q)
        → cond b (suc k) (back (q ++ (x ∷ z)) y (suc (suc k))) ≡ or_else (cond b (suc k) (back q y (suc (suc k)))) (suc k + suc (length q))
    go true h = refl
    go false h = h ∙ ap (or_else (back q y (suc (suc k)))) (omega arith)

dists_lift : (q z r : List ℤ) (x : ℤ) → Over (λ (y : ℤ). x ≤ℤ y) r → dists_from (q ++ (x ∷ z)) r ≡ lift (suc (length q)) (dists_from q r)
unfolding dists_from lift
dists_lift q z [] x over_nil = refl
dists_lift q z (y ∷ ys) x (over_cons h hs) =
    ap₂ (λ (d : ℕ) (l : List ℕ). d ∷ l) (back_app q z x y 0 (le-le_z h) ∙ ap (or_else (back q y 1)) (omega arith)) (dists_lift (y ∷ q) z ys x hs)

-- nothing at most x stands before it
back_none : (q : List ℤ) (x : ℤ) (k : ℕ) → Over (λ (y : ℤ). x <ℤ y) q → back q x k ≡ 0
unfolding back
back_none [] x k over_nil = refl
back_none (y ∷ q) x k (over_cons h hs) = rw (lt-le_z h) (back_none q x (suc k) hs)

Over-onto : {P : ℤ → Type 0} (xs rev : List ℤ) → Over P xs → Over P rev → Over P (onto xs rev)
unfolding onto
Over-onto [] rev over_nil k = k
Over-onto (x ∷ xs) rev (over_cons h hs) k = Over-onto xs (x ∷ rev) hs (over_cons h k)

dists_node : (l r : List ℤ) (x : ℤ) → Over (λ (y : ℤ). x <ℤ y) l → Over (λ (y : ℤ). x ≤ℤ y) r
    → dists_from [] (l ++ (x ∷ r)) ≡ dists_from [] l ++ (0 ∷ lift 1 (dists_from [] r))
unfolding dists_from
dists_node l r x hl hr =
    dists_app [] l (x ∷ r)
    ∙ ap (λ (t : List ℕ). dists_from [] l ++ t)
    (ap₂ (λ (d : ℕ) (t : List ℕ). d ∷ t) (back_none (onto l []) x 1 (Over-onto l [] hl over_nil)) (dists_lift [] (onto l []) r x hr))

-- the distances are those of the tree
dists_tree : {xs : List ℤ} {t : Tree} → HasTree xs t → dists_from [] xs ≡ tree_distances t
unfolding tree_distances dists_from
dists_tree empty = refl
dists_tree (root l r x hl hr tl tr) =
    dists_node l r x hl hr ∙ ap₂ (λ (a b : List ℕ). a ++ (0 ∷ lift 1 b)) (dists_tree tl) (dists_tree tr)

pub distances_tree : {xs : List ℤ} {t : Tree} → HasTree xs t → distances xs ≡ tree_distances t
distances_tree {xs} h = distances_list xs ∙ dists_tree h

pub same_tree_lem : {xs ys : List ℤ} {t : Tree} → HasTree xs t → HasTree ys t → distances xs ≡ distances ys
same_tree_lem h k = distances_tree h ∙ sym (distances_tree k)

-- ---- lengths

pub length-lift : (k : ℕ) (ds : List ℕ) → length (lift k ds) ≡ length ds
unfolding lift
length-lift k [] = refl
length-lift k (d ∷ ds) = ap suc (length-lift (suc k) ds)

pub length-tree_distances : (t : Tree) → length (tree_distances t) ≡ size t
unfolding tree_distances size
length-tree_distances leaf = refl
length-tree_distances (node l r) = rw (length-append, length-lift, length-tree_distances l, length-tree_distances r) refl

-- ---- the distances of a node: at a place on its left, at its root, at a place on its right

pub distance_left : (l r : Tree) (k : ℕ) → k < size l → get_or (tree_distances (node l r)) k 0 ≡ get_or (tree_distances l) k 0
unfolding tree_distances
distance_left l r k h = get_or_before (tree_distances l) 0 (lift 1 (tree_distances r)) 0 (size l) k (length-tree_distances l) h

pub distance_root : (l r : Tree) → get_or (tree_distances (node l r)) (size l) 0 ≡ 0
unfolding tree_distances
distance_root l r = get_or_at (tree_distances l) 0 (lift 1 (tree_distances r)) 0 (size l) (length-tree_distances l)

pub distance_right : (l r : Tree) (k : ℕ) → k < size r → get_or (tree_distances (node l r)) (size l + suc k) 0 ≡ or_else (get_or (tree_distances r) k 0) (suc k)
unfolding tree_distances
distance_right l r k h =
    get_or_after (tree_distances l) 0 (lift 1 (tree_distances r)) 0 (size l) k (length-tree_distances l)
    ∙ get_or-lift 1 (tree_distances r) k (rw length-tree_distances h)
    ∙ ap (or_else (get_or (tree_distances r) k 0)) (omega arith)
