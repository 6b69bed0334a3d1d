-- The tree of a list of distances is the tree of the values that have them: the last 0 is the root,
-- and what is after it is a window.
use Rattle.std.specs.Prelude.{◌≡◌, ◌∷◌, ◌++◌, ◌+◌, ◌-◌, ◌≤◌, ◌<◌}
use Rattle.lists.proofs.Prelude.{◌∙◌, ap, sym, refl, ap₂, List, [], ℕ, zero, suc, pred, ℤ, eqb, eqb→eq, length, get_or, take}
use Rattle.lists.proofs.Prelude.{drop, length-append, length-take, length-drop, take-append_seam, drop-append-add, get_or-append-add}
use Rattle.lists.proofs.Prelude.{get_or-append_seam, le_refl}
use Rattle.lists.proofs.Prelude.{arith, le-leb, lt-leb, last_below}
use Rattle.lists.proofs.LastBelow.{last_below-le, last_below_is}
use Rattle.cartesian.specs.Cartesian.{Tree, leaf, node, tree, distances, cut_from, root_place, tree_of_within, tree_of}
use Rattle.cartesian.proofs.HasTree.{tree_has}
use Rattle.cartesian.proofs.Structure.{lift, tree_distances, distances_tree}
use Rattle.cartesian.proofs.Injective.{NZ, lift_nz, Ok, tree_distances-Ok}
use Rattle.cartesian.proofs.Window.{length-cut_from}

-- the root's place is in the list
pub root_place_lt : (d : ℕ) (ds : List ℕ) → root_place (d ∷ ds) ≤ length ds
unfolding root_place
root_place_lt d ds = go (last_below (λ j. eqb (get_or (d ∷ ds) j 1) 0) (suc (length ds))) (last_below-le (λ j. eqb (get_or (d ∷ ds) j 1) 0) (suc (length ds)))
  where
    go : (q : ℕ) → q ≤ suc (length ds) → pred q ≤ length ds
    go q h = omega arith

length_left : (p : ℕ) (d : ℕ) (ds : List ℕ) → p ≤ length ds → length (take p (d ∷ ds)) ≤ length ds
length_left p d ds h = simp length-take (omega arith)

length_right : (p : ℕ) (d : ℕ) (ds : List ℕ) → length (cut_from 0 (drop (suc p) (d ∷ ds))) ≤ length ds
length_right p d ds = simp (length-cut_from, length-drop) (omega arith)

-- more fuel than the length changes nothing
tree_of_within_more : (n m : ℕ) (ds : List ℕ) → length ds ≤ n → length ds ≤ m → tree_of_within n ds ≡ tree_of_within m ds
unfolding tree_of_within
tree_of_within_more zero zero [] h k = refl
tree_of_within_more zero zero (x ∷ ds) h k = refl
tree_of_within_more zero (suc m) [] h k = refl
tree_of_within_more zero (suc m) (x ∷ ds) h k = absurd (let z : ⊥ = omega arith in z)
tree_of_within_more (suc n) zero [] h k = refl
tree_of_within_more (suc n) zero (x ∷ ds) h k = absurd (let z : ⊥ = omega arith in z)
tree_of_within_more (suc n) (suc m) [] h k = refl
tree_of_within_more (suc n) (suc m) (x ∷ ds) h k =
    let p = root_place (x ∷ ds) in
    let a = length_left p x ds (root_place_lt x ds) in
    let b = length_right p x ds in
    ap₂ node (tree_of_within_more n m (take p (x ∷ ds)) (omega arith) (omega arith))
    (tree_of_within_more n m (cut_from 0 (drop (suc p) (x ∷ ds))) (omega arith) (omega arith))

pub tree_of-cons : (d : ℕ) (ds : List ℕ) → tree_of (d ∷ ds) ≡ node (tree_of (take (root_place (d ∷ ds)) (d ∷ ds)))
    (tree_of (cut_from 0 (drop (suc (root_place (d ∷ ds))) (d ∷ ds))))
unfolding tree_of tree_of_within
tree_of-cons d ds =
    let p = root_place (d ∷ ds) in
    let a = length_left p d ds (root_place_lt d ds) in
    let b = length_right p d ds in
    ap₂ node (tree_of_within_more (length ds) (length (take p (d ∷ ds))) (take p (d ∷ ds)) a (le_refl _))
    (tree_of_within_more (length ds) (length (cut_from 0 (drop (suc p) (d ∷ ds)))) (cut_from 0 (drop (suc p) (d ∷ ds))) b (le_refl _))

tree_of_some : (ds : List ℕ) → 0 < length ds → tree_of ds ≡ node (tree_of (take (root_place ds) ds)) (tree_of (cut_from 0 (drop (suc (root_place ds)) ds)))
tree_of_some [] h = absurd (let z : ⊥ = omega arith in z)
tree_of_some (d ∷ ds) h = tree_of-cons d ds

nz_at : (b : List ℕ) (k : ℕ) → NZ b → k < length b → get_or b k 1 ≡ 0 → ⊥
nz_at [] k n h e = omega arith
nz_at (zero ∷ b) k n h e = n
nz_at (suc d ∷ b) zero n h e = omega arith
nz_at (suc d ∷ b) (suc k) n h e = nz_at b k n (omega arith) e

-- the last 0 is the root
root_at : (a b : List ℕ) → NZ b → root_place (a ++ (0 ∷ b)) ≡ length a
unfolding root_place
root_at a b n =
    ap pred (last_below_is (λ j. eqb (get_or (a ++ (0 ∷ b)) j 1) 0) (length (a ++ (0 ∷ b))) (length a) (rw length-append (omega arith))
    (rw (get_or-append_seam a 0 b 1) tt)
    (λ j l h t. after j l (rw length-append at h) (eqb→eq (get_or (a ++ (0 ∷ b)) j 1) 0 t)))
  where
    after : (j : ℕ) → length a < j → j < length a + suc (length b) → get_or (a ++ (0 ∷ b)) j 1 ≡ 0 → ⊥
    after j l h e =
        let k = j - suc (length a) in
        let q : j ≡ length a + suc k = omega arith in
        nz_at b k n (omega arith) (sym (get_or-append-add a (0 ∷ b) (suc k) 1) ∙ ap (λ (i : ℕ). get_or (a ++ (0 ∷ b)) i 1) (sym q) ∙ e)

pub tree_of_split : (a b : List ℕ) → NZ b → tree_of (a ++ (0 ∷ b)) ≡ node (tree_of a) (tree_of (cut_from 0 b))
tree_of_split a b n =
    let e : suc (length a) ≡ length a + 1 = omega arith in
    tree_of_some (a ++ (0 ∷ b)) (rw length-append (omega arith))
    ∙ rw (root_at a b n, take-append_seam a (0 ∷ b), e, drop-append-add a (0 ∷ b) 1) refl

-- what was lifted to the root is cut off again
pub cut_lift : (i : ℕ) (ds : List ℕ) → Ok i ds → cut_from i (lift (suc i) ds) ≡ ds
unfolding cut_from lift
cut_lift i [] o = refl
cut_lift i (zero ∷ ds) o =
    ap₂ (λ (d : ℕ) (l : List ℕ). d ∷ l) (rw (lt-leb (suc i) i (omega arith)) refl) (cut_lift (suc i) ds o.1)
cut_lift i (suc d ∷ ds) o =
    ap₂ (λ (d : ℕ) (l : List ℕ). d ∷ l) (rw (le-leb (suc d) i o.0) refl) (cut_lift (suc i) ds o.1)

pub tree_of-tree_distances : (t : Tree) → tree_of (tree_distances t) ≡ t
unfolding tree_distances tree_of tree_of_within
tree_of-tree_distances leaf = refl
tree_of-tree_distances (node l r) =
    tree_of_split (tree_distances l) (lift 1 (tree_distances r)) (lift_nz 0 (tree_distances r))
    ∙ ap₂ node (tree_of-tree_distances l) (ap tree_of (cut_lift 0 (tree_distances r) (tree_distances-Ok r)) ∙ tree_of-tree_distances r)

-- THE LAW: the tree of the distances of some values is the tree of the values
pub tree_of-distances : (xs : List ℤ) → tree_of (distances xs) ≡ tree xs
tree_of-distances xs = ap tree_of (distances_tree (tree_has xs)) ∙ tree_of-tree_distances (tree xs)
