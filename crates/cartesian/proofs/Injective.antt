-- The tree is a function of the distances: one list of distances has one tree.
use Rattle.std.specs.Prelude.{◌≤◌, ◌+◌, ◌≡◌, ◌∷◌, ◌++◌}
use Rattle.lists.proofs.Prelude.{get_or, arith, zero, suc, ◌∙◌, sym, refl, subst, ap₂, List, [], nil≢cons, cons≢nil, head-eq_of_cons-eq}
use Rattle.lists.proofs.Prelude.{tail-eq_of_cons-eq, ℕ, zero-le, ℤ, length, le_refl, add-zero}
use Rattle.cartesian.specs.Cartesian.{distances, Tree, leaf, node}
use Rattle.cartesian.proofs.HasTree.{HasTree}
use Rattle.cartesian.proofs.Structure.{or_else, lift, tree_distances, distances_tree}

-- no 0 in the list
abbrev pub NZ : List ℕ → Type 0
NZ [] = Unit {0}
NZ (zero ∷ ds) = ⊥
NZ (suc d ∷ ds) = NZ ds

pub nz_no : (a b : List ℕ) → NZ (a ++ (0 ∷ b)) → ⊥
nz_no [] b h = h
nz_no (zero ∷ a) b h = h
nz_no (suc d ∷ a) b h = nz_no a b h

pub lift_nz : (k : ℕ) (ds : List ℕ) → NZ (lift (suc k) ds)
unfolding lift
lift_nz k [] = tt
lift_nz k (zero ∷ ds) = lift_nz (suc k) ds
lift_nz k (suc d ∷ ds) = lift_nz (suc k) ds

-- the last 0 splits a list in one way
pub split : (a c b d : List ℕ) → NZ b → NZ d → a ++ (0 ∷ b) ≡ c ++ (0 ∷ d) → (a ≡ c) × (b ≡ d)
split [] [] b d hb hd e = (refl, tail-eq_of_cons-eq e)
split [] (x ∷ c) b d hb hd e = absurd (nz_no c d (subst NZ (tail-eq_of_cons-eq e) hb))
split (x ∷ a) [] b d hb hd e = absurd (nz_no a b (subst NZ (sym (tail-eq_of_cons-eq e)) hd))
split (x ∷ a) (y ∷ c) b d hb hd e =
    let p = split a c b d hb hd (tail-eq_of_cons-eq e) in
    (ap₂ (λ (z : ℕ) (l : List ℕ). z ∷ l) (head-eq_of_cons-eq e) p.0, p.1)

-- a distance is at most its place
abbrev pub Ok : ℕ → List ℕ → Type 0
Ok k [] = Unit {0}
Ok k (d ∷ ds) = (d ≤ k) × Ok (suc k) ds

pub Ok-more : (k m : ℕ) (ds : List ℕ) → k ≤ m → Ok k ds → Ok m ds
Ok-more k m [] h o = tt
Ok-more k m (d ∷ ds) h o = (omega (arith, o.0), Ok-more (suc k) (suc m) ds (omega arith) o.1)

pub Ok-app : (k : ℕ) (a b : List ℕ) → Ok k a → Ok (k + length a) b → Ok k (a ++ b)
Ok-app k [] b oa ob = rw add-zero at ob
Ok-app k (x ∷ a) b oa ob =
    let e : k + suc (length a) ≡ suc k + length a = omega arith in
    (oa.0, Ok-app (suc k) a b oa.1 (rw e at ob))

Ok-lift : (k : ℕ) (ds : List ℕ) → Ok k ds → Ok (suc k) (lift (suc k) ds)
unfolding lift
Ok-lift k [] o = tt
Ok-lift k (zero ∷ ds) o = (le_refl (suc k), Ok-lift (suc k) ds o.1)
Ok-lift k (suc d ∷ ds) o = (omega (arith, o.0), Ok-lift (suc k) ds o.1)

pub tree_distances-Ok : (t : Tree) → Ok 0 (tree_distances t)
unfolding tree_distances
tree_distances-Ok leaf = tt
tree_distances-Ok (node l r) =
    Ok-app 0 (tree_distances l) (0 ∷ lift 1 (tree_distances r)) (tree_distances-Ok l)
    (zero-le, Ok-more 1 (suc (0 + length (tree_distances l))) (lift 1 (tree_distances r)) (omega arith) (Ok-lift 0 (tree_distances r) (tree_distances-Ok r)))

or_inj : (k d e : ℕ) → d ≤ k → e ≤ k → or_else d (suc k) ≡ or_else e (suc k) → d ≡ e
or_inj k zero zero hd he p = refl
or_inj k zero (suc e) hd he p = omega arith
or_inj k (suc d) zero hd he p = omega arith
or_inj k (suc d) (suc e) hd he p = p

pub lift_inj : (k : ℕ) (ds es : List ℕ) → Ok k ds → Ok k es → lift (suc k) ds ≡ lift (suc k) es → ds ≡ es
unfolding lift
lift_inj k [] [] od oe p = refl
lift_inj k [] (e ∷ es) od oe p = absurd (nil≢cons p)
lift_inj k (d ∷ ds) [] od oe p = absurd (cons≢nil p)
lift_inj k (d ∷ ds) (e ∷ es) od oe p =
    ap₂ (λ (z : ℕ) (l : List ℕ). z ∷ l) (or_inj k d e od.0 oe.0 (head-eq_of_cons-eq p)) (lift_inj (suc k) ds es od.1 oe.1 (tail-eq_of_cons-eq p))

no_nil : (a b : List ℕ) → [] ≡ a ++ (0 ∷ b) → ⊥
no_nil [] b e = nil≢cons e
no_nil (x ∷ a) b e = nil≢cons e

pub tree_distances_injective : (t u : Tree) → tree_distances t ≡ tree_distances u → t ≡ u
unfolding tree_distances
tree_distances_injective leaf leaf e = refl
tree_distances_injective leaf (node l r) e = absurd (no_nil (tree_distances l) (lift 1 (tree_distances r)) e)
tree_distances_injective (node l r) leaf e = absurd (no_nil (tree_distances l) (lift 1 (tree_distances r)) (sym e))
tree_distances_injective (node l r) (node m s) e =
    let p =
    split (tree_distances l) (tree_distances m) (lift 1 (tree_distances r)) (lift 1 (tree_distances s)) (lift_nz 0 (tree_distances r))
    (lift_nz 0 (tree_distances s)) e in
    ap₂ node (tree_distances_injective l m p.0)
    (tree_distances_injective r s (lift_inj 0 (tree_distances r) (tree_distances s) (tree_distances-Ok r) (tree_distances-Ok s) p.1))

-- two lists match exactly where their distances are equal
pub same_distances : {xs ys : List ℤ} {t u : Tree} → HasTree xs t → HasTree ys u → distances xs ≡ distances ys → t ≡ u
same_distances {t = t} {u = u} h k e = tree_distances_injective t u (sym (distances_tree h) ∙ e ∙ distances_tree k)

-- each distance of such a list leads to one of the k places before it, or to a place of the list
pub Ok-at : (k : ℕ) (ds : List ℕ) (j : ℕ) → Ok k ds → get_or ds j 0 ≤ k + j
Ok-at k [] j o = omega arith
Ok-at k (d ∷ ds) zero o = omega (arith, o.0)
Ok-at k (d ∷ ds) (suc j) o = omega (arith, Ok-at (suc k) ds j o.1)
