-- The least realization has the list, is not negative, and is at every place no larger than any
-- other such values: by induction on the tree, what is left of a root is above it, so at least one
-- higher than any bound of the root.
use Rattle.std.specs.Prelude.{◌≡◌, ◌∷◌, ◌++◌, ◌≤◌, ◌≤ℤ◌, ◌<ℤ◌}
use Rattle.lists.proofs.Order.{pos_above, ≤ℤ-trans}
use Rattle.lists.proofs.Prelude.{true, ◌∙◌, ap, sym, subst, List, [], map, ℕ, zero, suc, ℤ, pos, le_z_yes, ≤ℤ_refl, T, le→leb}
use Rattle.lists.proofs.Prelude.{length, get_or, get_or-map}
use Rattle.lists.proofs.Tests.{T-true}
use Rattle.cartesian.proofs.Sizes.{size-tree_of}
use Rattle.cartesian.specs.Cartesian.{Tree, tree, distances, tree_of}
use Rattle.cartesian.proofs.Seek.{length-distances}
use Rattle.cartesian.proofs.HasTree.{Over, over_nil, over_cons, HasTree, empty, root, tree_has, Over-at}
use Rattle.cartesian.proofs.Structure.{tree_distances}
use Rattle.cartesian.proofs.TreeOf.{tree_of-tree_distances, tree_of-distances}
use Rattle.realization.specs.Realization.{Realizable, realizable, left_turns, least_realization, IsLeast}
use Rattle.realization.proofs.LeftTurns.{risen, risen-Over, turns_risen, turns_distances, turns_bound}
use Rattle.realization.proofs.Realizable.{realizable_iff, realizable_tree}

-- ---- the tree of a realizable list

pub tree_distances-tree_of : (ds : List ℕ) → T (realizable ds) → tree_distances (tree_of ds) ≡ ds
tree_distances-tree_of ds h =
    let r = realizable_tree ds h in
    ap tree_distances (ap tree_of (sym r.1) ∙ tree_of-tree_distances r.0) ∙ r.1

pub least_distances : (ds : List ℕ) → T (realizable ds) → distances (least_realization ds) ≡ ds
unfolding least_realization
least_distances ds h = turns_distances (tree_of ds) ∙ tree_distances-tree_of ds h

pub least_tree : (ds : List ℕ) → T (realizable ds) → tree (least_realization ds) ≡ tree_of ds
least_tree ds h = sym (tree_of-distances (least_realization ds)) ∙ ap tree_of (least_distances ds h)

pub length_least : (ds : List ℕ) → T (realizable ds) → length (least_realization ds) ≡ length ds
length_least ds h = sym (length-distances (least_realization ds)) ∙ ap length (least_distances ds h)

pub length-least_realization : (ds : List ℕ) → realizable ds ≡ true → length (least_realization ds) ≡ length ds
length-least_realization ds e = length_least ds (T-true (realizable ds) e)

-- ---- at every place no larger

-- place by place no larger, over lists of one length
data Under : List ℤ → List ℤ → Type 0 where
  under_nil : Under [] []
  under_cons : {x y : ℤ} {xs ys : List ℤ} → x ≤ℤ y → Under xs ys → Under (x ∷ xs) (y ∷ ys)

Under-append : {us vs xs ys : List ℤ} → Under us vs → Under xs ys → Under (us ++ xs) (vs ++ ys)
Under-append under_nil k = k
Under-append (under_cons h hs) k = under_cons h (Under-append hs k)

Under-at : {xs ys : List ℤ} → Under xs ys → (i : ℕ) → get_or xs i (pos 0) ≤ℤ get_or ys i (pos 0)
Under-at under_nil i = ≤ℤ_refl (pos 0)
Under-at (under_cons h hs) zero = h
Under-at (under_cons h hs) (suc i) = Under-at hs i

all_more : (c : ℕ) (x : ℤ) (ys : List ℤ) → pos c ≤ℤ x → Over (λ y. x <ℤ y) ys → Over (λ y. pos (suc c) ≤ℤ y) ys
all_more c x [] h over_nil = over_nil
all_more c x (y ∷ ys) h (over_cons k ks) = over_cons (pos_above c x y h k) (all_more c x ys h ks)

all_from : (c : ℕ) (x : ℤ) (ys : List ℤ) → pos c ≤ℤ x → Over (λ y. x ≤ℤ y) ys → Over (λ y. pos c ≤ℤ y) ys
all_from c x [] h over_nil = over_nil
all_from c x (y ∷ ys) h (over_cons k ks) = over_cons (≤ℤ-trans h k) (all_from c x ys h ks)

Over-middle : {P : ℤ → Type 0} (l : List ℤ) (x : ℤ) (r : List ℤ) → Over P (l ++ (x ∷ r)) → P x
Over-middle [] x r (over_cons h hs) = h
Over-middle (y ∷ l) x r (over_cons h hs) = Over-middle l x r hs

-- values that have the tree and are all at least c are at least the left-turn counts, each higher
-- by c
Under-risen : {ys : List ℤ} {t : Tree} (c : ℕ) → HasTree ys t → Over (λ y. pos c ≤ℤ y) ys → Under (risen c t) ys
unfolding risen
Under-risen c empty o = under_nil
Under-risen c (root l r x hl hr tl tr) o =
    let hx = Over-middle l x r o in
    Under-append (Under-risen (suc c) tl (all_more c x l hx hl)) (under_cons hx (Under-risen c tr (all_from c x r hx hr)))

-- ---- the law

Over-place : (P : ℤ → Type 0) (xs : List ℤ) → Over P xs → P (pos 0) → (i : ℕ) → P (get_or xs i (pos 0))
Over-place P [] over_nil z i = z
Over-place P (x ∷ xs) (over_cons h hs) z zero = h
Over-place P (x ∷ xs) (over_cons h hs) z (suc i) = Over-place P xs hs z i

least_not_negative : (ds : List ℕ) (i : ℕ) → pos 0 ≤ℤ get_or (least_realization ds) i (pos 0)
unfolding least_realization
least_not_negative ds i =
    Over-place (λ x. pos 0 ≤ℤ x) (map pos (left_turns (tree_of ds)))
    (subst (λ (l : List ℤ). Over (λ x. pos 0 ≤ℤ x) l) (sym (turns_risen (tree_of ds))) (risen-Over 0 (tree_of ds)))
    (≤ℤ_refl (pos 0)) i

pub least_realization_least : (ds : List ℕ) → Realizable ds → IsLeast ds (least_realization ds)
unfolding least_realization
least_realization_least ds p =
    let h = (realizable_iff ds).1 p in
    record {
      has = least_distances ds h;
      not_negative = least_not_negative ds;
      least = λ ys e n i.
          let t : tree_of ds ≡ tree ys = ap tree_of (sym e) ∙ tree_of-distances ys in
          Under-at
          (subst (λ (l : List ℤ). Under l ys) (sym (ap (λ (u : Tree). map pos (left_turns u)) t ∙ turns_risen (tree ys)))
          (Under-risen 0 (tree_has ys) (Over-at (λ y. pos 0 ≤ℤ y) ys (λ j l. n j)))) i;
    }

-- the values of a list of at most n + 1 distances are at most n
pub least_bound : (ds : List ℕ) (n : ℕ) → T (realizable ds) → length ds ≤ suc n → (i : ℕ) → get_or (least_realization ds) i (pos 0) ≤ℤ pos n
unfolding least_realization
least_bound ds n h k i =
    let b = turns_bound (tree_of ds) n (rw (size-tree_of ds) k) i in
    rw (get_or-map pos (left_turns (tree_of ds)) i 0) (le_z_yes (le→leb (get_or (left_turns (tree_of ds)) i 0) n b))
