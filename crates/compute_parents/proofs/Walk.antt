-- The walk to a prefix child, for realizable distances: each link skips only places that lead into
-- the part, so the first place that leads out of it is its root.
use Rattle.std.specs.Prelude.{◌≡◌, ◌⊎◌, ◌||◌, ◌+◌, ◌-◌, ◌≤◌, ◌<◌}
use Rattle.lists.proofs.Prelude.{◌∙◌, ap, sym, refl, subst, inl, inr, Bool, true, false, None, Some, same_Some, none-some}
use Rattle.lists.proofs.Prelude.{List, ℕ, zero, suc, T, eqb, ltb, length, get_or, add-one, dec_lt, arith, eq-eqb, ne_eqb, lt-ltb, le-ltb}
use Rattle.lists.proofs.Prelude.{ltb-false, last_below}
use Rattle.lists.proofs.Tests.{T-true, not_zero}
use Rattle.lists.proofs.LastBelow.{last_below-le, last_below_is, last_below_skip}
use Rattle.cartesian.specs.Cartesian.{Tree, size}
use Rattle.cartesian.proofs.Structure.{tree_distances, length-tree_distances}
use Rattle.realization.specs.Realization.{realizable}
use Rattle.realization.proofs.Realizable.{realizable_tree}
use Rattle.global_parents.proofs.Prefix.{tree_of-take, last_prefix}
use Rattle.compute_parents.specs.Steps.{after_link, left_start, is_root_from, prefix_child}
use Rattle.compute_parents.proofs.Links.{distance, distance-le, nested}
use Rattle.compute_parents.proofs.LeftPart.{RootOfPart, ChildOfPart, left_child}

-- ---- the test, as facts

root_yes : (d b k : ℕ) → (d ≡ 0) ⊎ (k < b + d) → eqb d 0 || ltb k (b + d) ≡ true
root_yes d b k (inl e) = rw (eq-eqb d 0 e) refl
root_yes d b k (inr h) = rw (lt-ltb k (b + d) h) (go (eqb d 0))
  where
    go : (t : Bool) → t || true ≡ true
    go true = refl
    go false = refl

root_no : (d b k : ℕ) → 0 < d → b + d ≤ k → eqb d 0 || ltb k (b + d) ≡ false
root_no d b k h l = rw (ne_eqb d 0 (λ e. omega arith), le-ltb k (b + d) l) refl

no_root : (d b k : ℕ) → eqb d 0 || ltb k (b + d) ≡ false → (0 < d) × (b + d ≤ k)
no_root d b k e = go (eqb d 0) refl e
  where
    go : (t : Bool) → eqb d 0 ≡ t → t || ltb k (b + d) ≡ false → (0 < d) × (b + d ≤ k)
    go true q r = absurd (subst T r tt)
    go false q r = (not_zero d q, ltb-false k (b + d) r)

-- a place that leads into the part
pub leads_on : (ds : List ℕ) (b k : ℕ) → is_root_from ds b k ≡ false → (0 < get_or ds k 0) × (b + get_or ds k 0 ≤ k)
leads_on ds b k e = no_root (get_or ds k 0) b k e

-- ---- the ways through the walk

pub walk_starts : (test : ℕ → Bool) (j : ℕ) → 0 < j → last_below test j ≡ last_below test (j - 1 + 1)
walk_starts test j h = ap (last_below test) (omega arith)

pub walk_ends : (test : ℕ → Bool) (k : ℕ) → test k ≡ true → k + 1 ≡ last_below test (k + 1)
unfolding last_below
walk_ends test k e = rw (add-one k, e) refl

pub found_lt : (test : ℕ → Bool) (j k : ℕ) → k + 1 ≡ last_below test j → k < j
found_lt test j k e = omega (arith, last_below-le test j)

walk_tree : (t : Tree) (b k : ℕ) → k < size t → is_root_from (tree_distances t) b k ≡ false
    → last_below (is_root_from (tree_distances t) b) (k + 1) ≡ last_below (is_root_from (tree_distances t) b) (k - distance t k + 1)
walk_tree t b k h e =
    let p = leads_on (tree_distances t) b k e in
    last_below_skip (is_root_from (tree_distances t) b) (k + 1) (k - distance t k + 1) (omega arith)
    (λ i m n u. subst T (go i (omega (arith, p.0, p.1)) n (dec_lt i k) p) u)
  where
    go : (i : ℕ) → k < i + distance t k → i < k + 1 → Dec (i < k) → (0 < distance t k) × (b + distance t k ≤ k) → is_root_from (tree_distances t) b i ≡ false
    go i m n (yes l) p =
        let q = nested t k i h l m in
        root_no (distance t i) b i q.0 (omega (arith, q.1, p.1))
    go i m n (no f) p = let s : i ≡ k = omega arith in rw s e

-- ---- for realizable distances

-- what holds of the distances of every tree
of_realizable : (P : List ℕ → Type 0) → ((t : Tree) → P (tree_distances t)) → (ds : List ℕ) → realizable ds ≡ true → P ds
of_realizable P f ds r =
    let p = realizable_tree ds (T-true (realizable ds) r) in
    subst P p.1 (f p.0)

pub link_le : (ds : List ℕ) (k : ℕ) → realizable ds ≡ true → k < length ds → get_or ds k 0 ≤ k
link_le ds k r = of_realizable (λ ds. k < length ds → get_or ds k 0 ≤ k) (λ t h. distance-le t k (rw length-tree_distances at h)) ds r

pub walk_goes_on : (ds : List ℕ) (b k : ℕ) → realizable ds ≡ true → k < length ds → is_root_from ds b k ≡ false
    → last_below (is_root_from ds b) (k + 1) ≡ last_below (is_root_from ds b) (k - get_or ds k 0 + 1)
walk_goes_on ds b k r =
    of_realizable (λ ds. k < length ds → is_root_from ds b k ≡ false → last_below (is_root_from ds b) (k + 1)
    ≡ last_below (is_root_from ds b) (k - get_or ds k 0 + 1))
    (λ t h. walk_tree t b k (rw length-tree_distances at h)) ds r

prefix_child_lem : (ds : List ℕ) (j : ℕ) → realizable ds ≡ true → j < length ds → ChildOfPart (λ k. get_or ds k 0) 0 (left_start ds j) j (prefix_child ds j)
prefix_child_lem ds j r =
    of_realizable (λ ds. j < length ds → ChildOfPart (λ k. get_or ds k 0) 0 (left_start ds j) j (prefix_child ds j))
    (λ t h.
    let h' : j < size t = rw length-tree_distances at h in
    rw (tree_of-take (suc j) t, last_prefix 0 j t h') (left_child t 0 j h')) ds r

-- the root of a part is the last of its places that leads to none of it
walk_finds : (ds : List ℕ) (b j c : ℕ) → RootOfPart (λ k. get_or ds k 0) b j c → last_below (is_root_from ds b) j ≡ suc c
walk_finds ds b j c p =
    last_below_is (is_root_from ds b) j c p.last (T-true _ (root_yes (get_or ds c 0) b c p.top))
    (λ i l h t.
    let n = p.inner i l h in
    subst T (root_no (get_or ds i 0) b i n.0 n.1) t)

pub start_le : (ds : List ℕ) (j : ℕ) → left_start ds j ≤ j
start_le ds j = go (get_or ds j 0)
  where
    go : (d : ℕ) → after_link j d ≤ j
    go zero = omega arith
    go (suc d) = omega arith

-- an empty left part has no child
pub child_none : (ds : List ℕ) (j : ℕ) → realizable ds ≡ true → j < length ds → j ≤ left_start ds j → prefix_child ds j ≡ None
child_none ds j r h l = go (prefix_child_lem ds j r h)
  where
    go : ChildOfPart (λ k. get_or ds k 0) 0 (left_start ds j) j (prefix_child ds j) → prefix_child ds j ≡ None
    go (inl p) = p.1
    go (inr (c, q, p)) = absurd (let z : ⊥ = omega (arith, p.first, p.last) in z)

-- any other has the one that the walk finds
pub child_some : (ds : List ℕ) (j k : ℕ) → realizable ds ≡ true → j < length ds → left_start ds j < j
    → k + 1 ≡ last_below (is_root_from ds (left_start ds j)) j → prefix_child ds j ≡ Some k
child_some ds j k r h l e = go (prefix_child_lem ds j r h)
  where
    go : ChildOfPart (λ k. get_or ds k 0) 0 (left_start ds j) j (prefix_child ds j) → prefix_child ds j ≡ Some k
    go (inl p) = absurd (let z : ⊥ = omega (arith, p.0) in z)
    go (inr (c, q, p)) = q ∙ ap Some (let s = walk_finds ds (left_start ds j) j c p in omega arith)

-- a prefix child is before its parent
pub child_lt : (ds : List ℕ) (j c : ℕ) → realizable ds ≡ true → j < length ds → prefix_child ds j ≡ Some c → c < j
child_lt ds j c r h e = go (prefix_child_lem ds j r h)
  where
    go : ChildOfPart (λ k. get_or ds k 0) 0 (left_start ds j) j (prefix_child ds j) → c < j
    go (inl p) = absurd (none-some c (sym p.1 ∙ e))
    go (inr (i, q, p)) =
        let s : 0 + i ≡ c = same_Some (0 + i) c (sym q ∙ e) in
        omega (arith, p.last)
