-- The tree as a relation, for proofs by induction, and that `tree` computes it.
use Rattle.std.specs.Prelude.{◌≡◌, ◌⊎◌, ◌∷◌, ◌++◌, ◌+◌, ◌≤◌, ◌<◌, ◌≤ℤ◌, ◌<ℤ◌}
use Rattle.lists.proofs.Prelude.{◌∙◌, ap, sym, refl, subst, ap₂, inl, inr, ⊎_elim, Bool, true, false, cond, not, List, [], ℕ, zero, suc}
use Rattle.lists.proofs.Prelude.{ℤ, pos, lt_z, lt_z_yes, ≤ℤ_refl, <ℤ-≤ℤ_trans, lt_z_no, length, get_or, take, drop, length-take}
use Rattle.lists.proofs.Prelude.{length-drop, get_or-take, get_or-drop, split_at, le_refl, add-zero, add-suc, arith, not-true}
use Rattle.lists.proofs.Tests.{T-true}
use Rattle.lists.proofs.Order.{le_z-not-lt_z, le-le_z, <ℤ-≤ℤ}
use Rattle.cartesian.specs.Cartesian.{Tree, leaf, node, leftmost_from, leftmost, tree_within, tree}

-- of two equal values the earlier one is the root
pub equal_tree : (x : ℤ) → tree (x ∷ x ∷ []) ≡ node leaf (node leaf leaf)
unfolding tree tree_within leftmost leftmost_from
equal_tree x =
    let e : lt_z x x ≡ false = not-true (lt_z x x) (sym (le_z-not-lt_z x x) ∙ le-le_z (≤ℤ_refl x)) in
    rw e refl

-- every element of a list has P
pub data Over (P : ℤ → Type 0) : List ℤ → Type 0 where
  over_nil : Over P []
  over_cons : {x : ℤ} {xs : List ℤ} → P x → Over P xs → Over P (x ∷ xs)

-- t is the tree of xs: a root x that is below all before it and not above any after it
pub data HasTree : List ℤ → Tree → Type 0 where
  empty : HasTree [] leaf
  root : (l r : List ℤ) (x : ℤ) {tl tr : Tree} → Over (λ y. x <ℤ y) l → Over (λ y. x ≤ℤ y) r → HasTree l tl → HasTree r tr → HasTree (l ++ (x ∷ r)) (node tl tr)

-- the place of the minimum is in the list
leftmost_from-lt : (m : ℤ) (b i : ℕ) (xs : List ℤ) → b < i → leftmost_from m b i xs < i + length xs
unfolding leftmost_from
leftmost_from-lt m b i [] h = omega arith
leftmost_from-lt m b i (x ∷ xs) h = go (lt_z x m) (leftmost_from-lt x i (suc i) xs (omega arith)) (leftmost_from-lt m b (suc i) xs (omega arith))
  where
    go : (t : Bool) → leftmost_from x i (suc i) xs < suc i + length xs → leftmost_from m b (suc i) xs < suc i + length xs
        → cond t (leftmost_from x i (suc i) xs) (leftmost_from m b (suc i) xs) < i + suc (length xs)
    go true p q = omega arith
    go false p q = omega arith

pub leftmost_lt : (x : ℤ) (xs : List ℤ) → leftmost (x ∷ xs) ≤ length xs
unfolding leftmost
leftmost_lt x xs = omega (arith, leftmost_from-lt x 0 1 xs (omega arith))

-- more fuel than the length changes nothing: what every lemma about `tree` needs first
tree_within_more : (n m : ℕ) (xs : List ℤ) → length xs ≤ n → length xs ≤ m → tree_within n xs ≡ tree_within m xs
unfolding tree_within
tree_within_more zero zero [] h k = refl
tree_within_more zero zero (x ∷ xs) h k = refl
tree_within_more zero (suc m) [] h k = refl
tree_within_more zero (suc m) (x ∷ xs) h k = absurd (let z : ⊥ = omega arith in z)
tree_within_more (suc n) zero [] h k = refl
tree_within_more (suc n) zero (x ∷ xs) h k = absurd (let z : ⊥ = omega arith in z)
tree_within_more (suc n) (suc m) [] h k = refl
tree_within_more (suc n) (suc m) (x ∷ xs) h k =
    let p = leftmost (x ∷ xs) in
    let q = leftmost_lt x xs in
    let lt : length (take p (x ∷ xs)) ≤ length xs = simp length-take (omega arith) in
    let ld : length (drop (suc p) (x ∷ xs)) ≤ length xs = simp length-drop (omega arith) in
    ap₂ node (tree_within_more n m (take p (x ∷ xs)) (omega arith) (omega arith)) (tree_within_more n m (drop (suc p) (x ∷ xs)) (omega arith) (omega arith))

-- the equation that a reader expects
pub tree-cons : (x : ℤ) (xs : List ℤ) → tree (x ∷ xs) ≡ node (tree (take (leftmost (x ∷ xs)) (x ∷ xs))) (tree (drop (suc (leftmost (x ∷ xs))) (x ∷ xs)))
unfolding tree tree_within
tree-cons x xs =
    let p = leftmost (x ∷ xs) in
    let q = leftmost_lt x xs in
    let lt : length (take p (x ∷ xs)) ≤ length xs = simp length-take (omega arith) in
    let ld : length (drop (suc p) (x ∷ xs)) ≤ length xs = simp length-drop (omega arith) in
    ap₂ node (tree_within_more (length xs) (length (take p (x ∷ xs))) (take p (x ∷ xs)) lt (le_refl _))
    (tree_within_more (length xs) (length (drop (suc p) (x ∷ xs))) (drop (suc p) (x ∷ xs)) ld (le_refl _))

-- every place below n
below_suc : (P : ℕ → Type 0) (n : ℕ) → ((j : ℕ) → j < n → P j) → P n → (j : ℕ) → j < suc n → P j
below_suc P n f p j h = ⊎_elim (λ l. f j l) (λ e. subst P (sym e) p) (lt_or_eq j n h)
  where
    lt_or_eq : (j n : ℕ) → j < suc n → (j < n) ⊎ (j ≡ n)
    lt_or_eq zero zero h = inr refl
    lt_or_eq zero (suc n) h = inl (omega arith)
    lt_or_eq (suc j) zero h = absurd (let z : ⊥ = omega arith in z)
    lt_or_eq (suc j) (suc n) h = ⊎_elim (λ l. inl (omega arith)) (λ e. inr (ap suc e)) (lt_or_eq j n (omega arith))

-- v is less than all before p and at most all below n
abbrev Best : List ℤ → ℕ → ℕ → Type 0
Best L p n = ((j : ℕ) → j < p → get_or L p (pos 0) <ℤ get_or L j (pos 0)) × ((j : ℕ) → j < n → get_or L p (pos 0) ≤ℤ get_or L j (pos 0))

leftmost_from-Best : (L : List ℤ) (b i : ℕ) (xs : List ℤ) → ((j : ℕ) → get_or xs j (pos 0) ≡ get_or L (i + j) (pos 0)) → Best L b i
    → Best L (leftmost_from (get_or L b (pos 0)) b i xs) (i + length xs)
unfolding leftmost_from
leftmost_from-Best L b i [] s h = rw add-zero h
leftmost_from-Best L b i (x ∷ xs) s h =
    let e : x ≡ get_or L i (pos 0) = rw add-zero at (s 0) in
    let s' : (j : ℕ) → get_or xs j (pos 0) ≡ get_or L (suc i + j) (pos 0) = λ j. s (suc j) ∙ ap (λ (k : ℕ). get_or L k (pos 0)) (omega arith) in
    rw (e, add-suc)
    (go (lt_z (get_or L i (pos 0)) (get_or L b (pos 0))) refl (leftmost_from-Best L i (suc i) xs s') (leftmost_from-Best L b (suc i) xs s'))
  where
    go : (t : Bool) → lt_z (get_or L i (pos 0)) (get_or L b (pos 0)) ≡ t
        → (Best L i (suc i) → Best L (leftmost_from (get_or L i (pos 0)) i (suc i) xs) (suc i + length xs))
        → (Best L b (suc i) → Best L (leftmost_from (get_or L b (pos 0)) b (suc i) xs) (suc i + length xs))
        → Best L (cond t (leftmost_from (get_or L i (pos 0)) i (suc i) xs) (leftmost_from (get_or L b (pos 0)) b (suc i) xs)) (suc (i + length xs))
    go true q f g =
        let lt : get_or L i (pos 0) <ℤ get_or L b (pos 0) = lt_z_yes (T-true (lt_z (get_or L i (pos 0)) (get_or L b (pos 0))) q) in
        let low : (j : ℕ) → j < suc i → get_or L i (pos 0) ≤ℤ get_or L j (pos 0) =
        below_suc (λ (j : ℕ). get_or L i (pos 0) ≤ℤ get_or L j (pos 0)) i (λ j l. <ℤ-≤ℤ (<ℤ-≤ℤ_trans lt (h.1 j l))) (≤ℤ_refl (get_or L i (pos 0))) in
        let r = f (λ j l. <ℤ-≤ℤ_trans lt (h.1 j l), low) in
        (r.0, λ j l. r.1 j (omega arith))
    go false q f g =
        let le : get_or L b (pos 0) ≤ℤ get_or L i (pos 0) = lt_z_no (T-true (not (lt_z (get_or L i (pos 0)) (get_or L b (pos 0)))) (ap not q)) in
        let r = g (h.0, below_suc (λ (j : ℕ). get_or L b (pos 0) ≤ℤ get_or L j (pos 0)) i h.1 le) in
        (r.0, λ j l. r.1 j (omega arith))

pub Over-at : (P : ℤ → Type 0) (l : List ℤ) → ((j : ℕ) → j < length l → P (get_or l j (pos 0))) → Over P l
Over-at P [] f = over_nil
Over-at P (x ∷ l) f = over_cons (f 0 (omega arith)) (Over-at P l (λ j h. f (suc j) (omega arith)))

pub Over-get : {P : ℤ → Type 0} {l : List ℤ} → Over P l → (j : ℕ) → j < length l → P (get_or l j (pos 0))
Over-get over_nil j h = absurd (let z : ⊥ = omega arith in z)
Over-get (over_cons p o) zero h = p
Over-get (over_cons p o) (suc j) h = Over-get o j (omega arith)

leftmost-Best : (x : ℤ) (xs : List ℤ) → Best (x ∷ xs) (leftmost (x ∷ xs)) (1 + length xs)
unfolding leftmost
leftmost-Best x xs =
    leftmost_from-Best (x ∷ xs) 0 1 xs (λ j. ap (λ (k : ℕ). get_or (x ∷ xs) k (pos 0)) (one j))
    (λ j l. absurd (none j l), below_suc (λ (j : ℕ). x ≤ℤ get_or (x ∷ xs) j (pos 0)) 0 (λ j l. absurd (none j l)) (≤ℤ_refl x))
  where
    one : (j : ℕ) → suc j ≡ 1 + j
    one j = omega arith

    none : (j : ℕ) → j < 0 → ⊥
    none j l = omega arith

has : (n : ℕ) (xs : List ℤ) → length xs ≤ n → HasTree xs (tree xs)
unfolding tree tree_within
has zero [] h = empty
has (suc n) [] h = empty
has zero (x ∷ xs) h = absurd (let z : ⊥ = omega arith in z)
has (suc n) (x ∷ xs) h =
    let L : List ℤ = x ∷ xs in
    let p = leftmost L in
    let q = leftmost_lt x xs in
    let b = leftmost-Best x xs in
    let lt : length (take p L) ≤ n = simp length-take (omega arith) in
    let ld : length (drop (suc p) L) ≤ n = simp length-drop (omega arith) in
    let lp : length (take p L) ≤ p = simp length-take (omega arith) in
    let ls : suc p + length (drop (suc p) L) ≤ 1 + length xs = simp length-drop (omega arith) in
    subst (λ (t : Tree). HasTree L t) (sym (tree-cons x xs))
    (subst (λ (l : List ℤ). HasTree l (node (tree (take p L)) (tree (drop (suc p) L)))) (sym (split_at L p (pos 0) (omega arith)))
    (root (take p L) (drop (suc p) L) (get_or L p (pos 0))
    (Over-at (λ (y : ℤ). get_or L p (pos 0) <ℤ y) (take p L) (λ j l. rw (get_or-take p L j (pos 0) (omega arith)) (b.0 j (omega arith))))
    (Over-at (λ (y : ℤ). get_or L p (pos 0) ≤ℤ y) (drop (suc p) L) (λ j l. rw (get_or-drop (suc p) L j (pos 0)) (b.1 (suc p + j) (omega arith))))
    (has n (take p L) lt) (has n (drop (suc p) L) ld)))

pub tree_has : (xs : List ℤ) → HasTree xs (tree xs)
tree_has xs = has (length xs) xs (le_refl (length xs))
