-- Selections of tables, and the places below a number that pass a test.
use Rattle.std.specs.Prelude.{◌≡◌, ◌⊎◌, ◌∷◌, ◌++◌, ◌+◌, ◌<◌}
use Rattle.lists.proofs.Prelude.{◌∙◌, ap, sym, refl, subst, inl, inr, Bool, true, false, cond, List, [], map, ℕ, zero, suc}
use Rattle.lists.proofs.Prelude.{T, length, get_or, length-append, get_or-append, length-map, get_or-append_seam, dec_lt, arith, tabulate, last_below}
use Rattle.lists.proofs.Prelude.{select}
use Rattle.lists.proofs.Tests.{T-true, true-T}
use Rattle.lists.proofs.Tables.{length-tabulate, get_or-tabulate, tabulate-get_or, map-tabulate}
use Rattle.lists.proofs.Members.{mem_below}
use Rattle.lists.proofs.Select.{select_ext, select-map, select_snoc, select_snoc_not}

-- ---- tables

pub select_below_ext : (s t : ℕ → Bool) (n : ℕ) → ((j : ℕ) → j < n → s j ≡ t j) → select s (tabulate n (λ i. i)) ≡ select t (tabulate n (λ i. i))
select_below_ext s t n h = select_ext s t (tabulate n (λ i. i)) (λ j m. h j ((mem_below n j).0 m))

-- nothing is left out where all pass
pub select_all : {A : Type 0} (test : A → Bool) (n : ℕ) (f : ℕ → A) → ((i : ℕ) → i < n → T (test (f i))) → select test (tabulate n f) ≡ tabulate n f
unfolding tabulate select
select_all test zero f h = refl
select_all {A} test (suc n) f h =
    select_snoc test (tabulate n f) (f n) (true-T (test (f n)) (h n (omega arith)))
    ∙ ap (λ (l : List A). l ++ (f n ∷ [])) (select_all test n f (λ i l. h i (omega arith)))

-- what passes whenever a later one does is a front
pub select_front : {A : Type 0} (test : A → Bool) (n : ℕ) (f : ℕ → A) → ((i j : ℕ) → i < j → j < n → T (test (f j)) → T (test (f i)))
    → select test (tabulate n f) ≡ tabulate (last_below (λ i. test (f i)) n) f
unfolding tabulate last_below select
select_front test zero f h = refl
select_front {A} test (suc n) f h = go (test (f n)) refl (select_front test n f (λ i j k l. h i j k (omega arith)))
  where
    go : (b : Bool) → test (f n) ≡ b → select test (tabulate n f) ≡ tabulate (last_below (λ i. test (f i)) n) f
        → select test (tabulate n f ++ (f n ∷ [])) ≡ tabulate (cond b (suc n) (last_below (λ i. test (f i)) n)) f
    go true q e =
        select_snoc test (tabulate n f) (f n) q
        ∙ ap (λ (l : List A). l ++ (f n ∷ [])) (select_all test n f (λ i l. h i n l (omega arith) (T-true (test (f n)) q)))
    go false q e = select_snoc_not test (tabulate n f) (f n) q ∙ e

-- the elements that pass are as many as their places
pub select_places : {A : Type 0} (test : A → Bool) (xs : List A) (d : A)
    → length (select (λ i. test (get_or xs i d)) (tabulate (length xs) (λ i. i))) ≡ length (select test xs)
select_places {A} test xs d =
    let ns = tabulate (length xs) (λ i. i) in
    let e : map (λ (i : ℕ). get_or xs i d) ns ≡ xs = map-tabulate (λ (i : ℕ). get_or xs i d) (length xs) (λ i. i) ∙ tabulate-get_or d xs in
    sym (length-map (select (λ i. test (get_or xs i d)) ns) (λ (i : ℕ). get_or xs i d))
    ∙ ap length (sym (select-map test (λ (i : ℕ). get_or xs i d) ns))
    ∙ ap (λ (l : List A). length (select test l)) e

-- ---- the places below a number that pass a test

-- f 0, .., f (m - 1) are the places below n that pass, in their order
pub record Selected (test : ℕ → Bool) (n m : ℕ) (f : ℕ → ℕ) : Type 0 where
  pub below : (i : ℕ) → i < m → f i < n
  pub passes : (i : ℕ) → i < m → T (test (f i))
  pub rises : (i j : ℕ) → i < j → j < m → f i < f j
  pub found : (p : ℕ) → p < n → T (test p) → (i : ℕ) × (i < m) × (f i ≡ p)

abbrev SelectedList : (ℕ → Bool) → ℕ → List ℕ → Type 0
SelectedList test n l = Selected test n (length l) (λ i. get_or l i 0)

-- a place among the old ones of a list with one more, or the new one
snoc_place : (l : List ℕ) (n i : ℕ) → i < length (l ++ (n ∷ []))
    → ((i < length l) × (get_or (l ++ (n ∷ [])) i 0 ≡ get_or l i 0)) ⊎ ((i ≡ length l) × (get_or (l ++ (n ∷ [])) i 0 ≡ n))
snoc_place l n i h = go (dec_lt i (length l)) (rw length-append at h)
  where
    go : Dec (i < length l) → i < length l + 1 → ((i < length l) × (get_or (l ++ (n ∷ [])) i 0 ≡ get_or l i 0)) ⊎ ((i ≡ length l)
        × (get_or (l ++ (n ∷ [])) i 0 ≡ n))
    go (yes k) k' = inl (k, get_or-append l (n ∷ []) 0 i k)
    go (no g) k' =
        let e : i ≡ length l = omega arith in
        inr (e, rw e (get_or-append_seam l n [] 0))

selected_more : (test : ℕ → Bool) (n : ℕ) (l : List ℕ) → T (test n) → SelectedList test n l → SelectedList test (suc n) (l ++ (n ∷ []))
selected_more test n l t s = record {
  below = λ i h. below i (snoc_place l n i h);
  passes = λ i h. passes i (snoc_place l n i h);
  rises = λ i j k h. rises i j k (snoc_place l n i (omega arith)) (snoc_place l n j h);
  found = λ p h u. found p u (dec_lt p n) h;
}
  where
    Old : ℕ → Type 0
    Old i = ((i < length l) × (get_or (l ++ (n ∷ [])) i 0 ≡ get_or l i 0)) ⊎ ((i ≡ length l) × (get_or (l ++ (n ∷ [])) i 0 ≡ n))

    below : (i : ℕ) → Old i → get_or (l ++ (n ∷ [])) i 0 < suc n
    below i (inl o) = omega (arith, o.1, s.below i o.0)
    below i (inr o) = omega (arith, o.1)

    passes : (i : ℕ) → Old i → T (test (get_or (l ++ (n ∷ [])) i 0))
    passes i (inl o) = rw o.1 (s.passes i o.0)
    passes i (inr o) = rw o.1 t

    rises : (i j : ℕ) → i < j → Old i → Old j → get_or (l ++ (n ∷ [])) i 0 < get_or (l ++ (n ∷ [])) j 0
    rises i j k (inl o) (inl u) = omega (arith, o.1, u.1, s.rises i j k u.0)
    rises i j k (inl o) (inr u) = omega (arith, o.1, u.1, s.below i o.0)
    rises i j k (inr o) (inl u) = absurd (let z : ⊥ = omega (arith, o.0, u.0) in z)
    rises i j k (inr o) (inr u) = absurd (let z : ⊥ = omega (arith, o.0, u.0) in z)

    found : (p : ℕ) → T (test p) → Dec (p < n) → p < suc n → (i : ℕ) × (i < length (l ++ (n ∷ []))) × (get_or (l ++ (n ∷ [])) i 0 ≡ p)
    found p u (yes k) h =
        let r = s.found p k u in
        (r.0, rw length-append (omega (arith, r.1)), get_or-append l (n ∷ []) 0 r.0 r.1 ∙ r.2)
    found p u (no g) h =
        let e : n ≡ p = omega arith in
        (length l, rw length-append (omega arith), get_or-append_seam l n [] 0 ∙ e)

selected_skip : (test : ℕ → Bool) (n : ℕ) (l : List ℕ) → (T (test n) → ⊥) → SelectedList test n l → SelectedList test (suc n) l
selected_skip test n l f s = record {
  below = λ i h. omega (arith, s.below i h);
  passes = s.passes;
  rises = s.rises;
  found = λ p h t. last p t (dec_lt p n) h;
}
  where
    last : (p : ℕ) → T (test p) → Dec (p < n) → p < suc n → (i : ℕ) × (i < length l) × (get_or l i 0 ≡ p)
    last p t (yes k) h = s.found p k t
    last p t (no g) h = let e : p ≡ n = omega arith in absurd (f (rw e at t))

selected_list : (test : ℕ → Bool) (n : ℕ) → SelectedList test n (select test (tabulate n (λ i. i)))
unfolding tabulate select
selected_list test zero = record {
  below = λ i h. absurd (let z : ⊥ = omega arith in z);
  passes = λ i h. absurd (let z : ⊥ = omega arith in z);
  rises = λ i j k h. absurd (let z : ⊥ = omega arith in z);
  found = λ p h t. absurd (let z : ⊥ = omega arith in z);
}
selected_list test (suc n) = go (test n) refl (selected_list test n)
  where
    go : (b : Bool) → test n ≡ b → SelectedList test n (select test (tabulate n (λ i. i)))
        → SelectedList test (suc n) (select test (tabulate n (λ i. i) ++ (n ∷ [])))
    go true q s = rw (select_snoc test (tabulate n (λ i. i)) n q) (selected_more test n (select test (tabulate n (λ i. i))) (T-true (test n) q) s)
    go false q s = rw (select_snoc_not test (tabulate n (λ i. i)) n q) (selected_skip test n (select test (tabulate n (λ i. i))) (λ t. subst T q t) s)

-- a table that is the list of those places
pub selected : (test : ℕ → Bool) (n m : ℕ) (f : ℕ → ℕ) → tabulate m f ≡ select test (tabulate n (λ i. i)) → Selected test n m f
selected test n m f e = go (tabulate m f) (length-tabulate m f) (get_or-tabulate m f 0) (subst (SelectedList test n) (sym e) (selected_list test n))
  where
    go : (l : List ℕ) → length l ≡ m → ((i : ℕ) → i < m → get_or l i 0 ≡ f i) → SelectedList test n l → Selected test n m f
    go l k at s = record {
      below = λ i h. omega (arith, at i h, s.below i (omega arith));
      passes = λ i h. subst (λ (p : ℕ). T (test p)) (at i h) (s.passes i (omega arith));
      rises = λ i j g h. omega (arith, at i (omega arith), at j h, s.rises i j g (omega arith));
      found = λ p h t. let r = s.found p h t in (r.0, omega (arith, r.1), sym (at r.0 (omega (arith, r.1))) ∙ r.2);
    }
