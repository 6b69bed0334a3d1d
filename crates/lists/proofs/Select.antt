-- Selections: who is selected, selections by other tests and of other lists, and elements that pass
-- and lie side by side.
use Rattle.std.specs.Prelude.{◌≡◌, ◌⊎◌, ◌↔◌, ◌&&◌, ◌∷◌, ◌++◌, ◌+◌, ◌≤◌, ◌<◌}
use Rattle.lists.proofs.Prelude.{◌∙◌, ap, sym, refl, subst, ap₂, inl, inr, Bool, true, false, cond, List, [], map}
use Rattle.lists.proofs.Prelude.{append-nil, Memᴰ, Memᴰ-head, Memᴰ-tail, Memᴰ-not-nil, Memᴰ-cases_cons, ℕ, zero, suc}
use Rattle.lists.proofs.Prelude.{T, length, get_or, take, drop, arith, select}
use Rattle.lists.proofs.Tests.{T-true, true-T}
use Rattle.lists.proofs.Members.{mem-get_or}

-- ---- who is selected

pub mem-select : {A : Type 0} (test : A → Bool) (xs : List A) (a : A) → Memᴰ a (select test xs) ↔ (Memᴰ a xs × T (test a))
unfolding select
mem-select {A} test xs a = (from xs, λ m. to xs m.0 m.1)
  where
    from : (xs : List A) → Memᴰ a (select test xs) → Memᴰ a xs × T (test a)
    from [] m = absurd (Memᴰ-not-nil m)
    from (x ∷ xs) m = go (test x) refl m (from xs)
      where
        go : (b : Bool) → test x ≡ b → Memᴰ a (cond b (x ∷ select test xs) (select test xs))
            → (Memᴰ a (select test xs) → Memᴰ a xs × T (test a)) → Memᴰ a (x ∷ xs) × T (test a)
        go true e m ih = case (Memᴰ-cases_cons m)
          where
            case : (a ≡ x) ⊎ Memᴰ a (select test xs) → Memᴰ a (x ∷ xs) × T (test a)
            case (inl q) = (Memᴰ-head q, subst T (sym (ap test q ∙ e)) tt)
            case (inr h) = let r = ih h in (Memᴰ-tail r.0, r.1)
        go false e m ih = let r = ih m in (Memᴰ-tail r.0, r.1)

    to : (xs : List A) → Memᴰ a xs → T (test a) → Memᴰ a (select test xs)
    to [] m t = m
    to (x ∷ xs) m t = go (test x) refl (Memᴰ-cases_cons m) (λ h. to xs h t)
      where
        go : (b : Bool) → test x ≡ b → (a ≡ x) ⊎ Memᴰ a xs → (Memᴰ a xs → Memᴰ a (select test xs))
            → Memᴰ a (cond b (x ∷ select test xs) (select test xs))
        go true e (inl q) ih = Memᴰ-head q
        go true e (inr h) ih = Memᴰ-tail (ih h)
        go false e (inl q) ih = absurd (subst T (ap test q ∙ e) t)
        go false e (inr h) ih = ih h

pub select_empty : {A : Type 0} (test : A → Bool) (xs : List A) → ((a : A) → Memᴰ a xs → T (test a) → ⊥) → select test xs ≡ []
unfolding select
select_empty test [] f = refl
select_empty {A} test (x ∷ xs) f = go (test x) refl (select_empty test xs (λ a m t. f a (Memᴰ-tail m) t))
  where
    go : (b : Bool) → test x ≡ b → select test xs ≡ [] → cond b (x ∷ select test xs) (select test xs) ≡ []
    go true e ih = absurd (f x (Memᴰ-head refl) (T-true (test x) e))
    go false e ih = ih

-- all pass
pub select_all : {A : Type 0} (test : A → Bool) (xs : List A) → ((a : A) → Memᴰ a xs → T (test a)) → select test xs ≡ xs
unfolding select
select_all test [] h = refl
select_all {A} test (x ∷ xs) h =
    rw (true-T (test x) (h x (Memᴰ-head refl))) (ap (λ (ys : List A). x ∷ ys) (select_all test xs (λ a m. h a (Memᴰ-tail m))))

-- tests that agree on the list select the same
pub select_ext : {A : Type 0} (s t : A → Bool) (xs : List A) → ((a : A) → Memᴰ a xs → s a ≡ t a) → select s xs ≡ select t xs
unfolding select
select_ext s t [] h = refl
select_ext {A} s t (x ∷ xs) h =
    ap₂ (λ (b : Bool) (l : List A). cond b (x ∷ l) l) (h x (Memᴰ-head refl)) (select_ext s t xs (λ a m. h a (Memᴰ-tail m)))

-- ---- other tests and other lists

-- a selection of a selection asks both tests
pub select-select : {A : Type 0} (s t : A → Bool) (xs : List A) → select t (select s xs) ≡ select (λ a. s a && t a) xs
unfolding select
select-select s t [] = refl
select-select {A} s t (x ∷ xs) = go (s x) (t x) refl (select-select s t xs)
  where
    go : (b d : Bool) → t x ≡ d → select t (select s xs) ≡ select (λ a. s a && t a) xs
        → select t (cond b (x ∷ select s xs) (select s xs)) ≡ cond (b && d) (x ∷ select (λ a. s a && t a) xs) (select (λ a. s a && t a) xs)
    go true true q e = rw (q, e) refl
    go true false q e = rw (q, e) refl
    go false d q e = e

pub select-map : {A B : Type 0} (test : B → Bool) (f : A → B) (xs : List A) → select test (map f xs) ≡ map f (select (λ a. test (f a)) xs)
unfolding select
select-map test f [] = refl
select-map {A} {B} test f (x ∷ xs) = go (test (f x)) (select-map test f xs)
  where
    go : (b : Bool) → select test (map f xs) ≡ map f (select (λ a. test (f a)) xs)
        → cond b (f x ∷ select test (map f xs)) (select test (map f xs)) ≡ map f (cond b (x ∷ select (λ a. test (f a)) xs) (select (λ a. test (f a)) xs))
    go true e = ap (λ (l : List B). f x ∷ l) e
    go false e = e

pub select-append : {A : Type 0} (test : A → Bool) (xs ys : List A) → select test (xs ++ ys) ≡ select test xs ++ select test ys
unfolding select
select-append test [] ys = refl
select-append {A} test (x ∷ xs) ys = go (test x) (select-append test xs ys)
  where
    go : (b : Bool) → select test (xs ++ ys) ≡ select test xs ++ select test ys
        → cond b (x ∷ select test (xs ++ ys)) (select test (xs ++ ys)) ≡ cond b (x ∷ select test xs) (select test xs) ++ select test ys
    go true ih = ap (λ (l : List A). x ∷ l) ih
    go false ih = ih

-- one more at the end, which passes or does not
pub select_snoc : {A : Type 0} (test : A → Bool) (xs : List A) (x : A) → test x ≡ true → select test (xs ++ (x ∷ [])) ≡ select test xs ++ (x ∷ [])
unfolding select
select_snoc test xs x e = select-append test xs (x ∷ []) ∙ rw e refl

pub select_snoc_not : {A : Type 0} (test : A → Bool) (xs : List A) (x : A) → test x ≡ false → select test (xs ++ (x ∷ [])) ≡ select test xs
unfolding select
select_snoc_not test xs x e = select-append test xs (x ∷ []) ∙ rw e (append-nil (select test xs))

-- ---- elements that pass and lie side by side

-- ys are the elements that pass, and they lie side by side from place a on
pub record Run {A : Type 0} (test : A → Bool) (xs : List A) (d : A) (a : ℕ) (ys : List A) : Type 0 where
  pub within : a + length ys ≤ length xs
  pub pass : (i : ℕ) → a ≤ i → i < a + length ys → T (test (get_or xs i d))
  pub fail : (i : ℕ) → a + length ys ≤ i → i < length xs → T (test (get_or xs i d)) → ⊥
  pub run : take (length ys) (drop a xs) ≡ ys

-- so it is where none before place a passes, and whatever lies between it and one that passes does
pub select-Run : {A : Type 0} (test : A → Bool) (xs : List A) (d : A) (a : ℕ) → a ≤ length xs → ((i : ℕ) → i < a → T (test (get_or xs i d)) → ⊥)
    → ((i j : ℕ) → a ≤ i → i < j → j < length xs → T (test (get_or xs j d)) → T (test (get_or xs i d))) → Run test xs d a (select test xs)
unfolding select
select-Run test [] d a l f g = record {
  within = omega arith;
  pass = λ i h k. absurd (let z : ⊥ = omega arith in z);
  fail = λ i h k t. omega arith;
  run = refl;
}
select-Run {A} test (x ∷ xs) d zero l f g =
    let between : (i j : ℕ) → 0 ≤ i → i < j → j < length xs → T (test (get_or xs j d)) → T (test (get_or xs i d)) =
    λ i j h k m t. g (suc i) (suc j) (omega arith) (omega arith) (omega arith) t in
    go (test x) refl (select-Run test xs d 0 (omega arith) (λ i h t. omega arith) between)
  where
    passes : T (test x) → Run test xs d 0 (select test xs) → (i : ℕ) → i < 0 + suc (length (select test xs)) → T (test (get_or (x ∷ xs) i d))
    passes t ih zero h = t
    passes t ih (suc i) h = ih.pass i (omega arith) (omega arith)

    fails : Run test xs d 0 (select test xs) → (i : ℕ) → 0 + suc (length (select test xs)) ≤ i → i < suc (length xs) → T (test (get_or (x ∷ xs) i d)) → ⊥
    fails ih zero h k t = omega arith
    fails ih (suc i) h k t = ih.fail i (omega arith) (omega arith) t

    none : (T (test x) → ⊥) → (i : ℕ) → i < suc (length xs) → T (test (get_or (x ∷ xs) i d)) → ⊥
    none n zero h t = n t
    none n (suc i) h t = n (g 0 (suc i) (omega arith) (omega arith) h t)

    go : (b : Bool) → test x ≡ b → Run test xs d 0 (select test xs) → Run test (x ∷ xs) d 0 (cond b (x ∷ select test xs) (select test xs))
    go true e ih =
        record {
          within = omega (arith, ih.within);
          pass = λ i h k. passes (T-true (test x) e) ih i k;
          fail = fails ih;
          run = ap (λ (l : List A). x ∷ l) ih.run;
        }
    go false e ih =
        let n = none (λ t. subst T e t) in
        let empty : select test xs ≡ [] =
        select_empty test xs
        (λ a m t. let r = mem-get_or xs a d m in n (suc r.0) (omega (arith, r.1)) (subst (λ y. T (test y)) (sym r.2) t)) in
        subst (λ (l : List A). Run test (x ∷ xs) d 0 l) (sym empty)
        (record { within = omega arith; pass = λ i h k. absurd (let z : ⊥ = omega arith in z); fail = λ i h k. n i k; run = refl })
select-Run {A} test (x ∷ xs) d (suc a) l f g =
    let between : (i j : ℕ) → a ≤ i → i < j → j < length xs → T (test (get_or xs j d)) → T (test (get_or xs i d)) =
    λ i j h k m t. g (suc i) (suc j) (omega arith) (omega arith) (omega arith) t in
    go (test x) refl (select-Run test xs d a (omega arith) (λ i h t. f (suc i) (omega arith) t) between)
  where
    passes : Run test xs d a (select test xs) → (i : ℕ) → suc a ≤ i → i < suc a + length (select test xs) → T (test (get_or (x ∷ xs) i d))
    passes ih zero l h = absurd (let z : ⊥ = omega arith in z)
    passes ih (suc i) l h = ih.pass i (omega arith) (omega arith)

    fails : Run test xs d a (select test xs) → (i : ℕ) → suc a + length (select test xs) ≤ i → i < suc (length xs) → T (test (get_or (x ∷ xs) i d)) → ⊥
    fails ih zero h k t = omega arith
    fails ih (suc i) h k t = ih.fail i (omega arith) (omega arith) t

    go : (b : Bool) → test x ≡ b → Run test xs d a (select test xs) → Run test (x ∷ xs) d (suc a) (cond b (x ∷ select test xs) (select test xs))
    go true e ih = absurd (f 0 (omega arith) (T-true (test x) e))
    go false e ih = record { within = omega (arith, ih.within); pass = passes ih; fail = fails ih; run = ih.run }
