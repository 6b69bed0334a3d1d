-- Members of a list: by their places, of mapped lists and tables, and tests of one or all of them.
use Rattle.std.specs.Prelude.{◌++◌, ◌+◌, ◌≡◌, ◌⊎◌, ◌↔◌, ◌||◌, ◌∷◌, ◌≤◌, ◌<◌}
use Rattle.lists.proofs.Prelude.{true, false, ◌∙◌, ap, sym, refl, subst, inl, inr, Bool, List, [], map, Memᴰ}
use Rattle.lists.proofs.Prelude.{Memᴰ-head, Memᴰ-tail, Memᴰ-not-nil, Memᴰ-cases_cons, ℕ, zero, suc, T, length, get_or, dec_lt}
use Rattle.lists.proofs.Prelude.{arith, tabulate, any, all, ap₂, take, drop, take-append-drop, take-suc, take_all, add-one}
use Rattle.lists.proofs.Tests.{T-true, true-T, clash, and_split, and_join, or_cases, or_left, or_right, none_left, none_right, or-false}
use Rattle.lists.proofs.Tables.{length-tabulate, get_or-tabulate}

-- ---- by their places

pub get_or-mem : {A : Type 0} (xs : List A) (i : ℕ) (d : A) → i < length xs → Memᴰ (get_or xs i d) xs
get_or-mem [] i d h = absurd (let z : ⊥ = omega arith in z)
get_or-mem (x ∷ xs) zero d h = Memᴰ-head refl
get_or-mem (x ∷ xs) (suc i) d h = Memᴰ-tail (get_or-mem xs i d (omega arith))

pub mem-get_or : {A : Type 0} (xs : List A) (a d : A) → Memᴰ a xs → (i : ℕ) × (i < length xs) × (get_or xs i d ≡ a)
mem-get_or [] a d m = absurd (Memᴰ-not-nil m)
mem-get_or {A} (x ∷ xs) a d m = go (Memᴰ-cases_cons m) (mem-get_or xs a d)
  where
    go : (a ≡ x) ⊎ Memᴰ a xs → (Memᴰ a xs → (i : ℕ) × (i < length xs) × (get_or xs i d ≡ a)) → (i : ℕ) × (i < length (x ∷ xs)) × (get_or (x ∷ xs) i d ≡ a)
    go (inl e) ih = (0, omega arith, sym e)
    go (inr h) ih = let r = ih h in (suc r.0, omega (arith, r.1), r.2)

-- ---- of mapped lists and tables

pub mem-map : {A B : Type 0} (f : A → B) (xs : List A) (b : B) → Memᴰ b (map f xs) ↔ ((a : A) × Memᴰ a xs × (b ≡ f a))
mem-map {A} {B} f xs b = (from xs, λ m. to xs m.0 m.1 m.2)
  where
    from : (xs : List A) → Memᴰ b (map f xs) → (a : A) × Memᴰ a xs × (b ≡ f a)
    from [] m = absurd (Memᴰ-not-nil m)
    from (x ∷ xs) m = go (Memᴰ-cases_cons m) (from xs)
      where
        go : (b ≡ f x) ⊎ Memᴰ b (map f xs) → (Memᴰ b (map f xs) → (a : A) × Memᴰ a xs × (b ≡ f a)) → (a : A) × Memᴰ a (x ∷ xs) × (b ≡ f a)
        go (inl e) ih = (x, Memᴰ-head refl, e)
        go (inr h) ih = let r = ih h in (r.0, Memᴰ-tail r.1, r.2)

    to : (xs : List A) (a : A) → Memᴰ a xs → b ≡ f a → Memᴰ b (map f xs)
    to [] a m e = absurd (Memᴰ-not-nil m)
    to (x ∷ xs) a m e = go (Memᴰ-cases_cons m) (λ h. to xs a h e)
      where
        go : (a ≡ x) ⊎ Memᴰ a xs → (Memᴰ a xs → Memᴰ b (map f xs)) → Memᴰ b (f x ∷ map f xs)
        go (inl q) ih = Memᴰ-head (e ∙ ap f q)
        go (inr h) ih = Memᴰ-tail (ih h)

pub mem_table : {A : Type 0} (n : ℕ) (f : ℕ → A) (d a : A) → Memᴰ a (tabulate n f) → (i : ℕ) × (i < n) × (a ≡ f i)
mem_table n f d a m =
    let r = mem-get_or (tabulate n f) a d m in
    let l : r.0 < n = omega (arith, r.1, length-tabulate n f) in
    (r.0, l, sym r.2 ∙ get_or-tabulate n f d r.0 l)

pub table_mem : {A : Type 0} (n : ℕ) (f : ℕ → A) (d : A) (i : ℕ) → i < n → Memᴰ (f i) (tabulate n f)
table_mem {A} n f d i h =
    subst (λ (a : A). Memᴰ a (tabulate n f)) (get_or-tabulate n f d i h) (get_or-mem (tabulate n f) i d (rw length-tabulate h))

-- the numbers below n
pub mem_below : (n j : ℕ) → Memᴰ j (tabulate n (λ i. i)) ↔ (j < n)
mem_below n j = (λ m. let r = mem_table n (λ i. i) 0 j m in omega (arith, r.1, r.2), λ h. table_mem n (λ i. i) 0 j h)

-- ---- a test that one passes

pub any-mem : {A : Type 0} (test : A → Bool) (xs : List A) → T (any test xs) → (a : A) × Memᴰ a xs × T (test a)
unfolding any
any-mem test [] t = absurd t
any-mem {A} test (x ∷ xs) t = go (or_cases (test x) (any test xs) t) (any-mem test xs)
  where
    go : T (test x) ⊎ T (any test xs) → (T (any test xs) → (a : A) × Memᴰ a xs × T (test a)) → (a : A) × Memᴰ a (x ∷ xs) × T (test a)
    go (inl h) ih = (x, Memᴰ-head refl, h)
    go (inr h) ih = let r = ih h in (r.0, Memᴰ-tail r.1, r.2)

pub mem-any : {A : Type 0} (test : A → Bool) (xs : List A) (a : A) → Memᴰ a xs → T (test a) → T (any test xs)
unfolding any
mem-any test [] a m t = absurd (Memᴰ-not-nil m)
mem-any test (x ∷ xs) a m t = go (Memᴰ-cases_cons m) (mem-any test xs a)
  where
    go : (a ≡ x) ⊎ Memᴰ a xs → (Memᴰ a xs → T (test a) → T (any test xs)) → T (test x || any test xs)
    go (inl e) ih = or_left (test x) (any test xs) (subst (λ z. T (test z)) e t)
    go (inr h) ih = or_right (test x) (any test xs) (ih h t)

pub any-append : {A : Type 0} (test : A → Bool) (xs ys : List A) → any test (xs ++ ys) ≡ any test xs || any test ys
unfolding any
any-append test [] ys = refl
any-append test (x ∷ xs) ys = go (test x) (any-append test xs ys)
  where
    go : (b : Bool) → any test (xs ++ ys) ≡ any test xs || any test ys → b || any test (xs ++ ys) ≡ (b || any test xs) || any test ys
    go true e = refl
    go false e = e

-- ---- a test that none passes

module _ {A : Type 0} (test : A → Bool) where
  -- none of what stands before something, or behind it
  pub none_front : (xs ys : List A) → any test (xs ++ ys) ≡ false → any test xs ≡ false
  none_front xs ys e = none_left (any test xs) (any test ys) (sym (any-append test xs ys) ∙ e)

  pub none_back : (xs ys : List A) → any test (xs ++ ys) ≡ false → any test ys ≡ false
  none_back xs ys e = none_right (any test xs) (any test ys) (sym (any-append test xs ys) ∙ e)

  pub none_take : (n : ℕ) (xs : List A) → any test xs ≡ false → any test (take n xs) ≡ false
  none_take n xs e = none_front (take n xs) (drop n xs) (ap (any test) (take-append-drop n xs) ∙ e)

  pub none_drop : (n : ℕ) (xs : List A) → any test xs ≡ false → any test (drop n xs) ≡ false
  none_drop n xs e = none_back (take n xs) (drop n xs) (ap (any test) (take-append-drop n xs) ∙ e)

  -- one element more
  pub any_snoc : (xs : List A) (x : A) → any test (xs ++ (x ∷ [])) ≡ any test xs || test x
  unfolding any
  any_snoc xs x = any-append test xs (x ∷ []) ∙ ap (λ (b : Bool). any test xs || b) (or-false (test x))

  pub none_snoc : (xs : List A) (x : A) → any test xs ≡ false → test x ≡ false → any test (xs ++ (x ∷ [])) ≡ false
  none_snoc xs x e f = any_snoc xs x ∙ (rw (e, f) refl)

  -- ---- the elements looked through so far, from the first on

  pub scan_start : (xs : List A) → any test (take 0 xs) ≡ false
  unfolding any
  scan_start xs = refl

  pub scan_more : (xs : List A) (d : A) (i : ℕ) → any test (take i xs) ≡ false → i < length xs → test (get_or xs i d) ≡ false
      → any test (take (i + 1) xs) ≡ false
  scan_more xs d i e h f =
      ap (λ (n : ℕ). any test (take n xs)) (add-one i) ∙ ap (any test) (take-suc xs i d h) ∙ none_snoc (take i xs) (get_or xs i d) e f

  pub scan_found : (xs : List A) (d : A) (i : ℕ) → i < length xs → test (get_or xs i d) ≡ true → any test xs ≡ true
  scan_found xs d i h e = true-T (any test xs) (mem-any test xs (get_or xs i d) (get_or-mem xs i d h) (T-true (test (get_or xs i d)) e))

  pub scan_end : (xs : List A) (i : ℕ) → length xs ≤ i → any test (take i xs) ≡ false → any test xs ≡ false
  scan_end xs i h e = ap (any test) (sym (take_all i xs h)) ∙ e

-- ---- a test that all pass

pub all-mem : {A : Type 0} (test : A → Bool) (xs : List A) → T (all test xs) → (a : A) → Memᴰ a xs → T (test a)
unfolding all
all-mem test [] t a m = absurd (Memᴰ-not-nil m)
all-mem test (x ∷ xs) t a m = go (and_split (test x) (all test xs) t) (Memᴰ-cases_cons m) (λ h. all-mem test xs h a)
  where
    go : T (test x) × T (all test xs) → (a ≡ x) ⊎ Memᴰ a xs → (T (all test xs) → Memᴰ a xs → T (test a)) → T (test a)
    go p (inl e) ih = subst (λ z. T (test z)) (sym e) p.0
    go p (inr h) ih = ih p.1 h

pub mem-all : {A : Type 0} (test : A → Bool) (xs : List A) → ((a : A) → Memᴰ a xs → T (test a)) → T (all test xs)
unfolding all
mem-all test [] f = tt
mem-all test (x ∷ xs) f = and_join (test x) (all test xs) (f x (Memᴰ-head refl)) (mem-all test xs (λ a m. f a (Memᴰ-tail m)))

pub all-get_or : {A : Type 0} (test : A → Bool) (xs : List A) (d : A) (j : ℕ) → T (all test xs) → j < length xs → T (test (get_or xs j d))
unfolding all
all-get_or test [] d j t h = absurd (let z : ⊥ = omega arith in z)
all-get_or test (x ∷ xs) d zero t h = (and_split (test x) (all test xs) t).0
all-get_or test (x ∷ xs) d (suc j) t h = all-get_or test xs d j (and_split (test x) (all test xs) t).1 (omega arith)

-- all numbers below n pass a test
pub all_below : (test : ℕ → Bool) (n : ℕ) → T (all test (tabulate n (λ i. i))) → (i : ℕ) → i < n → T (test i)
all_below test n t i h = all-mem test (tabulate n (λ i. i)) t i ((mem_below n i).1 h)

pub below_all : (test : ℕ → Bool) (n : ℕ) → ((i : ℕ) → i < n → T (test i)) → T (all test (tabulate n (λ i. i)))
below_all test n f = mem-all test (tabulate n (λ i. i)) (λ i m. f i ((mem_below n i).0 m))

-- ---- the ways through a loop that tests each number below n, in the machine's words

pub below_none : (test : ℕ → Bool) → all test (tabulate 0 (λ i. i)) ≡ true
unfolding tabulate all
below_none test = refl

pub below_more : (test : ℕ → Bool) (j : ℕ) → all test (tabulate j (λ i. i)) ≡ true → test j ≡ true → all test (tabulate (j + 1) (λ i. i)) ≡ true
below_more test j h e = true-T (all test (tabulate (j + 1) (λ i. i))) (below_all test (j + 1) (λ i l. go i l (dec_lt i j)))
  where
    go : (i : ℕ) → i < j + 1 → Dec (i < j) → T (test i)
    go i l (yes k) = all_below test j (T-true (all test (tabulate j (λ i. i))) h) i k
    go i l (no f) = let q : j ≡ i = omega arith in T-true (test i) (ap test (sym q) ∙ e)

pub below_fails : (test : ℕ → Bool) (n j : ℕ) → j < n → test j ≡ false → all test (tabulate n (λ i. i)) ≡ false
below_fails test n j l e = go (all test (tabulate n (λ i. i))) refl
  where
    go : (b : Bool) → all test (tabulate n (λ i. i)) ≡ b → b ≡ false
    go true q = clash (true-T (test j) (all_below test n (T-true (all test (tabulate n (λ i. i))) q) j l)) e
    go false q = refl

-- functions that agree on the members give the same list
pub map_ext : {A B : Type 0} (f g : A → B) (xs : List A) → ((a : A) → Memᴰ a xs → f a ≡ g a) → map f xs ≡ map g xs
map_ext f g [] h = refl
map_ext {A} {B} f g (x ∷ xs) h =
    ap₂ (λ (y : B) (ys : List B). y ∷ ys) (h x (Memᴰ-head refl)) (map_ext f g xs (λ a m. h a (Memᴰ-tail m)))

-- one function after the other
pub map-map : {A B C : Type 0} (f : A → B) (g : B → C) (xs : List A) → map g (map f xs) ≡ map (λ a. g (f a)) xs
map-map f g [] = refl
map-map {A} {B} {C} f g (x ∷ xs) = ap (λ (ys : List C). g (f x) ∷ ys) (map-map f g xs)
