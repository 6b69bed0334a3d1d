-- How many elements of a list, or numbers below a bound, pass a test.
use Rattle.std.specs.Prelude.{◌≡◌, ◌&&◌, ◌∷◌, ◌++◌, ◌+◌, ◌≤◌, ◌<◌}
use Rattle.lists.proofs.Prelude.{get_or, ◌∙◌, ap, sym, refl, subst, Bool, true, false, cond, List, [], Memᴰ, Memᴰ-head}
use Rattle.lists.proofs.Prelude.{Memᴰ-tail, ℕ, zero, suc, T, length, length-append, length-map, le_refl, add-zero, dec_lt, arith}
use Rattle.lists.proofs.Prelude.{tabulate, select}
use Rattle.lists.proofs.Tests.{true-T}
use Rattle.lists.proofs.Tables.{map-tabulate}
use Rattle.lists.proofs.Select.{select_ext, select-select, select-map, select-append}

-- ---- elements of a list

abbrev pub how_many : {A : Type 0} → (A → Bool) → List A → ℕ
how_many test xs = length (select test xs)

pub length_select : {A : Type 0} (test : A → Bool) (x : A) (xs : List A) → how_many test (x ∷ xs) ≡ cond (test x) 1 0 + how_many test xs
unfolding select
length_select {A} test x xs = go (test x)
  where
    go : (b : Bool) → length (cond b (x ∷ select test xs) (select test xs)) ≡ cond b 1 0 + length (select test xs)
    go true = omega arith
    go false = omega arith

pub length-how_many : {A : Type 0} (test : A → Bool) (xs : List A) → length (select test xs) ≡ how_many test xs
length-how_many test xs = refl

pub how_many-append : {A : Type 0} (test : A → Bool) (xs ys : List A) → how_many test (xs ++ ys) ≡ how_many test xs + how_many test ys
how_many-append test xs ys = ap length (select-append test xs ys) ∙ length-append (select test xs) (select test ys)

pub how_many-select : {A : Type 0} (s t : A → Bool) (xs : List A) → how_many s (select t xs) ≡ how_many (λ x. t x && s x) xs
how_many-select s t xs = ap length (select-select t s xs)

-- tests that exclude one another
pub how_many_sum : {A : Type 0} (r s t : A → Bool) (xs : List A) → ((a : A) → cond (r a) 1 0 + cond (s a) 1 0 ≡ cond (t a) 1 0)
    → how_many r xs + how_many s xs ≡ how_many t xs
unfolding select
how_many_sum r s t [] f = refl
how_many_sum r s t (x ∷ xs) f =
    omega (arith, f x, how_many_sum r s t xs f, length_select r x xs, length_select s x xs, length_select t x xs)

pub how_many_ext : {A : Type 0} (s t : A → Bool) (xs : List A) → ((a : A) → Memᴰ a xs → s a ≡ t a) → how_many s xs ≡ how_many t xs
how_many_ext s t xs f = ap length (select_ext s t xs f)

pub how_many-le : {A : Type 0} (s t : A → Bool) (xs : List A) → ((a : A) → Memᴰ a xs → T (s a) → T (t a)) → how_many s xs ≤ how_many t xs
unfolding select
how_many-le s t [] f = le_refl 0
how_many-le {A} s t (x ∷ xs) f =
    let first = go (s x) (t x) (f x (Memᴰ-head refl)) in
    omega (arith, first, how_many-le s t xs (λ a m. f a (Memᴰ-tail m)), length_select s x xs, length_select t x xs)
  where
    go : (b c : Bool) → (T b → T c) → cond b 1 0 ≤ cond c 1 0
    go true true g = omega arith
    go true false g = absurd (g tt)
    go false true g = omega arith
    go false false g = omega arith

pub how_many_all : {A : Type 0} (xs : List A) → how_many (λ x. true) xs ≡ length xs
unfolding select
how_many_all [] = refl
how_many_all (x ∷ xs) = ap suc (how_many_all xs)

pub how_many-tabulate : {A : Type 0} (test : A → Bool) (f : ℕ → A) (n : ℕ)
    → how_many test (tabulate n f) ≡ how_many (λ j. test (f j)) (tabulate n (λ j. j))
how_many-tabulate test f n =
    ap (how_many test) (sym (map-tabulate f n (λ j. j)))
    ∙ ap length (select-map test f (tabulate n (λ j. j)))
    ∙ length-map (select (λ j. test (f j)) (tabulate n (λ j. j))) f

-- a test that the first n elements pass and no other
pub how_many_first : {A : Type 0} (test : A → Bool) (xs : List A) (d : A) (n : ℕ) → n ≤ length xs
    → ((i : ℕ) → i < n → test (get_or xs i d) ≡ true) → ((i : ℕ) → n ≤ i → i < length xs → test (get_or xs i d) ≡ false) → how_many test xs ≡ n
unfolding select
how_many_first test [] d n h f g = omega arith
how_many_first test (x ∷ xs) d zero h f g =
    rw (g 0 (omega arith) (omega arith))
    (how_many_first test xs d 0 (omega arith) (λ i l. absurd (let z : ⊥ = omega arith in z)) (λ i l k. g (suc i) (omega arith) (omega arith)))
how_many_first test (x ∷ xs) d (suc n) h f g =
    rw (f 0 (omega arith))
    (ap suc (how_many_first test xs d n (omega arith) (λ i l. f (suc i) (omega arith)) (λ i l k. g (suc i) (omega arith) (omega arith))))

-- two tests that exclude each other
pub select_two : {A : Type 0} (s t u : A → Bool) (xs : List A)
    → ((a : A) → T (s a) → T (u a)) → ((a : A) → T (t a) → T (u a)) → ((a : A) → T (s a) → T (t a) → ⊥)
    → how_many s xs + how_many t xs ≤ how_many u xs
unfolding select
select_two s t u [] f g h = omega arith
select_two {A} s t u (x ∷ xs) f g h =
    let ih = select_two s t u xs f g h in
    let first = one (s x) (t x) (u x) (f x) (g x) (h x) in
    omega (arith, length_select s x xs, length_select t x xs, length_select u x xs)
  where
    one : (a b c : Bool) → (T a → T c) → (T b → T c) → (T a → T b → ⊥) → cond a 1 0 + cond b 1 0 ≤ cond c 1 0
    one true true c f g h = absurd (h tt tt)
    one true false true f g h = omega arith
    one true false false f g h = absurd (f tt)
    one false true true f g h = omega arith
    one false true false f g h = absurd (g tt)
    one false false c f g h = omega arith

-- ---- numbers below n

abbrev pub count : (ℕ → Bool) → ℕ → ℕ
count test n = how_many test (tabulate n (λ i. i))

pub count_next : (test : ℕ → Bool) (n : ℕ) → count test (suc n) ≡ count test n + cond (test n) 1 0
unfolding tabulate select
count_next test n =
    how_many-append test (tabulate n (λ i. i)) (n ∷ []) ∙ ap (λ (k : ℕ). count test n + k) (length_select test n [] ∙ add-zero (cond (test n) 1 0))

pub count_yes : (test : ℕ → Bool) (n : ℕ) → T (test n) → count test (suc n) ≡ suc (count test n)
count_yes test n t =
    count_next test n ∙ ap (λ (b : Bool). count test n + cond b 1 0) (true-T (test n) t) ∙ (omega arith)

pub count_no : (test : ℕ → Bool) (n : ℕ) → (T (test n) → ⊥) → count test (suc n) ≡ count test n
count_no test n f = go (test n) refl
  where
    go : (b : Bool) → test n ≡ b → count test (suc n) ≡ count test n
    go true e = absurd (f (subst T (sym e) tt))
    go false e = count_next test n ∙ ap (λ (b : Bool). count test n + cond b 1 0) e ∙ (omega arith)

-- numbers that do not pass are not counted
pub count_skip : (test : ℕ → Bool) (q n : ℕ) → q ≤ n → ((j : ℕ) → q ≤ j → j < n → T (test j) → ⊥) → count test n ≡ count test q
count_skip test q zero h f = ap (count test) (let e : 0 ≡ q = omega arith in e)
count_skip test q (suc n) h f = go (dec_lt q (suc n)) (count_skip test q n)
  where
    go : Dec (q < suc n) → (q ≤ n → ((j : ℕ) → q ≤ j → j < n → T (test j) → ⊥) → count test n ≡ count test q) → count test (suc n) ≡ count test q
    go (yes l) ih = count_no test n (f n (omega arith) (omega arith)) ∙ ih (omega arith) (λ j a b. f j a (omega arith))
    go (no g) ih = ap (count test) (let e : suc n ≡ q = omega arith in e)

-- where nothing below q passes, at most n - q numbers below n do
pub count_from : (test : ℕ → Bool) (q n : ℕ) → q ≤ n → ((j : ℕ) → j < q → T (test j) → ⊥) → count test n + q ≤ n
unfolding tabulate select
count_from test q zero h f = omega arith
count_from test q (suc n) h f = go (dec_lt q (suc n)) (test n) (count_next test n) (count_from test q n)
  where
    go : Dec (q < suc n) → (b : Bool) → count test (suc n) ≡ count test n + cond b 1 0
        → (q ≤ n → ((j : ℕ) → j < q → T (test j) → ⊥) → count test n + q ≤ n) → count test (suc n) + q ≤ suc n
    go (yes l) true e ih = let r = ih (omega arith) f in omega arith
    go (yes l) false e ih = let r = ih (omega arith) f in omega arith
    go (no g) b e ih =
        let z : count test (suc n) ≡ 0 = count_skip test 0 (suc n) (omega arith) (λ j a l. f j (omega arith)) in
        omega arith
