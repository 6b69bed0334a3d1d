-- Lists and sequences that rise: every element stands in a relation to all that follow it.
use Rattle.std.specs.Prelude.{◌≡◌, ◌⊎◌, ◌∷◌, ◌++◌, ◌+◌, ◌≤◌, ◌<◌}
use Rattle.lists.proofs.Prelude.{◌∙◌, ap, sym, refl, subst, ap₂, inl, inr, Bool, true, false, cond, List, [], Memᴰ}
use Rattle.lists.proofs.Prelude.{Memᴰ-head, Memᴰ-tail, Memᴰ-not-nil, Memᴰ-cases_cons, Memᴰ-append_cases, Memᴰ-append_left}
use Rattle.lists.proofs.Prelude.{Memᴰ-append_right, ℕ, zero, suc, length, get_or, take, drop, length-append, split_at, dec_lt, arith}
use Rattle.lists.proofs.Prelude.{map, flatten, tabulate, select}
use Rattle.lists.proofs.Members.{get_or-mem, mem-get_or, mem-map, mem_table, mem_below}
use Rattle.lists.proofs.Rows.{flatten-tabulate, mem-flatten-tabulate}
use Rattle.lists.proofs.Select.{mem-select}

abbrev pub Rising : {A : Type 0} → (A → A → Type 0) → List A → Type 0
Rising R [] = Unit {0}
Rising {A} R (x ∷ xs) = ((y : A) → Memᴰ y xs → R x y) × Rising R xs

pub Rising-at : {A : Type 0} (R : A → A → Type 0) (xs : List A) (d : A) → Rising R xs → (i j : ℕ) → i < j → j < length xs → R (get_or xs i d) (get_or xs j d)
Rising-at R [] d r i j h k = absurd (let z : ⊥ = omega arith in z)
Rising-at R (x ∷ xs) d r i zero h k = absurd (let z : ⊥ = omega arith in z)
Rising-at R (x ∷ xs) d r zero (suc j) h k = r.0 (get_or xs j d) (get_or-mem xs j d (omega arith))
Rising-at R (x ∷ xs) d r (suc i) (suc j) h k = Rising-at R xs d r.1 i j (omega arith) (omega arith)

-- ---- lists that rise

pub Rising-append : {A : Type 0} (R : A → A → Type 0) (xs ys : List A) → Rising R xs → Rising R ys
    → ((x y : A) → Memᴰ x xs → Memᴰ y ys → R x y) → Rising R (xs ++ ys)
Rising-append R [] ys r s f = s
Rising-append {A} R (x ∷ xs) ys r s f =
    (λ y m. go y (Memᴰ-append_cases xs m), Rising-append R xs ys r.1 s (λ a b m n. f a b (Memᴰ-tail m) n))
  where
    go : (y : A) → Memᴰ y xs ⊎ Memᴰ y ys → R x y
    go y (inl m) = r.0 y m
    go y (inr m) = f x y (Memᴰ-head refl) m

pub Rising-weaken : {A : Type 0} (R S : A → A → Type 0) (xs : List A) → ((x y : A) → Memᴰ x xs → Memᴰ y xs → R x y → S x y) → Rising R xs
    → Rising S xs
Rising-weaken R S [] f r = tt
Rising-weaken R S (x ∷ xs) f r =
    (λ y m. f x y (Memᴰ-head refl) (Memᴰ-tail m) (r.0 y m), Rising-weaken R S xs (λ a b m n. f a b (Memᴰ-tail m) (Memᴰ-tail n)) r.1)

pub Rising-select : {A : Type 0} (R : A → A → Type 0) (test : A → Bool) (xs : List A) → Rising R xs → Rising R (select test xs)
unfolding select
Rising-select R test [] e = tt
Rising-select {A} R test (x ∷ xs) e = go (test x) (Rising-select R test xs e.1)
  where
    go : (b : Bool) → Rising R (select test xs) → Rising R (cond b (x ∷ select test xs) (select test xs))
    go true ih = (λ y m. e.0 y ((mem-select test xs y).0 m).0, ih)
    go false ih = ih

-- rows that rise, each before the next, rise one behind the other
pub Rising-rows : {A : Type 0} (R : A → A → Type 0) (n : ℕ) (f : ℕ → List A) → ((i : ℕ) → i < n → Rising R (f i))
    → ((i j : ℕ) (a b : A) → i < j → j < n → Memᴰ a (f i) → Memᴰ b (f j) → R a b) → Rising R (flatten (tabulate n f))
unfolding tabulate flatten
Rising-rows R zero f h k = tt
Rising-rows {A} R (suc n) f h k =
    subst (Rising R) (sym (flatten-tabulate n f))
    (Rising-append R (flatten (tabulate n f)) (f n) (Rising-rows R n f (λ i l. h i (omega arith)) (λ i j a b l m. k i j a b l (omega arith)))
    (h n (omega arith))
    (λ a b p q. let r = (mem-flatten-tabulate n f a).0 p in k r.0 n a b r.1 (omega arith) r.2 q))

pub Rising-map : {A B : Type 0} (R : A → A → Type 0) (S : B → B → Type 0) (f : A → B) (xs : List A) → ((a b : A) → R a b → S (f a) (f b)) → Rising R xs
    → Rising S (map f xs)
Rising-map R S f [] h r = tt
Rising-map {A} {B} R S f (x ∷ xs) h r = (λ y m. first y ((mem-map f xs y).0 m), Rising-map R S f xs h r.1)
  where
    first : (y : B) → (a : A) × Memᴰ a xs × (y ≡ f a) → S (f x) y
    first y p = rw p.2 (h x p.0 (r.0 p.0 p.1))

-- a table rises where its rule does
pub table-Rising : {A : Type 0} (R : A → A → Type 0) (n : ℕ) (f : ℕ → A) (d : A) → ((i j : ℕ) → i < j → j < n → R (f i) (f j)) → Rising R (tabulate n f)
unfolding tabulate
table-Rising R zero f d h = tt
table-Rising {A} R (suc n) f d h =
    Rising-append R (tabulate n f) (f n ∷ []) (table-Rising R n f d (λ i j l k. h i j l (omega arith))) (λ y m. absurd (Memᴰ-not-nil m), tt)
    (λ x y m k. go x y (mem_table n f d x m) (Memᴰ-cases_cons k))
  where
    go : (x y : A) → (i : ℕ) × (i < n) × (x ≡ f i) → (y ≡ f n) ⊎ Memᴰ y [] → R x y
    go x y r (inl e) = subst (λ (a : A). R a y) (sym r.2) (subst (λ (a : A). R (f r.0) a) (sym e) (h r.0 n r.1 (omega arith)))
    go x y r (inr k) = absurd (Memᴰ-not-nil k)

-- the numbers below n go up
pub Rising-below : (n : ℕ) → Rising (λ i j. i < j) (tabulate n (λ i. i))
unfolding tabulate
Rising-below zero = tt
Rising-below (suc n) =
    Rising-append (λ i j. i < j) (tabulate n (λ i. i)) (n ∷ []) (Rising-below n) (λ y m. absurd (Memᴰ-not-nil m), tt)
    (λ i j m k. last i j ((mem_below n i).0 m) (Memᴰ-cases_cons k))
  where
    last : (i j : ℕ) → i < n → (j ≡ n) ⊎ Memᴰ j [] → i < j
    last i j h (inl e) = omega arith
    last i j h (inr k) = absurd (Memᴰ-not-nil k)

-- a list rises in a transitive relation where neighbours do
pub neighbours-Rising : {A : Type 0} (R : A → A → Type 0) (xs : List A) (d : A) → ((a b c : A) → R a b → R b c → R a c)
    → ((i : ℕ) → suc i < length xs → R (get_or xs i d) (get_or xs (suc i) d)) → Rising R xs
neighbours-Rising R [] d t h = tt
neighbours-Rising {A} R (x ∷ xs) d t h = let r = neighbours-Rising R xs d t (λ i l. h (suc i) (omega arith)) in (first xs r (λ l. h 0 l), r)
  where
    first : (ys : List A) → Rising R ys → (1 < length (x ∷ ys) → R x (get_or ys 0 d)) → (y : A) → Memᴰ y ys → R x y
    first [] r f y m = absurd (Memᴰ-not-nil m)
    first (z ∷ zs) r f y m = go (Memᴰ-cases_cons m)
      where
        go : (y ≡ z) ⊎ Memᴰ y zs → R x y
        go (inl e) = subst (λ (a : A). R x a) (sym e) (f (omega arith))
        go (inr k) = t x z y (f (omega arith)) (r.0 y k)

-- ---- lists without repetition

abbrev pub Differ : {A : Type 0} → A → A → Type 0
Differ a b = a ≡ b → ⊥

-- a list without repetition is no longer than one that has its members
pub distinct_within : {A : Type 0} (xs ys : List A) → Rising Differ xs → ((a : A) → Memᴰ a xs → Memᴰ a ys) → length xs ≤ length ys
distinct_within [] ys r f = omega arith
distinct_within {A} (x ∷ xs) ys r f =
    let p = mem-get_or ys x x (f x (Memᴰ-head refl)) in
    let l = take p.0 ys in
    let s = drop (suc p.0) ys in
    let e : ys ≡ l ++ (x ∷ s) = split_at ys p.0 x p.1 ∙ ap (λ (a : A). l ++ (a ∷ s)) p.2 in
    let side : (a : A) → Memᴰ a xs → Memᴰ a l ⊎ Memᴰ a (x ∷ s) =
    λ a m. Memᴰ-append_cases l (subst (λ (z : List A). Memᴰ a z) e (f a (Memᴰ-tail m))) in
    let ih = distinct_within xs (l ++ s) r.1 (λ a m. without l s a (r.0 a m) (side a m)) in
    omega (arith, ap length e, length-append l (x ∷ s), length-append l s)
  where
    without : (l s : List A) (a : A) → Differ x a → Memᴰ a l ⊎ Memᴰ a (x ∷ s) → Memᴰ a (l ++ s)
    without l s a n (inl m) = Memᴰ-append_left s m
    without l s a n (inr m) = go (Memᴰ-cases_cons m)
      where
        go : (a ≡ x) ⊎ Memᴰ a s → Memᴰ a (l ++ s)
        go (inl e) = absurd (n (sym e))
        go (inr k) = Memᴰ-append_right l k

-- two lists without repetition that have the same members are equally long
pub distinct_length : {A : Type 0} (xs ys : List A) → Rising Differ xs → Rising Differ ys → ((a : A) → Memᴰ a xs → Memᴰ a ys)
    → ((a : A) → Memᴰ a ys → Memᴰ a xs)
    → length xs ≡ length ys
distinct_length xs ys r s f g = omega (arith, distinct_within xs ys r f, distinct_within ys xs s g)

-- of two lists that rise in a strict order the one is the other where it has only its members, and
-- as many
pub Rising-same : {A : Type 0} (R : A → A → Type 0) → ((a : A) → R a a → ⊥) → ((a b c : A) → R a b → R b c → R a c)
    → (xs ys : List A) → Rising R xs → Rising R ys → ((a : A) → Memᴰ a xs → Memᴰ a ys) → length xs ≡ length ys → xs ≡ ys
Rising-same R irr t [] [] r s f e = refl
Rising-same R irr t [] (y ∷ ys) r s f e = absurd (let z : ⊥ = omega arith in z)
Rising-same R irr t (x ∷ xs) [] r s f e = absurd (let z : ⊥ = omega arith in z)
Rising-same {A} R irr t (x ∷ xs) (y ∷ ys) r s f e = go (Memᴰ-cases_cons (f x (Memᴰ-head refl))) (Rising-same R irr t xs ys r.1 s.1)
  where
    rest : (a : A) → x ≡ y → Memᴰ a xs → (a ≡ y) ⊎ Memᴰ a ys → Memᴰ a ys
    rest a q m (inl p) = absurd (irr x (subst (λ (z : A). R x z) (p ∙ sym q) (r.0 a m)))
    rest a q m (inr k) = k

    after : (a : A) → Memᴰ x ys → (a ≡ x) ⊎ Memᴰ a xs → (a ≡ y) ⊎ Memᴰ a ys → Memᴰ a ys
    after a n m (inr k) = k
    after a n (inl q) (inl p) = absurd (irr x (subst (λ (z : A). R z x) (sym (sym q ∙ p)) (s.0 x n)))
    after a n (inr m) (inl p) = absurd (irr y (t y x y (s.0 x n) (subst (λ (z : A). R x z) p (r.0 a m))))

    differ : (a b : A) → R a b → Differ a b
    differ a b p q = irr b (subst (λ (z : A). R z b) q p)

    go : (x ≡ y) ⊎ Memᴰ x ys → (((a : A) → Memᴰ a xs → Memᴰ a ys) → length xs ≡ length ys → xs ≡ ys) → (x ∷ xs) ≡ (y ∷ ys)
    go (inl q) ih = ap₂ (λ (a : A) (l : List A). a ∷ l) q (ih (λ a m. rest a q m (Memᴰ-cases_cons (f a (Memᴰ-tail m)))) (omega arith))
    go (inr n) ih =
        let distinct = Rising-weaken R Differ (x ∷ xs) (λ a b m k p. differ a b p) r in
        let w : length (x ∷ xs) ≤ length ys =
        distinct_within (x ∷ xs) ys distinct (λ a m. after a n (Memᴰ-cases_cons m) (Memᴰ-cases_cons (f a m))) in
        absurd (let z : ⊥ = omega arith in z)

-- ---- sequences of numbers that rise from each to the next

-- what rises from each to the next rises
pub rising_all : (m : ℕ) (f : ℕ → ℕ) → ((i : ℕ) → suc i < m → f i < f (suc i)) → (i j : ℕ) → i < j → j < m → f i < f j
rising_all m f r i zero h k = absurd (let z : ⊥ = omega arith in z)
rising_all m f r i (suc j) h k = go (native.Mathlib.Decide.dec_lt i j) (rising_all m f r i j)
  where
    go : Dec (i < j) → (i < j → j < m → f i < f j) → f i < f (suc j)
    go (yes l) ih = omega (arith, ih l (omega arith), r j k)
    go (no g) ih = let e : i ≡ j = omega arith in rw e (r j k)

-- a rising sequence climbs by at least one a step
rising_climbs : (m : ℕ) (f : ℕ → ℕ) (a : ℕ) → ((i : ℕ) → i < m → a ≤ f i) → ((i : ℕ) → suc i < m → f i < f (suc i)) → (i : ℕ) → i < m → a + i ≤ f i
rising_climbs m f a h r zero l = omega (arith, h 0 l)
rising_climbs m f a h r (suc i) l = omega (arith, rising_climbs m f a h r i (omega arith), r i l)

-- so there are no more of them than numbers from a on below b
pub rising_count : (m : ℕ) (f : ℕ → ℕ) (a b : ℕ) → a ≤ b → ((i : ℕ) → i < m → (a ≤ f i) × (f i < b)) → ((i : ℕ) → suc i < m → f i < f (suc i)) → a + m ≤ b
rising_count zero f a b k h r = omega arith
rising_count (suc m) f a b k h r = omega (arith, rising_climbs (suc m) f a (λ i l. (h i l).0) r m (omega arith), (h m (omega arith)).1)
