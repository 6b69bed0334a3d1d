-- Rows: lists of lists put end to end by `flatten`, and tables of rows.
use Rattle.std.specs.Prelude.{◌≡◌, ◌⊎◌, ◌↔◌, ◌∷◌, ◌++◌, ◌+◌, ◌-◌, ◌*◌, ◌≤◌, ◌<◌}
use Rattle.lists.proofs.Prelude.{◌∙◌, ap, sym, refl, subst, ap₂, inl, inr, List, [], append-nil, Memᴰ, append_assoc}
use Rattle.lists.proofs.Prelude.{Memᴰ-not-nil, Memᴰ-append_cases, Memᴰ-append_left, Memᴰ-append_right, flatten, ℕ, zero, suc}
use Rattle.lists.proofs.Prelude.{length, get_or, take, drop, length-append, get_or-append, take-append-drop, take-suc, get_or-append-add}
use Rattle.lists.proofs.Prelude.{le_refl, dec_lt, arith, tabulate}
use Rattle.lists.proofs.Tables.{tabulate_ext, tabulate-cons}

pub flatten-nil : {A : Type 0} → flatten {A = A} [] ≡ []
unfolding flatten
flatten-nil = refl

pub flatten-append : {A : Type 0} (xs ys : List (List A)) → flatten (xs ++ ys) ≡ flatten xs ++ flatten ys
unfolding flatten
flatten-append [] ys = refl
flatten-append {A} (x ∷ xs) ys = ap (λ (l : List A). x ++ l) (flatten-append xs ys) ∙ sym (append_assoc x (flatten xs) (flatten ys))

pub flatten_snoc : {A : Type 0} (ps : List (List A)) (p : List A) → flatten (ps ++ (p ∷ [])) ≡ flatten ps ++ p
unfolding flatten
flatten_snoc {A} ps p = flatten-append ps (p ∷ []) ∙ ap (λ (l : List A). flatten ps ++ l) (append-nil p)

-- ---- tables of rows

pub flatten_none : {A : Type 0} (g : ℕ → List A) → flatten (tabulate 0 g) ≡ []
unfolding tabulate flatten
flatten_none g = refl

-- one more row at the end
pub flatten-tabulate : {A : Type 0} (n : ℕ) (f : ℕ → List A) → flatten (tabulate (suc n) f) ≡ flatten (tabulate n f) ++ f n
unfolding tabulate flatten
flatten-tabulate {A} n f = flatten-append (tabulate n f) (f n ∷ []) ∙ ap (λ (l : List A). flatten (tabulate n f) ++ l) (append-nil (f n))

pub mem-flatten-tabulate : {A : Type 0} (n : ℕ) (f : ℕ → List A) (a : A) → Memᴰ a (flatten (tabulate n f)) ↔ ((i : ℕ) × (i < n) × Memᴰ a (f i))
unfolding tabulate flatten
mem-flatten-tabulate {A} n f a = (from n, λ m. to n m.0 m.1 m.2)
  where
    from : (n : ℕ) → Memᴰ a (flatten (tabulate n f)) → (i : ℕ) × (i < n) × Memᴰ a (f i)
    from zero m = absurd (Memᴰ-not-nil m)
    from (suc n) m = go (Memᴰ-append_cases (flatten (tabulate n f)) (subst (λ (l : List A). Memᴰ a l) (flatten-tabulate n f) m)) (from n)
      where
        go : Memᴰ a (flatten (tabulate n f)) ⊎ Memᴰ a (f n)
            → (Memᴰ a (flatten (tabulate n f)) → (i : ℕ) × (i < n) × Memᴰ a (f i)) → (i : ℕ) × (i < suc n) × Memᴰ a (f i)
        go (inl h) ih = let r = ih h in (r.0, omega (arith, r.1), r.2)
        go (inr h) ih = (n, omega arith, h)

    to : (n i : ℕ) → i < n → Memᴰ a (f i) → Memᴰ a (flatten (tabulate n f))
    to zero i h m = absurd (let z : ⊥ = omega arith in z)
    to (suc n) i h m = subst (λ (l : List A). Memᴰ a l) (sym (flatten-tabulate n f)) (go (dec_lt i n) (to n i))
      where
        go : Dec (i < n) → (i < n → Memᴰ a (f i) → Memᴰ a (flatten (tabulate n f))) → Memᴰ a (flatten (tabulate n f) ++ f n)
        go (yes l) ih = Memᴰ-append_left (f n) (ih l m)
        go (no g) ih =
            let e : i ≡ n = omega arith in
            Memᴰ-append_right (flatten (tabulate n f)) (subst (λ (k : ℕ). Memᴰ a (f k)) e m)

-- ---- lengths

-- the first j rows and row j are the first j + 1 rows
pub length-flatten-suc : {A : Type 0} (xs : List (List A)) (j : ℕ) → j < length xs
    → length (flatten (take (suc j) xs)) ≡ length (flatten (take j xs)) + length (get_or xs j [])
unfolding flatten
length-flatten-suc xs j h =
    rw (take-suc xs j [] h, flatten-append, append-nil, length-append) refl

-- some rows are no longer than all
pub length-flatten-take : {A : Type 0} (xs : List (List A)) (j : ℕ) → length (flatten (take j xs)) ≤ length (flatten xs)
length-flatten-take xs j =
    let e : length (flatten (take j xs)) + length (flatten (drop j xs)) ≡ length (flatten xs) =
    sym (length-append (flatten (take j xs)) (flatten (drop j xs)))
    ∙ ap length (sym (flatten-append (take j xs) (drop j xs)) ∙ ap flatten (take-append-drop j xs)) in
    omega arith

-- ---- rows of sixteen words

pub length_rows : {A : Type 0} (n : ℕ) (f : ℕ → List A) → ((i : ℕ) → length (f i) ≡ 16) → length (flatten (tabulate n f)) ≡ 16 * n
unfolding tabulate flatten
length_rows zero f h = omega arith
length_rows (suc n) f h =
    ap length (flatten-tabulate n f) ∙ length-append (flatten (tabulate n f)) (f n) ∙ (omega (arith, length_rows n f h, h n))

-- place j of row i
pub get_or_rows : {A : Type 0} (n : ℕ) (f : ℕ → List A) (d : A) → ((i : ℕ) → length (f i) ≡ 16) → (i j : ℕ) → i < n → j < 16
    → get_or (flatten (tabulate n f)) (16 * i + j) d ≡ get_or (f i) j d
get_or_rows zero f d h i j k l = absurd (let z : ⊥ = omega arith in z)
get_or_rows {A} (suc n) f d h i j k l =
    ap (λ (l : List A). get_or l (16 * i + j) d) (flatten-tabulate n f) ∙ go (dec_lt i n) (get_or_rows n f d h i j)
  where
    go : Dec (i < n) → (i < n → j < 16 → get_or (flatten (tabulate n f)) (16 * i + j) d ≡ get_or (f i) j d)
        → get_or (flatten (tabulate n f) ++ f n) (16 * i + j) d ≡ get_or (f i) j d
    go (yes b) ih = get_or-append (flatten (tabulate n f)) (f n) d (16 * i + j) (omega (arith, length_rows n f h)) ∙ ih b l
    go (no b) ih =
        let e : i ≡ n = omega arith in
        let p : 16 * i + j ≡ length (flatten (tabulate n f)) + j = omega (arith, length_rows n f h) in
        ap (λ (q : ℕ). get_or (flatten (tabulate n f) ++ f n) q d) p
        ∙ get_or-append-add (flatten (tabulate n f)) (f n) j d
        ∙ ap (λ (q : ℕ). get_or (f q) j d) (sym e)

-- ---- the rows of a table from the last to the first

-- the rows n, n - 1, .., 0 of a table, end to end
unfoldable pub rows_from : {A : Type 0} → (ℕ → List A) → ℕ → List A
rows_from row zero = row 0
rows_from row (suc n) = row (suc n) ++ rows_from row n

pub rows_from_is : {A : Type 0} (row : ℕ → List A) (n : ℕ) → flatten (tabulate (suc n) (λ i. row (n - i))) ≡ rows_from row n
unfolding rows_from flatten tabulate
rows_from_is row zero = append-nil (row 0)
rows_from_is {A} row (suc n) =
    let first : row (suc n - 0) ≡ row (suc n) = ap row (omega arith) in
    let rest : tabulate (suc n) (λ i. row (suc n - suc i)) ≡ tabulate (suc n) (λ i. row (n - i)) =
    tabulate_ext (suc n) (λ i. row (suc n - suc i)) (λ i. row (n - i)) (λ i h. ap row (omega arith)) in
    ap flatten (tabulate-cons (suc n) (λ i. row (suc n - i)))
    ∙ ap₂ (λ (l r : List A). l ++ r) first (ap flatten rest ∙ rows_from_is row n)

pub rows_from-mem : {A : Type 0} (row : ℕ → List A) (n : ℕ) (a : A) → Memᴰ a (rows_from row n) → (i : ℕ) × (i ≤ n) × Memᴰ a (row i)
unfolding rows_from
rows_from-mem row zero a m = (0, le_refl 0, m)
rows_from-mem {A} row (suc n) a m = go (Memᴰ-append_cases (row (suc n)) m) (rows_from-mem row n a)
  where
    go : Memᴰ a (row (suc n)) ⊎ Memᴰ a (rows_from row n) → (Memᴰ a (rows_from row n) → (i : ℕ) × (i ≤ n) × Memᴰ a (row i))
        → (i : ℕ) × (i ≤ suc n) × Memᴰ a (row i)
    go (inl h) ih = (suc n, le_refl (suc n), h)
    go (inr h) ih = let r = ih h in (r.0, omega (arith, r.1), r.2)

pub mem-rows_from : {A : Type 0} (row : ℕ → List A) (n : ℕ) (a : A) (i : ℕ) → i ≤ n → Memᴰ a (row i) → Memᴰ a (rows_from row n)
unfolding rows_from
mem-rows_from {A} row zero a i h m = let e : i ≡ 0 = omega arith in subst (λ (k : ℕ). Memᴰ a (row k)) e m
mem-rows_from {A} row (suc n) a i h m = go (dec_lt i (suc n)) (mem-rows_from row n a i)
  where
    go : Dec (i < suc n) → (i ≤ n → Memᴰ a (row i) → Memᴰ a (rows_from row n)) → Memᴰ a (row (suc n) ++ rows_from row n)
    go (yes l) ih = Memᴰ-append_right (row (suc n)) (ih (omega arith) m)
    go (no f) ih =
        let e : i ≡ suc n = omega arith in
        Memᴰ-append_left (rows_from row n) (subst (λ (k : ℕ). Memᴰ a (row k)) e m)
