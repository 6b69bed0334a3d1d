-- Tables: the lists that `tabulate` makes.
use Rattle.std.specs.Prelude.{◌≡◌, ◌∷◌, ◌++◌, ◌+◌, ◌≤◌, ◌<◌}
use Rattle.lists.proofs.Prelude.{get_or-take, ◌∙◌, ap, sym, refl, ap₂, List, [], map, ℕ, zero, suc, length, get_or, take}
use Rattle.lists.proofs.Prelude.{drop, set, length-append, length-set, get_or-append, drop-cons, take_all, append_snoc, ext_get_or, set_at}
use Rattle.lists.proofs.Prelude.{get_or-set_same, get_or-set_other, get_or_at, take-append-le, add-one, dec_lt, arith, tabulate}
use Rattle.lists.proofs.Parts.{map-append}

-- ---- length and elements

pub length-tabulate : {A : Type 0} (n : ℕ) (f : ℕ → A) → length (tabulate n f) ≡ n
unfolding tabulate
length-tabulate zero f = refl
length-tabulate (suc n) f = length-append (tabulate n f) (f n ∷ []) ∙ ap (λ (k : ℕ). k + 1) (length-tabulate n f) ∙ add-one n

pub get_or-tabulate : {A : Type 0} (n : ℕ) (f : ℕ → A) (d : A) (j : ℕ) → j < n → get_or (tabulate n f) j d ≡ f j
unfolding tabulate
get_or-tabulate zero f d j h = absurd (let z : ⊥ = omega arith in z)
get_or-tabulate {A} (suc n) f d j h = go (dec_lt j n) (get_or-tabulate n f d j)
  where
    go : Dec (j < n) → (j < n → get_or (tabulate n f) j d ≡ f j) → get_or (tabulate n f ++ (f n ∷ [])) j d ≡ f j
    go (yes l) ih = get_or-append (tabulate n f) (f n ∷ []) d j (rw length-tabulate l) ∙ ih l
    go (no g) ih =
        let e : j ≡ n = omega arith in
        rw e (get_or_at (tabulate n f) (f n) [] d n (length-tabulate n f))

-- equal tables have equal elements
pub tabulate_at : {A : Type 0} (d : A) (n : ℕ) (f g : ℕ → A) → tabulate n f ≡ tabulate n g → (i : ℕ) → i < n → f i ≡ g i
tabulate_at d n f g e i h = sym (get_or-tabulate n f d i h) ∙ ap (λ l. get_or l i d) e ∙ get_or-tabulate n g d i h

-- two tables are equal where their rules agree
pub tabulate_ext : {A : Type 0} (n : ℕ) (f g : ℕ → A) → ((j : ℕ) → j < n → f j ≡ g j) → tabulate n f ≡ tabulate n g
unfolding tabulate
tabulate_ext zero f g h = refl
tabulate_ext (suc n) f g h =
    ap₂ (λ l a. l ++ (a ∷ [])) (tabulate_ext n f g (λ j l. h j (omega arith))) (h n (omega arith))

-- a list is the table of its elements
pub tabulate-get_or : {A : Type 0} (d : A) (xs : List A) → tabulate (length xs) (λ j. get_or xs j d) ≡ xs
tabulate-get_or d xs =
    ext_get_or d (tabulate (length xs) (λ j. get_or xs j d)) xs (length-tabulate (length xs) (λ j. get_or xs j d))
    (λ i h. get_or-tabulate (length xs) (λ j. get_or xs j d) d i (rw length-tabulate at h))

-- a list that begins with a table
pub filled_at : {A : Type 0} (d : A) (f : ℕ → A) (xs : List A) (i j : ℕ) → take i xs ≡ tabulate i f → j < i → get_or xs j d ≡ f j
filled_at {A} d f xs i j e h = sym (get_or-take i xs j d h) ∙ ap (λ (l : List A). get_or l j d) e ∙ get_or-tabulate i f d j h

-- ---- parts of tables, and mapped tables

-- a front of a table is a table
pub take-tabulate : {A : Type 0} (m n : ℕ) (f : ℕ → A) → m ≤ n → take m (tabulate n f) ≡ tabulate m f
unfolding tabulate
take-tabulate m zero f h = let e : m ≡ 0 = omega arith in rw e refl
take-tabulate {A} m (suc n) f h = go (dec_lt m (suc n)) (take-tabulate m n f)
  where
    go : Dec (m < suc n) → (m ≤ n → take m (tabulate n f) ≡ tabulate m f) → take m (tabulate n f ++ (f n ∷ [])) ≡ tabulate m f
    go (yes l) ih = take-append-le m (tabulate n f) (f n ∷ []) (rw length-tabulate (omega arith)) ∙ ih (omega arith)
    go (no g) ih =
        let e : m ≡ suc n = omega arith in
        rw e (lib.Seq.take_all (suc n) (tabulate n f ++ (f n ∷ [])) (rw (length-append, length-tabulate) (omega arith)))

pub tabulate-cons : {A : Type 0} (n : ℕ) (f : ℕ → A) → tabulate (suc n) f ≡ f 0 ∷ tabulate n (λ j. f (suc j))
unfolding tabulate
tabulate-cons zero f = refl
tabulate-cons {A} (suc n) f = ap (λ (l : List A). l ++ (f (suc n) ∷ [])) (tabulate-cons n f)

pub map-tabulate : {A B : Type 0} (g : A → B) (n : ℕ) (f : ℕ → A) → map g (tabulate n f) ≡ tabulate n (λ i. g (f i))
unfolding tabulate
map-tabulate g zero f = refl
map-tabulate {A} {B} g (suc n) f = map-append g (tabulate n f) (f n ∷ []) ∙ ap (λ (l : List B). l ++ (g (f n) ∷ [])) (map-tabulate g n f)

-- the numbers below n + 1 are 0 and one more than each number below n
pub below_front : (n : ℕ) → tabulate (suc n) (λ i. i) ≡ 0 ∷ map suc (tabulate n (λ i. i))
below_front n = tabulate-cons n (λ i. i) ∙ ap (λ (l : List ℕ). 0 ∷ l) (sym (map-tabulate suc n (λ i. i)))

-- ---- stores

-- one more store: what a turn of a loop that fills an array does
pub tabulate_more : {A : Type 0} (f : ℕ → A) (z : A) (d : List A) (i : ℕ) (v : A) → i < length d → v ≡ f i
    → set (tabulate i f ++ drop i d) i v ≡ tabulate (i + 1) f ++ drop (i + 1) d
unfolding tabulate
tabulate_more f z d i v h e =
    rw (drop-cons d i z h, set_at (tabulate i f) (get_or d i z) (drop (suc i) d) v i (length-tabulate i f), add-one, e)
    (sym (append_snoc (tabulate i f) (f i) (drop (suc i) d)))

-- a store in a table changes its rule at one place
pub tabulate-set : (f g : ℕ → ℕ) (n c v : ℕ) → c < n → g c ≡ v → ((i : ℕ) → i < n → (i ≡ c → ⊥) → f i ≡ g i) → set (tabulate n f) c v ≡ tabulate n g
tabulate-set f g n c v h e other =
    let l : length (set (tabulate n f) c v) ≡ n = length-set (tabulate n f) c v ∙ length-tabulate n f in
    ext_get_or 0 (set (tabulate n f) c v) (tabulate n g) (l ∙ sym (length-tabulate n g)) (λ i k. go i (omega arith) (dec_lt i c) (dec_lt c i))
  where
    elsewhere : (i : ℕ) → i < n → (i ≡ c → ⊥) → get_or (set (tabulate n f) c v) i 0 ≡ get_or (tabulate n g) i 0
    elsewhere i k q = get_or-set_other (tabulate n f) c i v 0 q ∙ get_or-tabulate n f 0 i k ∙ other i k q ∙ sym (get_or-tabulate n g 0 i k)

    go : (i : ℕ) → i < n → Dec (i < c) → Dec (c < i) → get_or (set (tabulate n f) c v) i 0 ≡ get_or (tabulate n g) i 0
    go i k (yes a) b = elsewhere i k (λ q. omega arith)
    go i k (no a) (yes b) = elsewhere i k (λ q. omega arith)
    go i k (no a) (no b) =
        let q : i ≡ c = omega arith in
        rw q (get_or-set_same (tabulate n f) c v 0 (rw length-tabulate h) ∙ sym e ∙ sym (get_or-tabulate n g 0 c h))
