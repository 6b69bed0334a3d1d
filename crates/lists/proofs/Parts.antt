-- Parts of a list: its front, its last elements, and what a part that was written to makes of the
-- whole.
use Rattle.std.specs.Prelude.{◌<◌, ◌-◌, ◌≡◌, ◌∷◌, ◌++◌, ◌+◌, ◌≤◌}
use Rattle.lists.proofs.Prelude.{set_split, set_at, append_snoc, drop-cons, drop_at, zero, suc, set, sub-one, take-suc, length-take-le}
use Rattle.lists.proofs.Prelude.{get_or-append-add, get_or-drop, take-append-drop, get_or, ◌∙◌, ap, sym, refl, ap₂, List, [], map, append-nil}
use Rattle.lists.proofs.Prelude.{append_assoc, ℕ, length, take, drop, length-append, length-drop, drop_of_length-le, get_or-take, take_all}
use Rattle.lists.proofs.Prelude.{take_at, drop-drop, take-add, drop-append-le, take-append_seam, drop-append-add, add-one, arith, last_of}

-- ---- no elements

pub length_none : {A : Type 0} (l : List A) → length l ≡ 0 → l ≡ []
length_none [] e = refl
length_none (x ∷ l) e = absurd (let y : ⊥ = omega arith in y)

-- ---- fronts

-- what lies behind the first n elements of the first n + m
pub drop_front : {A : Type 0} (n m : ℕ) (xs : List A) → n ≤ length xs → drop n (take (n + m) xs) ≡ take m (drop n xs)
drop_front n m xs h = ap (drop n) (take-add n m xs) ∙ drop_at (take n xs) (take m (drop n xs)) n (length-take-le n xs h)

-- lists with a common front have the same elements there
pub get_or_front : {A : Type 0} (n : ℕ) (xs ys : List A) (d : A) (i : ℕ) → take n xs ≡ take n ys → i < n → get_or xs i d ≡ get_or ys i d
get_or_front {A} n xs ys d i e h = sym (get_or-take n xs i d h) ∙ ap (λ (l : List A). get_or l i d) e ∙ get_or-take n ys i d h

-- ---- the last elements

pub length-last_of : {A : Type 0} (n : ℕ) (xs : List A) → n ≤ length xs → length (last_of n xs) ≡ n
length-last_of n xs h = length-drop (length xs - n) xs ∙ (omega arith)

pub last_of_all : {A : Type 0} (n : ℕ) (xs : List A) → length xs ≤ n → last_of n xs ≡ xs
last_of_all n xs h = let e : length xs - n ≡ 0 = omega arith in rw e refl

pub last_of-zero : {A : Type 0} (xs : List A) → last_of 0 xs ≡ []
last_of-zero xs = drop_of_length-le xs {i = length xs - 0} (omega arith)

-- a suffix of a suffix
pub last_of-last_of : {A : Type 0} (m n : ℕ) (xs : List A) → m ≤ n → last_of m (last_of n xs) ≡ last_of m xs
last_of-last_of m n xs h =
    let e : length xs - n + (length xs - (length xs - n) - m) ≡ length xs - m = go (length xs) m n h in
    rw (length-drop, drop-drop, e) refl
  where
    go : (l m n : ℕ) → m ≤ n → l - n + (l - (l - n) - m) ≡ l - m
    go l m n h = omega arith

pub length_snoc : {A : Type 0} (xs : List A) (x : A) → length (xs ++ (x ∷ [])) ≡ suc (length xs)
length_snoc xs x = length-append xs (x ∷ []) ∙ (omega arith)

pub last_of_snoc : {A : Type 0} (m : ℕ) (xs : List A) (x : A) → m ≤ length xs → last_of (suc m) (xs ++ (x ∷ [])) ≡ last_of m xs ++ (x ∷ [])
last_of_snoc m xs x h =
    let e : length (xs ++ (x ∷ [])) - suc m ≡ length xs - m = rw length-append (omega arith) in
    ap (λ (k : ℕ). drop k (xs ++ (x ∷ []))) e ∙ drop-append-le (length xs - m) xs (x ∷ []) (omega arith)

-- ---- parts of a mapped list

pub map-append : {A B : Type 0} (f : A → B) (xs ys : List A) → map f (xs ++ ys) ≡ map f xs ++ map f ys
map-append f [] ys = refl
map-append {A} {B} f (x ∷ xs) ys = ap (λ (l : List B). f x ∷ l) (map-append f xs ys)

pub drop_one_map : {A B : Type 0} (f : A → B) (xs : List A) → drop 1 (map f xs) ≡ map f (drop 1 xs)
drop_one_map f [] = refl
drop_one_map f (x ∷ xs) = refl

-- ---- stores

pub drop-set : (out : List ℕ) (i x : ℕ) → i < length out → drop i (set out i x) ≡ x ∷ drop (suc i) out
drop-set out i x h = ap (drop i) (set_split out i x h) ∙ drop_at (take i out) (x ∷ drop (suc i) out) i (length-take-le i out (omega arith))

-- an element x is stored behind f, which fills the array d up to place n
pub store_behind : {A : Type 0} (a : A) (f d : List A) (n : ℕ) (x : A) → length f ≡ n → n < length d
    → set (f ++ drop n d) n x ≡ f ++ (x ∷ []) ++ drop (n + 1) d
store_behind {A} a f d n x e h =
    ap (λ (l : List A). set (f ++ l) n x) (drop-cons d n a h)
    ∙ set_at f (get_or d n a) (drop (suc n) d) x n e
    ∙ sym (append_snoc f x (drop (suc n) d))
    ∙ ap (λ (k : ℕ). f ++ (x ∷ []) ++ drop k d) (sym (add-one n))

-- a list x is put behind f, which fills the array d up to place a: w
pub write_behind : {A : Type 0} (f x d w : List A) (a b : ℕ) → a ≡ length f → b ≡ a + length x → w ≡ f ++ drop (length f) d
    → take a w ++ x ++ drop b w ≡ f ++ x ++ drop b d
write_behind {A} f x d w a b p q e =
    let k : b ≡ length f + length x = omega arith in
    let front : take a w ≡ f = ap₂ take p e ∙ take-append_seam f (drop (length f) d) in
    let rest : drop b w ≡ drop b d =
    ap₂ drop k e ∙ drop-append-add f (drop (length f) d) (length x) ∙ drop-drop (length x) (length f) d ∙ ap (λ (n : ℕ). drop n d) (sym k) in
    ap₂ (λ (l r : List A). l ++ x ++ r) front rest

-- an element stored behind f, where its place is told by the length of f
pub put_behind : (f d : List ℕ) (n x : ℕ) → n ≡ length f → n < length d → set (f ++ drop (length f) d) n x ≡ (f ++ (x ∷ [])) ++ drop (length (f ++ (x ∷ []))) d
put_behind f d n x e h =
    ap (λ (k : ℕ). set (f ++ drop k d) n x) (sym e)
    ∙ store_behind 0 f d n x (sym e) h
    ∙ ap (λ (k : ℕ). (f ++ (x ∷ [])) ++ drop k d) (let l : n + 1 ≡ length (f ++ (x ∷ [])) = omega (arith, e, length_snoc f x) in l)

-- ---- an array d that is written from its front to its end, to become v

-- one more store
pub fill_more : {A : Type 0} (a : A) (v d : List A) (i : ℕ) (x : A) → i < length v → i < length d → x ≡ get_or v i a
    → set (take i v ++ drop i d) i x ≡ take (i + 1) v ++ drop (i + 1) d
fill_more {A} a v d i x h k e =
    store_behind a (take i v) d i x (length-take-le i v (omega arith)) k
    ∙ ap (λ (l : List A). l ++ drop (i + 1) d) (ap (λ (y : A). take i v ++ (y ∷ [])) e ∙ sym (take-suc v i a h) ∙ ap (λ (n : ℕ). take n v) (sym (add-one i)))

-- ---- an array o that is written from its end to its front, to become f

-- nothing is written yet
pub put_none : {A : Type 0} (o v : List A) (n : ℕ) → length v ≡ n → o ≡ take n o ++ drop n (v ++ drop n o)
put_none o v n e = rw (drop_at v (drop n o) n e) (sym (take-append-drop n o))

module _ {A : Type 0} (d : A) where
  -- one more store
  pub put_more : (o f : List A) (i : ℕ) (x : A) → 0 < i → i ≤ length o → i ≤ length f → x ≡ get_or f (i - 1) d
      → set (take i o ++ drop i f) (i - 1) x ≡ take (i - 1) o ++ drop (i - 1) f
  put_more o f zero x h k m e = absurd (let z : ⊥ = omega arith in z)
  put_more o f (suc i) x h k m e =
      let a = get_or o i d in
      let rest = drop (suc i) f in
      let store = set_at (take i o) a rest x i (length-take-le i o (omega arith)) in
      rw (sub-one, take-suc o i d (omega arith), append_snoc (take i o) a rest, store, rw sub-one at e)
      (ap (λ (l : List A). take i o ++ l) (sym (drop-cons f i d (omega arith))))

  -- a place that is written
  pub put_at : (o f : List A) (i j : ℕ) → i ≤ length o → i ≤ j → get_or (take i o ++ drop i f) j d ≡ get_or f j d
  put_at o f i j h k =
      let e : j ≡ length (take i o) + (j - i) = omega (arith, length-take-le i o h) in
      let q : i + (j - i) ≡ j = omega arith in
      ap (λ (n : ℕ). get_or (take i o ++ drop i f) n d) e
      ∙ get_or-append-add (take i o) (drop i f) (j - i) d
      ∙ get_or-drop i f (j - i) d
      ∙ ap (λ (n : ℕ). get_or f n d) q

-- ---- a part that was written to

-- the part from place a on, of k elements, now begins with v, and the array began with f, of a
-- elements
pub paste : (f v d w y : List ℕ) (a b k : ℕ) → length f ≡ a → length v ≡ b → w ≡ f ++ drop a d → k ≡ length w - a → y ≡ v ++ drop b (take k (drop a w))
    → take a w ++ (y ++ drop k (drop a w)) ≡ (f ++ v) ++ drop (a + b) d
paste f v d w y a b k lf lv e h q =
    let len : length (drop a w) ≤ k = simp length-drop (omega arith) in
    let h_a : take a w ≡ f = ap (take a) e ∙ take_at f (drop a d) a lf in
    let h_b : drop a w ≡ drop a d = ap (drop a) e ∙ drop_at f (drop a d) a lf in
    let h_c : drop k (drop a w) ≡ [] = drop_of_length-le (drop a w) {i = k} len in
    let h_t : take k (drop a w) ≡ drop a w = take_all k (drop a w) len in
    let h_y : y ≡ v ++ drop (a + b) d = q ∙ ap (λ (l : List ℕ). v ++ drop b l) (h_t ∙ h_b) ∙ ap (λ (l : List ℕ). v ++ l) (drop-drop b a d) in
    ap₂ (λ (l r : List ℕ). l ++ r) h_a (ap₂ (λ (l r : List ℕ). l ++ r) h_y h_c ∙ append-nil (v ++ drop (a + b) d)) ∙ sym (append_assoc f v (drop (a + b) d))
