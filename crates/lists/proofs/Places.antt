-- The places of a list l ++ (x ∷ r).
use Rattle.std.specs.Prelude.{◌≡◌, ◌∷◌, ◌++◌, ◌+◌, ◌-◌, ◌<◌}
use Rattle.lists.proofs.Prelude.{◌∙◌, subst, List, ℕ, suc, length, get_or, take, drop, length-drop, get_or-append}
use Rattle.lists.proofs.Prelude.{length-take-le, get_or-append-add, split_at, dec_lt, arith}

-- a place is among the first n, or is place n, or is one of the m places after that
pub data Place (n m : ℕ) : ℕ → Type 0 where
  before : {k : ℕ} → k < n → Place n m k
  here : Place n m n
  after : (k : ℕ) → k < m → Place n m (n + suc k)

pub place : (n m k : ℕ) → k < n + suc m → Place n m k
place n m k h = go (dec_lt k n) (dec_lt n k)
  where
    go : Dec (k < n) → Dec (n < k) → Place n m k
    go (yes l) d = before l
    go (no f) (yes l) =
        let e : n + suc (k - suc n) ≡ k = omega arith in
        subst (λ (i : ℕ). Place n m i) e (after (k - suc n) (omega arith))
    go (no f) (no g) = let e : n ≡ k = omega arith in subst (λ (i : ℕ). Place n m i) e here

pub get_or_before : {A : Type 0} (l : List A) (x : A) (r : List A) (d : A) (n k : ℕ) → length l ≡ n → k < n → get_or (l ++ (x ∷ r)) k d ≡ get_or l k d
get_or_before l x r d n k e h = get_or-append l (x ∷ r) d k (omega arith)

pub get_or_after : {A : Type 0} (l : List A) (x : A) (r : List A) (d : A) (n k : ℕ) → length l ≡ n → get_or (l ++ (x ∷ r)) (n + suc k) d ≡ get_or r k d
get_or_after l x r d n k e = rw (← e) (get_or-append-add l (x ∷ r) (suc k) d)

-- a list of n + 1 + m elements is n elements, one, and m elements
pub split_length : {A : Type 0} (d : A) (us : List A) (n m : ℕ) → length us ≡ n + suc m
    → (l : List A) × (x : A) × (r : List A) × (length l ≡ n) × (length r ≡ m) × (us ≡ l ++ (x ∷ r))
split_length d us n m e =
    (take n us, get_or us n d, drop (suc n) us, length-take-le n us (omega arith), length-drop (suc n) us ∙ (omega arith), split_at us n d (omega arith))
