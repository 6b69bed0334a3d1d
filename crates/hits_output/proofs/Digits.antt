-- Laws of decimal digits: how many a number has, and how they are written from the last one on.
use Rattle.std.specs.Prelude.{◌≡◌, ◌∷◌, ◌++◌, ◌+◌, ◌-◌, ◌*◌, ◌/◌, ◌%◌, ◌^◌, ◌≤◌, ◌<◌}
use Rattle.lists.proofs.Parts.{drop-set, length_snoc}
use Rattle.lists.proofs.Prelude.{◌∙◌, ap, sym, refl, Bool, true, false, List, [], ℕ, zero, suc, ltb, length}
use Rattle.lists.proofs.Prelude.{drop, set, append_snoc, pow-suc, one-le-pow, sub-one, arith, lt-ltb, le-ltb, ltb-false, ltb-true}
use Rattle.hits_output.specs.Output.{digits_within, digits}

-- the last k digits of v, zeros before them where v has fewer
unfoldable pub last_digits : ℕ → ℕ → List ℕ
last_digits zero v = []
last_digits (suc k) v = last_digits k (v / 10) ++ ((48 + v % 10) ∷ [])

-- a number below 10 has one digit
pub digits_short : (n v : ℕ) → v < 10 → digits_within n v ≡ (48 + v) ∷ []
unfolding digits_within
digits_short zero v h = ap (λ (d : ℕ). (48 + d) ∷ []) (let e : v % 10 ≡ v = omega arith in e)
digits_short (suc n) v h = rw (lt-ltb v 10 h) refl

-- the last digit of another stands behind those of its tenth
pub digits_long : (n v : ℕ) → 10 ≤ v → digits_within (suc n) v ≡ digits_within n (v / 10) ++ ((48 + v % 10) ∷ [])
unfolding digits_within
digits_long n v h = rw (le-ltb v 10 h) refl

last_one : (v : ℕ) → v < 10 → (48 + v) ∷ [] ≡ last_digits 1 v
unfolding last_digits
last_one v h = ap (λ (d : ℕ). (48 + d) ∷ []) (let e : v ≡ v % 10 = omega arith in e)

last_more : (k v : ℕ) → last_digits k (v / 10) ++ ((48 + v % 10) ∷ []) ≡ last_digits (suc k) v
unfolding last_digits
last_more k v = refl

-- the digits are the last ones, as many as there are
pub digits_last : (n v : ℕ) → digits_within n v ≡ last_digits (length (digits_within n v)) v
unfolding digits_within last_digits
digits_last zero v = refl
digits_last (suc n) v = go (ltb v 10) refl (digits_last n (v / 10))
  where
    go : (b : Bool) → ltb v 10 ≡ b → digits_within n (v / 10) ≡ last_digits (length (digits_within n (v / 10))) (v / 10)
        → digits_within (suc n) v ≡ last_digits (length (digits_within (suc n) v)) v
    go true e ih =
        let s = digits_short (suc n) v (ltb-true v 10 e) in
        s ∙ last_one v (ltb-true v 10 e) ∙ sym (ap (λ (l : List ℕ). last_digits (length l) v) s)
    go false e ih =
        let s = digits_long n v (ltb-false v 10 e) in
        let k = length (digits_within n (v / 10)) in
        let l : length (digits_within (suc n) v) ≡ suc k = ap length s ∙ length_snoc (digits_within n (v / 10)) (48 + v % 10) in
        s ∙ ap (λ (l : List ℕ). l ++ ((48 + v % 10) ∷ [])) ih ∙ last_more k v ∙ sym (ap (λ (j : ℕ). last_digits j v) l)

-- ---- how many digits

pub digits_zero : length (digits 0) ≡ 1
digits_zero = ap length (digits_short 19 0 (omega arith))

-- as many as the power of ten that is next above
length-digits_within : (n v k : ℕ) → k ≤ n → 10 ^ k ≤ v → v < 10 * 10 ^ k → length (digits_within n v) ≡ suc k
length-digits_within n v zero h l u = ap length (digits_short n v (let p : 10 ^ 0 ≡ 1 = refl in omega (arith, u, p)))
length-digits_within zero v (suc k) h l u = absurd (omega arith)
length-digits_within (suc n) v (suc k) h l u =
    let p = pow-suc 10 k in
    let q : 1 ≤ 10 ^ k = one-le-pow k 10 (omega arith) in
    ap length (digits_long n v (omega (arith, p)))
    ∙ length_snoc (digits_within n (v / 10)) (48 + v % 10)
    ∙ ap suc (length-digits_within n (v / 10) k (omega arith) (omega (arith, p)) (omega (arith, p)))

pub digits_length : (v k : ℕ) → k < 20 → 10 ^ k ≤ v → v < 10 * 10 ^ k → length (digits v) ≡ k + 1
digits_length v k h l u = length-digits_within 19 v k (omega arith) l u ∙ (omega arith)

-- ---- written from the last one on

pub spell_start : (v n : ℕ) (d : List ℕ) → n ≡ length (digits v) → last_digits n v ++ drop n d ≡ digits v ++ drop (length (digits v)) d
spell_start v n d e =
    ap (λ (k : ℕ). last_digits k v ++ drop k d) e
    ∙ ap (λ (l : List ℕ). l ++ drop (length (digits v)) d) (sym (digits_last 19 v))

-- one digit more is stored, before those that are
pub spell_more : (rest i : ℕ) (out t : List ℕ) → 0 < i → i ≤ length out → last_digits i rest ++ drop i out ≡ t
    → last_digits (i - 1) (rest / 10) ++ drop (i - 1) (set out (i - 1) (48 + rest % 10)) ≡ t
unfolding last_digits
spell_more rest zero out t p h e = absurd (let x : ⊥ = omega arith in x)
spell_more rest (suc i) out t p h e =
    rw sub-one
    (ap (λ (l : List ℕ). last_digits i (rest / 10) ++ l) (drop-set out i (48 + rest % 10) (omega arith))
    ∙ sym (append_snoc (last_digits i (rest / 10)) (48 + rest % 10) (drop (suc i) out))
    ∙ e)

pub spell_end : (rest i : ℕ) (out t : List ℕ) → i ≤ 0 → last_digits i rest ++ drop i out ≡ t → out ≡ t
unfolding last_digits
spell_end rest zero out t h e = e
spell_end rest (suc i) out t h e = absurd (let x : ⊥ = omega arith in x)
