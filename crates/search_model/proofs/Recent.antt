-- The last 256 values that a search has taken: what is kept once values are taken, their parts one
-- after the other, and that 256 values leave nothing of what was kept before.
use Rattle.std.specs.Prelude.{◌≡◌, ◌∷◌, ◌++◌, ◌+◌, ◌-◌, ◌%◌, ◌≤◌, ◌<◌}
use Rattle.lists.proofs.Prelude.{◌∙◌, ap, sym, refl, List, [], ℕ, zero, suc, ℤ, pos, length, get_or, set, take, drop}
use Rattle.lists.proofs.Prelude.{length-set, length-drop, length-take-le, take-append-drop, get_or-set_same, get_or-set_other, ext_get_or, get_or-eq_default}
use Rattle.lists.proofs.Prelude.{dec_lt, arith}
use Rattle.search_model.specs.Recent.{keeping}

pub keeping-length : (p : ℕ) (recent xs : List ℤ) → length (keeping p recent xs) ≡ length recent
unfolding keeping
keeping-length p recent [] = refl
keeping-length p recent (x ∷ xs) = keeping-length (suc p) (set recent (p % 256) x) xs ∙ length-set recent (p % 256) x

-- values, and then others
pub keeping-append : (p : ℕ) (recent xs ys : List ℤ) → keeping p recent (xs ++ ys) ≡ keeping (p + length xs) (keeping p recent xs) ys
unfolding keeping
keeping-append p recent [] ys = ap (λ (k : ℕ). keeping k recent ys) (omega arith)
keeping-append p recent (x ∷ xs) ys =
    keeping-append (suc p) (set recent (p % 256) x) xs ys
    ∙ ap (λ (k : ℕ). keeping k (keeping (suc p) (set recent (p % 256) x) xs) ys) (omega arith)

-- a slot of none of the values holds what it held
keeping_other : (p : ℕ) (recent xs : List ℤ) (s : ℕ) → ((i : ℕ) → i < length xs → s ≡ (p + i) % 256 → ⊥)
    → get_or (keeping p recent xs) s (pos 0) ≡ get_or recent s (pos 0)
unfolding keeping
keeping_other p recent [] s f = refl
keeping_other p recent (x ∷ xs) s f =
    keeping_other (suc p) (set recent (p % 256) x) xs s (λ i h e. f (suc i) (omega arith) (omega arith))
    ∙ get_or-set_other recent (p % 256) s x (pos 0) (λ e. f 0 (omega arith) (omega arith))

-- the slot of a value that at most 255 follow holds it, if there is such a slot
keeping_slot : (p : ℕ) (recent xs : List ℤ) (i : ℕ) → (p + i) % 256 < length recent → i < length xs → length xs ≤ i + 256
    → get_or (keeping p recent xs) ((p + i) % 256) (pos 0) ≡ get_or xs i (pos 0)
unfolding keeping
keeping_slot p recent [] i r h k = absurd (let z : ⊥ = omega arith in z)
keeping_slot p recent (x ∷ xs) zero r h k =
    let e : (p + 0) % 256 ≡ p % 256 = omega arith in
    ap (λ (s : ℕ). get_or (keeping (suc p) (set recent (p % 256) x) xs) s (pos 0)) e
    ∙ keeping_other (suc p) (set recent (p % 256) x) xs (p % 256) (λ i l q. omega arith)
    ∙ get_or-set_same recent (p % 256) x (pos 0) (omega arith)
keeping_slot p recent (x ∷ xs) (suc i) r h k =
    let e : (p + suc i) % 256 ≡ (suc p + i) % 256 = omega arith in
    ap (λ (s : ℕ). get_or (keeping (suc p) (set recent (p % 256) x) xs) s (pos 0)) e
    ∙ keeping_slot (suc p) (set recent (p % 256) x) xs i (omega (arith, length-set recent (p % 256) x)) (omega arith) (omega arith)

pub keeping_at : (p : ℕ) (recent xs : List ℤ) (i : ℕ) → length recent ≡ 256 → i < length xs → length xs ≤ i + 256
    → get_or (keeping p recent xs) ((p + i) % 256) (pos 0) ≡ get_or xs i (pos 0)
keeping_at p recent xs i r h k = keeping_slot p recent xs i (omega arith) h k

-- ---- 256 values overwrite all that was kept

-- what lies in slots from 256 on, if there are any, stays
keeping_same : (p : ℕ) (a b xs : List ℤ) → length a ≡ length b → ((s : ℕ) → 256 ≤ s → get_or a s (pos 0) ≡ get_or b s (pos 0)) → 256 ≤ length xs
    → keeping p a xs ≡ keeping p b xs
keeping_same p a b xs e f h =
    ext_get_or (pos 0) (keeping p a xs) (keeping p b xs) (keeping-length p a xs ∙ e ∙ sym (keeping-length p b xs))
    (λ s l. each s (omega (arith, keeping-length p a xs)) (dec_lt s 256))
  where
    -- the value of slot s is the one of the last 256 whose slot it is
    inside : (c : List ℤ) (s i : ℕ) → s < length c → (p + i) % 256 ≡ s → i < length xs → length xs ≤ i + 256
        → get_or (keeping p c xs) s (pos 0) ≡ get_or xs i (pos 0)
    inside c s i l q m k =
        ap (λ (j : ℕ). get_or (keeping p c xs) j (pos 0)) (sym q) ∙ keeping_slot p c xs i (omega arith) m k

    each : (s : ℕ) → s < length a → Dec (s < 256) → get_or (keeping p a xs) s (pos 0) ≡ get_or (keeping p b xs) s (pos 0)
    each s l (yes k) =
        let i = (length xs - 256) + (s + 256 - (p + (length xs - 256)) % 256) % 256 in
        let q : (p + i) % 256 ≡ s = omega arith in
        inside a s i l q (omega arith) (omega arith) ∙ sym (inside b s i (omega arith) q (omega arith) (omega arith))
    each s l (no k) =
        keeping_other p a xs s (λ i m q. omega arith) ∙ f s (omega arith) ∙ sym (keeping_other p b xs s (λ i m q. omega arith))

pub keeping_over : (p : ℕ) (a b xs : List ℤ) → length a ≡ 256 → length b ≡ 256 → 256 ≤ length xs → keeping p a xs ≡ keeping p b xs
keeping_over p a b xs ha hb h = keeping_same p a b xs (ha ∙ sym hb) none h
  where
    none : (s : ℕ) → 256 ≤ s → get_or a s (pos 0) ≡ get_or b s (pos 0)
    none s l = get_or-eq_default a (pos 0) {n = s} (omega arith) ∙ sym (get_or-eq_default b (pos 0) {n = s} (omega arith))

-- the first s values need not be put where 256 follow them, whatever the number of slots
pub keeping_last : (p : ℕ) (recent xs : List ℤ) (s : ℕ) → s + 256 ≤ length xs → keeping p recent xs ≡ keeping (p + s) recent (drop s xs)
keeping_last p recent xs s h =
    let front = take s xs in
    let n : length front ≡ s = length-take-le s xs (omega arith) in
    ap (keeping p recent) (sym (take-append-drop s xs))
    ∙ keeping-append p recent front (drop s xs)
    ∙ ap (λ (k : ℕ). keeping (p + k) (keeping p recent front) (drop s xs)) n
    ∙ keeping_same (p + s) (keeping p recent front) recent (drop s xs) (keeping-length p recent front)
    (λ k l. keeping_other p recent front k (λ i m q. omega arith)) (omega (arith, length-drop s xs))
