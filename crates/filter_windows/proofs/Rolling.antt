-- THE FINGERPRINTS OF A TEXT, PLACE BY PLACE: a place shifts its bit in and the mask takes the
-- oldest out, so that after 16 places the fingerprint of 17 values is the same whatever it was
-- before.
use Rattle.std.specs.Prelude.{◌≡◌, ◌∷◌, ◌++◌, ◌+◌, ◌-◌, ◌*◌, ◌/◌, ◌%◌, ◌^◌, ◌≤◌, ◌<◌}
use lib.Bits.{bit_and, bit_or, and_mask, and_le_r, or_shifted}
use lib.Pow.{high, ones_lt, ones_split, mod-mod-pow}
use Rattle.lists.proofs.Prelude.{◌∙◌, ap, sym, refl, Bool, true, false, cond, List, [], append_assoc, ℕ, zero, suc}
use Rattle.lists.proofs.Prelude.{ℤ, pos, le_z, length, get_or, take, length-take, take-suc, mod-lt, pow-suc, mod-eq_of_lt}
use Rattle.lists.proofs.Prelude.{mul-add-mod_self_right, add-mul, div-add-mod', min-le_left, zero-mod, one-le-pow, add_assoc, mul_assoc, pow-le-pow_right}
use Rattle.lists.proofs.Prelude.{add-one, sub-one, dec_lt, arith}
use Rattle.lists.proofs.Parts.{last_of_all}
use Rattle.fingerprint.specs.Fingerprint.{fingerprint}
use Rattle.filter_plan.specs.Plan.{text_fingerprint}
use Rattle.filter_plan.proofs.Fingerprints.{text_fingerprint-lt, text_fingerprint_one, text_fingerprint_roll, text_fingerprint_part}
use Rattle.filter_windows.specs.Looks.{new_bit}

-- ---- the new bit

pub new_bit_first : (text : List ℤ) (p : ℕ) → p ≡ 0 → 0 ≡ new_bit text p
unfolding new_bit
new_bit_first text p e = rw e refl

pub new_bit_next : (text : List ℤ) (p : ℕ) (t : Bool) → (p ≡ 0 → ⊥) → le_z (get_or text (p - 1) (pos 0)) (get_or text p (pos 0)) ≡ t → cond t 1 0
    ≡ new_bit text p
unfolding new_bit
new_bit_next text zero t n e = absurd (n refl)
new_bit_next text (suc p) t n e = ap (λ (b : Bool). cond b 1 0) (sym (rw sub-one at e))

new_bit-lt : (text : List ℤ) (p : ℕ) → new_bit text p < 2
unfolding new_bit
new_bit-lt text zero = omega arith
new_bit-lt text (suc p) = go (le_z (get_or text p (pos 0)) (get_or text (suc p) (pos 0)))
  where
    go : (b : Bool) → cond b 1 0 < 2
    go true = omega arith
    go false = omega arith

-- ---- the roll by shift and mask

-- 16 ones without the lowest k of them
mask_ones : (d k : ℕ) → d + k ≡ 16 → 65535 / 2 ^ k ≡ 2 ^ d - 1
mask_ones d k e =
    ap (λ (n : ℕ). (2 ^ n - 1) / 2 ^ k) (sym e) ∙ ap (λ (n : ℕ). n / 2 ^ k) (ones_split d k) ∙ high (2 ^ d - 1) k (ones_lt k)

pub rolled : (n bit m : ℕ) → n < 65536 → bit < 2 → 1 ≤ m → m ≤ 17
    → bit_and (bit_or (n * 2 % 4294967296) bit) (65535 / 2 ^ (17 - m)) ≡ (n * 2 + bit) % 2 ^ (m - 1)
rolled n bit m h b l k =
    let e : n * 2 % 4294967296 ≡ n * 2 = omega arith in
    rw (e, or_shifted n 1 bit b, mask_ones (m - 1) (17 - m) (omega arith)) (and_mask (n * 2 + bit) (m - 1))

-- bits of which the lowest 16 are the fingerprint of 17 values, and their lowest ones, by a mask
pub masked_lt : (bits b : ℕ) → 1 ≤ b → b ≤ 17 → bit_and bits (65535 / 2 ^ (17 - b)) < 65536
masked_lt bits b l k =
    let le : 2 ^ (b - 1) ≤ 2 ^ 16 = pow-le-pow_right (omega arith) {i = b - 1} {j = 16} (omega arith) in
    rw (mask_ones (b - 1) (17 - b) (omega arith)) (omega (arith, and_le_r bits (2 ^ (b - 1) - 1), le))

pub masked : (bits b : ℕ) (text : List ℤ) → 1 ≤ b → b ≤ 17 → bits % 65536 ≡ text_fingerprint 17 text
    → bit_and bits (65535 / 2 ^ (17 - b)) ≡ text_fingerprint b text
masked bits b text l k e =
    let s : 17 - b + (b - 1) ≡ 16 = omega arith in
    ap (bit_and bits) (mask_ones (b - 1) (17 - b) (omega arith))
    ∙ and_mask bits (b - 1)
    ∙ sym (mod-mod-pow bits (17 - b) (b - 1))
    ∙ ap (λ (n : ℕ). bits % 2 ^ n % 2 ^ (b - 1)) s
    ∙ ap (λ (n : ℕ). n % 2 ^ (b - 1)) e
    ∙ sym (text_fingerprint_part b 17 text l k)

-- the fingerprint one place on
fingerprint_next : (m : ℕ) (text : List ℤ) (p : ℕ) → 1 ≤ m → p < length text
    → text_fingerprint m (take (suc p) text) ≡ (text_fingerprint m (take p text) * 2 + new_bit text p) % 2 ^ (m - 1)
unfolding new_bit fingerprint
fingerprint_next m [] p h l = absurd (let z : ⊥ = omega arith in z)
fingerprint_next m (x ∷ text) zero h l =
    ap (text_fingerprint m) (take-suc (x ∷ text) 0 (pos 0) l)
    ∙ text_fingerprint_one m x
    ∙ sym (zero-mod (2 ^ (m - 1)))
    ∙ ap (λ (k : ℕ). (k * 2 + 0) % 2 ^ (m - 1)) (sym (ap fingerprint (last_of_all m [] (omega arith))))
fingerprint_next m (x ∷ text) (suc p) h l =
    let q : suc p < length (x ∷ text) = l in
    let y = get_or (x ∷ text) p (pos 0) in
    let z = get_or (x ∷ text) (suc p) (pos 0) in
    let e : take (suc p) (x ∷ text) ≡ take p (x ∷ text) ++ (y ∷ []) = take-suc (x ∷ text) p (pos 0) (omega arith) in
    let f : take (suc (suc p)) (x ∷ text) ≡ take p (x ∷ text) ++ (y ∷ z ∷ []) =
    take-suc (x ∷ text) (suc p) (pos 0) q ∙ ap (λ (v : List ℤ). v ++ (z ∷ [])) e ∙ append_assoc (take p (x ∷ text)) (y ∷ []) (z ∷ []) in
    ap (text_fingerprint m) f
    ∙ text_fingerprint_roll m (take p (x ∷ text)) y z h
    ∙ ap (λ (v : List ℤ). (text_fingerprint m v * 2 + cond (le_z y z) 1 0) % 2 ^ (m - 1)) (sym e)

-- ---- the fingerprint from the last bits alone

shift_mod : (x bit m : ℕ) → bit < 2 → 1 ≤ m → (x * 2 + bit) % (m * 2) ≡ x % m * 2 + bit
shift_mod x bit m b h =
    let d = div-add-mod' x m in
    let e : x * 2 + bit ≡ x / m * (m * 2) + (x % m * 2 + bit) =
    ap (λ (z : ℕ). z * 2 + bit) (sym d) ∙ rw (add-mul, mul_assoc (x / m) m 2) (add_assoc (x / m * (m * 2)) (x % m * 2) bit) in
    ap (λ (z : ℕ). z % (m * 2)) e ∙ mul-add-mod_self_right (x / m) (m * 2) (x % m * 2 + bit) ∙ mod-eq_of_lt (omega (arith, mod-lt x h))

-- the lowest 16 bits when one more is shifted in
pub shifted : (bits bit : ℕ) → bit < 2 → bit_or (bits * 2 % 4294967296) bit % 65536 ≡ (bits % 65536 * 2 + bit) % 65536
shifted bits bit h =
    let e : bits * 2 % 4294967296 ≡ bits % 2147483648 * 2 = omega arith in
    rw (e, or_shifted (bits % 2147483648) 1 bit h)
    (shift_mod (bits % 2147483648) bit 32768 h (omega arith)
    ∙ ap (λ (n : ℕ). n * 2 + bit) (mod-mod-pow bits 16 15 ∙ sym (mod-mod-pow bits 1 15))
    ∙ sym (shift_mod (bits % 65536) bit 32768 h (omega arith)))

-- nothing is known of the bits before place a
pub fingerprint_start : (text : List ℤ) (a : ℕ) → 0 ≡ text_fingerprint (suc (a - a)) (take a text)
fingerprint_start text a =
    let e : a - a ≡ 0 = omega arith in
    rw e (omega (arith, text_fingerprint-lt 1 (take a text) (omega arith)))

-- a place more that is known
pub fingerprint_more : (text : List ℤ) (a p : ℕ) → a ≤ p → p < length text → p - a < 16
    → (text_fingerprint (suc (p - a)) (take p text) * 2 + new_bit text p) % 2 ^ 16 ≡ text_fingerprint (suc (p + 1 - a)) (take (p + 1) text)
fingerprint_more text a p h l k =
    let j = p - a in
    let x = text_fingerprint (suc (suc j)) (take p text) in
    let one : p + 1 ≡ suc p = add-one p in
    let up : suc p - a ≡ suc j = omega arith in
    let b = new_bit-lt text p in
    let pj : 1 ≤ 2 ^ j = one-le-pow j 2 (omega arith) in
    let le : 2 ^ suc j ≤ 2 ^ 16 = pow-le-pow_right (omega arith) {i = suc j} {j = 16} (omega arith) in
    let lower = mod-lt x pj in
    let two = pow-suc 2 j in
    let s : suc j - 1 ≡ j = omega arith in
    let t : suc (suc j) - 1 ≡ suc j = omega arith in
    rw (one, up)
    (ap (λ (z : ℕ). (z * 2 + new_bit text p) % 2 ^ 16) (rw s at (text_fingerprint_part (suc j) (suc (suc j)) (take p text) (omega arith) (omega arith)))
    ∙ mod-eq_of_lt (omega (arith, lower, le, two, b))
    ∙ sym (shift_mod x (new_bit text p) (2 ^ j) b pj)
    ∙ ap (λ (z : ℕ). (x * 2 + new_bit text p) % z) (sym two)
    ∙ sym (rw t at (fingerprint_next (suc (suc j)) text p (omega arith) l)))

-- after 16 places, or from the first place on, the fingerprint is that of the last 17 values
pub fingerprint_end : (text : List ℤ) (p : ℕ) → text_fingerprint (suc (p - (p - 16))) (take p text) ≡ text_fingerprint 17 (take p text)
fingerprint_end text p = go (dec_lt p 16)
  where
    go : Dec (p < 16) → text_fingerprint (suc (p - (p - 16))) (take p text) ≡ text_fingerprint 17 (take p text)
    go (yes l) =
        let m : length (take p text) ≤ p = rw length-take (min-le_left p (length text)) in
        ap fingerprint (last_of_all (suc (p - (p - 16))) (take p text) (omega arith)) ∙ sym (ap fingerprint (last_of_all 17 (take p text) (omega arith)))
    go (no f) = let e : p - (p - 16) ≡ 16 = omega arith in rw e refl

-- the fingerprint of m values at the next place, in the words of the code
pub fingerprint_rolled : (m : ℕ) (text : List ℤ) (p before bit next : ℕ) → 1 ≤ m → p < length text
    → before ≡ text_fingerprint m (take p text) → bit ≡ new_bit text p → next ≡ (before * 2 + bit) % 2 ^ (m - 1)
    → next ≡ text_fingerprint m (take (suc p) text)
fingerprint_rolled m text p before bit next h l k b n = n ∙ rw (k, b) (sym (fingerprint_next m text p h l))

-- before the first place
pub fingerprint_none : (m : ℕ) (text : List ℤ) → 0 ≡ text_fingerprint m (take 0 text)
unfolding fingerprint
fingerprint_none m text = sym (ap fingerprint (last_of_all m [] (omega arith)))
