-- The members of a set whose digits are shifted up, and of one cut off at n digits.
use Rattle.std.specs.Prelude.{◌≡◌, ◌&&◌, ◌-◌, ◌*◌, ◌/◌, ◌%◌, ◌^◌, ◌<◌}
use lib.Bits.{and_mask}
use lib.Dec.{leb-suc-suc}
use Rattle.lists.proofs.Prelude.{◌∙◌, ap, sym, refl, Bool, true, false, ℕ, zero, suc, eqb, leb, arith, pow-suc}
use Rattle.lists.proofs.Prelude.{pow_pos, mul_assoc, le-leb, lt-leb}
use Rattle.lists.proofs.Tests.{and-true}
use Rattle.bit_sets.specs.BitSets.{bit_at}
use Rattle.bit_sets.proofs.Digits.{bit_at-zero, bit_at-suc, bit_at_and}

-- ---- doubling

pub bit_at_double_zero : (m : ℕ) → bit_at (m * 2) 0 ≡ false
bit_at_double_zero m = bit_at-zero (m * 2) ∙ ap (λ (x : ℕ). eqb x 1) (let e : m * 2 % 2 ≡ 0 = omega arith in e)

pub bit_at_double : (m j : ℕ) → bit_at (m * 2) (suc j) ≡ bit_at m j
bit_at_double m j = bit_at-suc (m * 2) j ∙ ap (λ (x : ℕ). bit_at x j) (let e : m * 2 / 2 ≡ m = omega arith in e)

-- ---- shifted up by k: each member is k more

shl_suc : (m k : ℕ) → m * 2 ^ suc k ≡ m * 2 ^ k * 2
shl_suc m k = ap (λ (x : ℕ). m * x) (pow-suc 2 k) ∙ sym (mul_assoc m (2 ^ k) 2)

pub bit_at_shl : (m k j : ℕ) → bit_at (m * 2 ^ k) j ≡ (leb k j && bit_at m (j - k))
bit_at_shl m zero j =
    let e : m * 2 ^ 0 ≡ m = omega arith in
    let z : j - 0 ≡ j = omega arith in
    rw (e, z, le-leb 0 j (omega arith)) refl
bit_at_shl m (suc k) zero = rw (shl_suc m k, lt-leb (suc k) 0 (omega arith)) (bit_at_double_zero (m * 2 ^ k))
bit_at_shl m (suc k) (suc j) =
    let e : suc j - suc k ≡ j - k = omega arith in
    rw (shl_suc m k, e, leb-suc-suc k j) (bit_at_double (m * 2 ^ k) j ∙ bit_at_shl m k j)

-- ---- the lowest n digits

pub bit_at_ones : (n j : ℕ) → j < n → bit_at (2 ^ n - 1) j ≡ true
bit_at_ones zero j h = absurd (let z : ⊥ = omega arith in z)
bit_at_ones (suc n) zero h =
    let e : (2 ^ suc n - 1) % 2 ≡ 1 = omega (arith, pow-suc 2 n, pow_pos n) in
    bit_at-zero (2 ^ suc n - 1) ∙ ap (λ (x : ℕ). eqb x 1) e
bit_at_ones (suc n) (suc j) h =
    let e : (2 ^ suc n - 1) / 2 ≡ 2 ^ n - 1 = omega (arith, pow-suc 2 n, pow_pos n) in
    bit_at-suc (2 ^ suc n - 1) j ∙ ap (λ (x : ℕ). bit_at x j) e ∙ bit_at_ones n j (omega arith)

pub bit_at_low : (m n j : ℕ) → j < n → bit_at (m % 2 ^ n) j ≡ bit_at m j
bit_at_low m n j h =
    ap (λ (x : ℕ). bit_at x j) (sym (and_mask m n)) ∙ bit_at_and m (2 ^ n - 1) j ∙ ap (λ (b : Bool). bit_at m j && b) (bit_at_ones n j h)
    ∙ and-true (bit_at m j)
