-- Remainders by powers of 2.
use Rattle.std.specs.Prelude.{◌≡◌, ◌+◌, ◌-◌, ◌*◌, ◌/◌, ◌%◌, ◌^◌, ◌≤◌, ◌<◌}
use Rattle.lists.proofs.Prelude.{◌∙◌, ap, sym, refl, ℕ, zero, suc, pow-suc, mul-add-mod_self_right, add-mul}
use Rattle.lists.proofs.Prelude.{div-add-mod', add_assoc, sub_self, one-mul, mul_right_comm, dvd-mul_left, mod-mod_of_dvd, dec_lt, arith}

pow_split : (i j : ℕ) → i ≤ j → 2 ^ j ≡ 2 ^ (j - i) * 2 ^ i
pow_split i zero h = let e : i ≡ 0 = omega arith in rw e refl
pow_split i (suc j) h = go (dec_lt i (suc j)) (pow_split i j)
  where
    go : Dec (i < suc j) → (i ≤ j → 2 ^ j ≡ 2 ^ (j - i) * 2 ^ i) → 2 ^ suc j ≡ 2 ^ (suc j - i) * 2 ^ i
    go (yes l) ih =
        let e : suc j - i ≡ suc (j - i) = omega arith in
        let q = ih (omega arith) in
        rw (e, pow-suc 2 j, pow-suc 2 (j - i), q) (mul_right_comm (2 ^ (j - i)) (2 ^ i) 2)
    go (no f) ih = let e : i ≡ suc j = omega arith in rw (e, sub_self (suc j)) (sym (one-mul (2 ^ suc j)))

-- the lowest i of the lowest j bits
pub mod-pow-pow : (i j n : ℕ) → i ≤ j → n % 2 ^ j % 2 ^ i ≡ n % 2 ^ i
mod-pow-pow i j n h = rw (pow_split i j h) (mod-mod_of_dvd (2 ^ i) n (dvd-mul_left (2 ^ i) (2 ^ (j - i))))

-- a factor may be reduced first
pub mod-mul-add : (n k c m : ℕ) → (n % m * k + c) % m ≡ (n * k + c) % m
mod-mul-add n k c m =
    let e : n * k + c ≡ n / m * k * m + (n % m * k + c) =
    ap (λ (z : ℕ). z * k + c) (sym (div-add-mod' n m))
    ∙ rw (add-mul, mul_right_comm (n / m) m k) (add_assoc (n / m * k * m) (n % m * k) c) in
    sym (ap (λ (z : ℕ). z % m) e ∙ mul-add-mod_self_right (n / m * k) m (n % m * k + c))
