-- Division and remainder as the factorial number system uses them: the digit above a low part, and
-- the remainder by a product.
use Rattle.std.specs.Prelude.{◌≡◌, ◌+◌, ◌*◌, ◌/◌, ◌%◌, ◌≤◌, ◌<◌}
use Rattle.lists.proofs.Prelude.{◌∙◌, ap, sym, ℕ, zero, suc, zero-add, mod-lt, mod-eq_of_lt, mul-add-mod_self_right}
use Rattle.lists.proofs.Prelude.{mul-le-mul_right, div-add-mod', mul-pos, add-mul-div_right, div-eq_of_lt, add-mul-mod_self_right, arith}
use Rattle.ranking.specs.Rank.{factorial}

pub factorial_pos : (n : ℕ) → 0 < factorial n
unfolding factorial
factorial_pos zero = omega arith
factorial_pos (suc n) = mul-pos (omega arith) (factorial_pos n)

-- a low part and a digit stay below the next weight
pub digit_lt : (f i a d : ℕ) → a < f → d ≤ i → a + d * f < suc i * f
digit_lt f i a d h k = omega (arith, mul-le-mul_right f k)

-- the digit is read off above a low part a < f and under a high part, a multiple of the next weight
pub digit_read : (f i a d q : ℕ) → a < f → d ≤ i → (a + (d * f + q * (suc i * f))) / f % suc i ≡ d
digit_read f i a d q h k =
    let e : a + (d * f + q * (suc i * f)) ≡ a + (d + q * suc i) * f = omega arith in
    let p : 0 < f = omega arith in
    rw (e, add-mul-div_right a (d + q * suc i) p, div-eq_of_lt h, zero-add, add-mul-mod_self_right d q (suc i)) (mod-eq_of_lt (omega arith))

-- the remainder by a product: a digit and the remainder by one factor
pub mod_product : (c f i : ℕ) → 0 < f → c % (suc i * f) ≡ c % f + c / f % suc i * f
mod_product c f i h =
    let q = c / f in
    let e : c ≡ q / suc i * (suc i * f) + (c % f + q % suc i * f) =
    sym (split (q / suc i) (q % suc i) q (c % f) (div-add-mod' q (suc i)) ∙ div-add-mod' c f) in
    let l : c % f + q % suc i * f < suc i * f = digit_lt f i (c % f) (q % suc i) (mod-lt c h) (omega (arith, mod-lt q {m = suc i} (omega arith))) in
    ap (λ (n : ℕ). n % (suc i * f)) e ∙ mul-add-mod_self_right (q / suc i) (suc i * f) (c % f + q % suc i * f) ∙ mod-eq_of_lt l
  where
    split : (a b q r : ℕ) → a * suc i + b ≡ q → a * (suc i * f) + (r + b * f) ≡ q * f + r
    split a b q r e = rw (← e) (omega arith)
