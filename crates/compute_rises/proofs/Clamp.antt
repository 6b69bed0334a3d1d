-- The clamped difference of two values of 32 bits: the difference fits 64 bits, and which of its
-- three ways `clamp` goes.
use Rattle.std.specs.Prelude.{◌≡◌, ◌-◌, ◌^◌, ◌<◌, ◌-ℤ◌}
use mir.Syntax.{w64}
use mir.Facts.{sfits_widen}
use lib.IntN.{sub_ℕ}
use Rattle.lists.proofs.Prelude.{refl, Bool, true, false, cond, ℕ, zero, suc, ltb, ltb-false, ℤ, pos, negsuc, lt_z, mag, w32, SFits}
use Rattle.lists.proofs.Prelude.{to_z, of_z, to_z-of_z, arith}
use Rattle.matching.specs.Rise.{clamp}

-- ---- the difference

mag_sub : (n a b : ℕ) → a < n → b < n → mag (sub_ℕ a b) < n
mag_sub n a b ha hb = go (ltb a b)
  where
    go : (t : Bool) → mag (cond t (negsuc (b - suc a)) (pos (a - b))) < n
    go true = omega arith
    go false = omega arith

-- the difference of two values of 32 bits fits 64 bits
pub sub_fits : (a b : ℤ) → SFits w32 a → SFits w32 b → SFits w64 (a -ℤ b)
sub_fits (pos a) (pos zero) ha hb = record { sfits = omega (arith, ha.sfits) }
sub_fits (pos a) (pos (suc b)) ha hb = record { sfits = mag_sub (2 ^ 63) a (suc b) (omega (arith, ha.sfits)) (omega (arith, hb.sfits)) }
sub_fits (pos a) (negsuc b) ha hb = record { sfits = omega (arith, ha.sfits, hb.sfits) }
sub_fits (negsuc a) (pos zero) ha hb = record { sfits = mag_sub (2 ^ 63) 0 (suc a) (omega arith) (omega (arith, ha.sfits)) }
sub_fits (negsuc a) (pos (suc b)) ha hb = record { sfits = omega (arith, ha.sfits, hb.sfits) }
sub_fits (negsuc a) (negsuc b) ha hb = record { sfits = mag_sub (2 ^ 63) (suc b) (suc a) (omega (arith, hb.sfits)) (omega (arith, ha.sfits)) }

-- ---- a value of 32 bits, widened to 64

pub wide_fits : {z : ℤ} → SFits w32 z → SFits w64 z
wide_fits h = sfits_widen {w = w32} tt h

pub back_i64 : {z : ℤ} → SFits w64 z → to_z w64 (of_z w64 z) ≡ z
back_i64 {z} h = to_z-of_z w64 z h

-- what the machine reads of a widened value is the value
pub back_wide : {z : ℤ} → SFits w32 z → to_z w64 (of_z w64 (to_z w32 (of_z w32 z))) ≡ z
back_wide {z} h = rw (to_z-of_z w32 z h) (back_i64 (wide_fits h))

-- so that the difference of two that are widened fits
pub wide_sub_fits : {a b x y : ℤ} → SFits w32 a → SFits w32 b → x ≡ to_z w32 (of_z w32 a) → y ≡ to_z w32 (of_z w32 b)
    → SFits w64 (to_z w64 (of_z w64 x) -ℤ to_z w64 (of_z w64 y))
wide_sub_fits {a} {b} h k p q = rw (p, q, back_wide h, back_wide k) (sub_fits a b h k)

-- ---- clamped

-- a number between the ends fits
pub between_fits : (z : ℤ) → lt_z (pos 2147483647) z ≡ false → lt_z z (negsuc 2147483647) ≡ false → SFits w32 z
between_fits (pos a) h k = record { sfits = omega (arith, ltb-false 2147483647 a h) }
between_fits (negsuc a) h k = record { sfits = omega (arith, ltb-false 2147483647 a k) }

pub clamp_high : (z : ℤ) → lt_z (pos 2147483647) z ≡ true → pos 2147483647 ≡ clamp z
unfolding clamp
clamp_high z h = rw h refl

pub clamp_low : (z : ℤ) → lt_z (pos 2147483647) z ≡ false → lt_z z (negsuc 2147483647) ≡ true → negsuc 2147483647 ≡ clamp z
unfolding clamp
clamp_low z h k = rw (h, k) refl

pub clamp_mid : (z : ℤ) → lt_z (pos 2147483647) z ≡ false → lt_z z (negsuc 2147483647) ≡ false → z ≡ clamp z
unfolding clamp
clamp_mid z h k = rw (h, k) refl
