-- Tests: what is true, as a test and as a fact, and tests joined by `and` and `or`.
use Rattle.std.specs.Prelude.{◌<◌, ◌≡◌, ◌⊎◌, ◌&&◌, ◌||◌}
use Rattle.lists.proofs.Prelude.{ℕ, zero, suc, arith, sym, refl, subst, inl, inr, Bool, true, false, T, eqb, eqb→eq}
use Rattle.lists.proofs.Prelude.{eq-eqb, eqb-false}

-- a Bool that is true, as a fact, and back
pub T-true : (b : Bool) → b ≡ true → T b
T-true true e = tt
T-true false e = subst T (sym e) tt

pub true-T : (b : Bool) → T b → b ≡ true
true-T true t = refl
true-T false t = absurd t

-- two tests that follow from one another are equal
pub test_ext : (a b : Bool) → (T a → T b) → (T b → T a) → a ≡ b
test_ext true true f g = refl
test_ext true false f g = absurd (f tt)
test_ext false true f g = absurd (g tt)
test_ext false false f g = refl

-- a test has one value
pub clash : {A : Type 0} {b : Bool} → b ≡ true → b ≡ false → A
clash p q = absurd (let z : ◌≡◌ {A = ℕ} 0 1 = cc in let u : ⊥ = omega arith in u)

-- ---- and

pub and-true : (b : Bool) → (b && true) ≡ b
and-true true = refl
and-true false = refl

pub and-false : (b : Bool) → (b && false) ≡ false
and-false true = refl
and-false false = refl

pub and_split : (a b : Bool) → T (a && b) → T a × T b
and_split true b t = (tt, t)
and_split false b t = absurd t

pub and_join : (a b : Bool) → T a → T b → T (a && b)
and_join true b s t = t
and_join false b s t = absurd s

-- ---- or

pub or_cases : (a b : Bool) → T (a || b) → T a ⊎ T b
or_cases true b t = inl tt
or_cases false b t = inr t

pub or_left : (a b : Bool) → T a → T (a || b)
or_left true b t = tt
or_left false b t = absurd t

pub or_right : (a b : Bool) → T b → T (a || b)
or_right true b t = tt
or_right false b t = t

pub none_left : (a b : Bool) → a || b ≡ false → a ≡ false
none_left true b e = e
none_left false b e = refl

pub none_right : (a b : Bool) → a || b ≡ false → b ≡ false
none_right true b e = absurd (subst T e tt)
none_right false b e = e

pub or-false : (a : Bool) → (a || false) ≡ a
or-false true = refl
or-false false = refl

pub or_comm : (a b : Bool) → (a || b) ≡ (b || a)
or_comm true true = refl
or_comm true false = refl
or_comm false true = refl
or_comm false false = refl

pub and_comm : (a b : Bool) → (a && b) ≡ (b && a)
and_comm true true = refl
and_comm true false = refl
and_comm false true = refl
and_comm false false = refl

pub eqb_comm : (a b : ℕ) → eqb a b ≡ eqb b a
eqb_comm a b =
    test_ext (eqb a b) (eqb b a)
    (λ t. T-true (eqb b a) (eq-eqb b a (sym (eqb→eq a b t))))
    (λ t. T-true (eqb a b) (eq-eqb a b (sym (eqb→eq b a t))))

-- ---- a number that is not 0

pub positive : (n : ℕ) → (n ≡ 0 → ⊥) → 0 < n
positive zero z = absurd (z refl)
positive (suc n) z = omega arith

pub not_zero : (n : ℕ) → eqb n 0 ≡ false → 0 < n
not_zero n e = positive n (eqb-false n 0 e)
