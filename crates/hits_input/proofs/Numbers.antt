-- NUMBERS: the digits of a number are taken one by one, up to one that is none, or to a number that
-- is above the limit.
use Rattle.std.specs.Prelude.{◌≡◌, ◌&&◌, ◌∷◌, ◌+◌, ◌-◌, ◌*◌, ◌≤◌, ◌<◌, ◌-ℤ◌}
use Rattle.lists.proofs.Prelude.{◌∙◌, ap, sym, refl, same_Some, eq-eqb, ne_eqb, Bool, true, false, Option, None, Some, none-some, List, [], ℕ, zero, suc, ℤ}
use Rattle.lists.proofs.Prelude.{pos, negsuc, leb}
use Rattle.lists.proofs.Prelude.{length, get_or, take, drop, drop-cons, drop_of_length-le, add-one, arith, le-leb, lt-leb, all}
use Rattle.std.proofs.lemmas.List.{take_rest}
use Rattle.lists.proofs.Tests.{and-false}
use Rattle.hits_input.specs.Input.{when, decimal, are_digits, negative, read_number}

abbrev pub is_digit : ℕ → Bool
is_digit d = leb 48 d && leb d 57

-- the number that digits tell behind those that tell n, if it is within the limit
abbrev pub told_behind : ℕ → ℕ → List ℕ → Option ℕ
told_behind limit n ds = when (all is_digit ds && leb (decimal n ds) limit) (Some (decimal n ds))

pub digits_none : (limit : ℕ) (ds : List ℕ) → length ds ≡ 0 → None ≡ when (are_digits limit ds) (Some (decimal 0 ds))
unfolding are_digits
digits_none limit [] e = refl
digits_none limit (d ∷ ds) e = absurd (let z : ⊥ = omega arith in z)

pub digits_some : (limit : ℕ) (ds : List ℕ) → 0 < length ds → when (are_digits limit ds) (Some (decimal 0 ds)) ≡ told_behind limit 0 ds
unfolding are_digits
digits_some limit ds h = rw (le-leb 1 (length ds) h) refl

-- a digit is taken
pub digit_more : (limit n : ℕ) (ds : List ℕ) (i : ℕ) → i < length ds → is_digit (get_or ds i 0) ≡ true
    → told_behind limit n (drop i ds) ≡ told_behind limit (n * 10 + (get_or ds i 0 - 48)) (drop (i + 1) ds)
unfolding decimal all
digit_more limit n ds i h e = rw (add-one, drop-cons ds i 0 h, e) refl

-- a byte is no digit
pub digit_bad : (limit n : ℕ) (ds : List ℕ) (i : ℕ) → i < length ds → is_digit (get_or ds i 0) ≡ false → told_behind limit n (drop i ds) ≡ None
unfolding all
digit_bad limit n ds i h e = rw (drop-cons ds i 0 h, e) refl

decimal-ge : (n : ℕ) (ds : List ℕ) → n ≤ decimal n ds
unfolding decimal
decimal-ge n [] = omega arith
decimal-ge n (d ∷ ds) = omega (arith, decimal-ge (n * 10 + (d - 48)) ds)

-- the number is too large already
pub digit_over : (limit n : ℕ) (ds : List ℕ) → limit < n → told_behind limit n ds ≡ None
digit_over limit n ds h = rw (lt-leb (decimal n ds) limit (omega (arith, decimal-ge n ds)), and-false (all is_digit ds)) refl

-- no digit is left
pub digits_end : (limit n : ℕ) (ds : List ℕ) (i : ℕ) → length ds ≤ i → n ≤ limit → told_behind limit n (drop i ds) ≡ Some n
unfolding decimal all
digits_end limit n ds i h k = rw (drop_of_length-le ds {i = i} h, le-leb n limit k) refl

-- ---- numbers

-- what is made of a number that is told
told_none : {A B : Type 0} (t : Bool) (a : A) (b : B) → None ≡ when t (Some a) → when t (Some b) ≡ None
told_none false a b e = refl
told_none true a b e = absurd (none-some _ e)

told_some : {A B : Type 0} (f : A → B) (t : Bool) (a x : A) → Some x ≡ when t (Some a) → when t (Some (f a)) ≡ Some (f x)
told_some f false a x e = absurd (none-some _ (sym e))
told_some f true a x e = ap (λ y. Some (f y)) (sym (same_Some _ _ e))

pub number_none : (part : List ℕ) → length part ≡ 0 → read_number part ≡ None
unfolding read_number
number_none [] e = refl
number_none (b ∷ bs) e = absurd (let z : ⊥ = omega arith in z)

minus_is : (part : List ℕ) → 0 < length part → get_or part 0 0 ≡ 45
    → read_number part ≡ when (are_digits 2147483648 (drop 1 part)) (Some (negative (decimal 0 (drop 1 part))))
unfolding read_number
minus_is [] h e = absurd (omega arith)
minus_is (b ∷ bs) h e = rw (eq-eqb b 45 e) refl

plain_is : (part : List ℕ) → 0 < length part → (get_or part 0 0 ≡ 45 → ⊥) → read_number part ≡ when (are_digits 2147483647 part) (Some (pos (decimal 0 part)))
unfolding read_number
plain_is [] h f = absurd (omega arith)
plain_is (b ∷ bs) h f = rw (ne_eqb b 45 f) refl

-- with a minus sign before the digits
abbrev pub behind_sign : List ℕ → List ℕ
behind_sign part = take (length part - 1) (drop 1 part)

module _ (part : List ℕ) (h : 0 < length part) (e : get_or part 0 0 ≡ 45) where
  signed_is : read_number part ≡ when (are_digits 2147483648 (behind_sign part)) (Some (negative (decimal 0 (behind_sign part))))
  signed_is = rw (take_rest part 1) (minus_is part h e)

  pub minus_none : None ≡ when (are_digits 2147483648 (behind_sign part)) (Some (decimal 0 (behind_sign part))) → read_number part ≡ None
  minus_none q = signed_is ∙ told_none (are_digits 2147483648 (behind_sign part)) _ _ q

  pub minus_some : (n : ℕ) → Some n ≡ when (are_digits 2147483648 (behind_sign part)) (Some (decimal 0 (behind_sign part)))
      → read_number part ≡ Some (negative n)
  minus_some n q = signed_is ∙ told_some negative (are_digits 2147483648 (behind_sign part)) _ n q

-- with none
module _ (part : List ℕ) (h : 0 < length part) (f : get_or part 0 0 ≡ 45 → ⊥) where
  pub plain_none : None ≡ when (are_digits 2147483647 part) (Some (decimal 0 part)) → read_number part ≡ None
  plain_none q = plain_is part h f ∙ told_none (are_digits 2147483647 part) _ _ q

  pub plain_some : (n : ℕ) → Some n ≡ when (are_digits 2147483647 part) (Some (decimal 0 part)) → read_number part ≡ Some (pos n)
  plain_some n q = plain_is part h f ∙ told_some pos (are_digits 2147483647 part) _ n q

pub number_not_empty : (part : List ℕ) (z : ℤ) → read_number part ≡ Some z → 1 ≤ length part
unfolding read_number
number_not_empty [] z e = absurd (none-some _ e)
number_not_empty (b ∷ bs) z e = omega arith

pub minus_one_less : (k : ℕ) → negsuc 0 -ℤ pos k ≡ negsuc k
minus_one_less zero = refl
minus_one_less (suc k) = ap (λ (n : ℕ). negsuc (suc n)) (let e : 0 + k ≡ k = omega arith in e)
