-- A set by its lowest digit and the rest: m % 2 says whether 0 is in it, and m / 2 holds the other
-- members, each less 1. The size, the lowest member and the set without it follow by recursion on
-- the count of digits.
use Rattle.std.specs.Prelude.{◌≡◌, ◌⊎◌, ◌&&◌, ◌||◌, ◌∷◌, ◌+◌, ◌-◌, ◌*◌, ◌/◌, ◌%◌, ◌^◌, ◌≤◌, ◌<◌}
use lib.Arith.{lt-one}
use lib.Bits.{bit_and, bit_or, bit_xor, and_step, and_shr, or_shr, xor_shr, and_mod, or_mod, xor_mod, and_self}
use lib.Count.{ones, ones_step, count_trailing_zeros, under}
use Rattle.lists.proofs.Prelude.{◌∙◌, ap, sym, refl, subst, ap₂, inl, inr, Bool, false, cond, not, List, [], map, ℕ, zero, suc, min}
use Rattle.lists.proofs.Prelude.{T, eqb, eqb-suc-zero, eqb-suc-suc, eqb-zero-suc, length, drop, length-map, shr-shr}
use Rattle.lists.proofs.Prelude.{shr_lt}
use Rattle.lists.proofs.Prelude.{add-zero, pow-suc, div-one, zero-min, min-zero, add-one, arith, tabulate, select}
use Rattle.lists.proofs.Select.{select_ext, select-map}
use Rattle.lists.proofs.Tables.{below_front}
use Rattle.lists.proofs.Parts.{drop_one_map}
use Rattle.bit_sets.specs.BitSets.{bit_at}

-- the members below n, rising
unfoldable pub bits_below : ℕ → ℕ → List ℕ
bits_below n m = select (bit_at m) (tabulate n (λ i. i))

-- ---- one digit

pub digit : (m : ℕ) → (m % 2 ≡ 0) ⊎ (m % 2 ≡ 1)
digit m = go (m % 2) (let h : m % 2 < 2 = omega arith in h)
  where
    go : (d : ℕ) → d < 2 → (d ≡ 0) ⊎ (d ≡ 1)
    go zero h = inl refl
    go (suc d) h = inr (omega arith)

pub bit_at-zero : (m : ℕ) → bit_at m 0 ≡ eqb (m % 2) 1
unfolding bit_at
bit_at-zero m = ap (λ (x : ℕ). eqb (x % 2) 1) (div-one m)

pub bit_at-suc : (m i : ℕ) → bit_at m (suc i) ≡ bit_at (m / 2) i
unfolding bit_at
bit_at-suc m i = ap (λ (x : ℕ). eqb (x % 2) 1) (sym (shr-shr m 1 i ∙ ap (λ (k : ℕ). m / 2 ^ k) (let e : 1 + i ≡ suc i = omega arith in e)))

pub bits_below_step : (n m : ℕ) → bits_below (suc n) m ≡ cond (eqb (m % 2) 1) (0 ∷ map suc (bits_below n (m / 2))) (map suc (bits_below n (m / 2)))
unfolding bits_below select
bits_below_step n m =
    ap (select (bit_at m)) (below_front n)
    ∙ ap₂ (λ (b : Bool) (l : List ℕ). cond b (0 ∷ l) l) (bit_at-zero m)
    (select-map (bit_at m) suc (tabulate n (λ i. i))
    ∙ ap (map suc) (select_ext (λ i. bit_at m (suc i)) (bit_at (m / 2)) (tabulate n (λ i. i)) (λ i h. bit_at-suc m i)))

-- an even number: 0 is not in the set
pub bits_below_even : (n m : ℕ) → m % 2 ≡ 0 → bits_below (suc n) m ≡ map suc (bits_below n (m / 2))
bits_below_even n m e = bits_below_step n m ∙ ap (λ (x : ℕ). cond (eqb x 1) (0 ∷ map suc (bits_below n (m / 2))) (map suc (bits_below n (m / 2)))) e

-- an odd number: 0 is in the set
pub bits_below_odd : (n m : ℕ) → m % 2 ≡ 1 → bits_below (suc n) m ≡ 0 ∷ map suc (bits_below n (m / 2))
bits_below_odd n m e = bits_below_step n m ∙ ap (λ (x : ℕ). cond (eqb x 1) (0 ∷ map suc (bits_below n (m / 2))) (map suc (bits_below n (m / 2)))) e

bits_below_none : (m : ℕ) → bits_below 0 m ≡ []
unfolding bits_below tabulate select
bits_below_none m = refl

-- doubling moves every member up by 1
bits_below_double : (n m : ℕ) → bits_below (suc n) (m * 2) ≡ map suc (bits_below n m)
bits_below_double n m =
    bits_below_even n (m * 2) (let e : m * 2 % 2 ≡ 0 = omega arith in e) ∙ ap (λ (k : ℕ). map suc (bits_below n k)) (let e : m * 2 / 2 ≡ m = omega arith in e)

-- the empty set
pub bits_below_empty : (n : ℕ) → bits_below n 0 ≡ []
bits_below_empty zero = bits_below_none 0
bits_below_empty (suc n) = bits_below_double n 0 ∙ ap (map suc) (bits_below_empty n)

half_lt : (n m : ℕ) → m < 2 ^ suc n → m / 2 < 2 ^ n
half_lt n m h = shr_lt n 1 (subst (λ (x : ℕ). m < 2 ^ x) (sym (add-one n)) h)

-- ---- the size

ones-zero : ones 0 ≡ 0
unfolding ones
ones-zero = refl

pub length-bits_below : (n m : ℕ) → m < 2 ^ n → length (bits_below n m) ≡ ones m
length-bits_below zero m h = rw (bits_below_none m, lt-one h) (sym ones-zero)
length-bits_below (suc n) m h = go (digit m) (length-bits_below n (m / 2) (half_lt n m h))
  where
    go : (m % 2 ≡ 0) ⊎ (m % 2 ≡ 1) → length (bits_below n (m / 2)) ≡ ones (m / 2) → length (bits_below (suc n) m) ≡ ones m
    go (inl e) ih = rw (bits_below_even n m e, length-map, ones_step m, e) (ih ∙ (omega arith))
    go (inr e) ih = rw (bits_below_odd n m e, length-map, ones_step m, e) (ap suc ih ∙ (omega arith))

-- ---- the lowest member

pub first_bits_below : (n m : ℕ) → 0 < m → m < 2 ^ n → (count_trailing_zeros n m < n) × (bits_below n m ≡ count_trailing_zeros n m ∷ drop 1 (bits_below n m))
unfolding count_trailing_zeros
first_bits_below zero m p h = absurd (let z : ⊥ = omega (arith, lt-one h) in z)
first_bits_below (suc n) m p h = go (digit m) (λ q. first_bits_below n (m / 2) q (half_lt n m h))
  where
    go : (m % 2 ≡ 0) ⊎ (m % 2 ≡ 1) → (0 < m / 2 → (count_trailing_zeros n (m / 2) < n) ×
        (bits_below n (m / 2) ≡ count_trailing_zeros n (m / 2) ∷ drop 1 (bits_below n (m / 2))))
        → (under (m % 2) (count_trailing_zeros n (m / 2)) < suc n)
        × (bits_below (suc n) m ≡ under (m % 2) (count_trailing_zeros n (m / 2)) ∷ drop 1 (bits_below (suc n) m))
    go (inl e) ih =
        let r = ih (omega arith) in
        rw (bits_below_even n m e, drop_one_map suc (bits_below n (m / 2)), e) (omega (arith, r.0), ap (map suc) r.1)
    go (inr e) ih = rw (bits_below_odd n m e, e) (omega arith, refl)

-- ---- the set without its lowest member

-- at an even m, m - 1 has the digits of m / 2 - 1 above its lowest
clear_even : (m : ℕ) → 0 < m → m % 2 ≡ 0 → bit_and m (m - 1) ≡ bit_and (m / 2) (m / 2 - 1) * 2
clear_even m p e =
    and_step m (m - 1)
    ∙ ap₂ (λ (x y : ℕ). bit_and (m / 2) x * 2 + min y ((m - 1) % 2)) (let q : (m - 1) / 2 ≡ m / 2 - 1 = omega arith in q) e
    ∙ ap (λ (x : ℕ). bit_and (m / 2) (m / 2 - 1) * 2 + x) (zero-min ((m - 1) % 2))
    ∙ add-zero (bit_and (m / 2) (m / 2 - 1) * 2)

-- at an odd m, m - 1 differs from m in the lowest digit only
clear_odd : (m : ℕ) → m % 2 ≡ 1 → bit_and m (m - 1) ≡ m / 2 * 2
clear_odd m e =
    and_step m (m - 1)
    ∙ ap₂ (λ (x y : ℕ). bit_and (m / 2) x * 2 + min (m % 2) y) (let q : (m - 1) / 2 ≡ m / 2 = omega arith in q) (let q : (m - 1) % 2 ≡ 0 = omega arith in q)
    ∙ ap₂ (λ (x y : ℕ). x * 2 + y) (and_self (m / 2)) (min-zero (m % 2))
    ∙ add-zero (m / 2 * 2)

pub rest_bits_below : (n m : ℕ) → 0 < m → bits_below n (bit_and m (m - 1)) ≡ drop 1 (bits_below n m)
rest_bits_below zero m p = bits_below_none (bit_and m (m - 1)) ∙ ap (drop 1) (sym (bits_below_none m))
rest_bits_below (suc n) m p = go (digit m) (rest_bits_below n (m / 2))
  where
    go : (m % 2 ≡ 0) ⊎ (m % 2 ≡ 1) → (0 < m / 2 → bits_below n (bit_and (m / 2) (m / 2 - 1)) ≡ drop 1 (bits_below n (m / 2)))
        → bits_below (suc n) (bit_and m (m - 1)) ≡ drop 1 (bits_below (suc n) m)
    go (inl e) ih =
        ap (bits_below (suc n)) (clear_even m p e) ∙ bits_below_double n (bit_and (m / 2) (m / 2 - 1)) ∙ ap (map suc) (ih (omega arith))
        ∙ sym (ap (drop 1) (bits_below_even n m e) ∙ drop_one_map suc (bits_below n (m / 2)))
    go (inr e) ih = ap (bits_below (suc n)) (clear_odd m e) ∙ bits_below_double n (m / 2) ∙ sym (ap (drop 1) (bits_below_odd n m e))

-- ---- the digits of a & b, of a | b, of a ^ b and of 2 ^ i

-- two tests of two digits agree where they agree on the four pairs
on_digits : (f g : ℕ → ℕ → Bool) → f 0 0 ≡ g 0 0 → f 0 1 ≡ g 0 1 → f 1 0 ≡ g 1 0 → f 1 1 ≡ g 1 1 → (x y : ℕ) → f (x % 2) (y % 2) ≡ g (x % 2) (y % 2)
on_digits f g zz zo oz oo x y = go (digit x) (digit y)
  where
    at : (p q : ℕ) → f p q ≡ g p q → x % 2 ≡ p → y % 2 ≡ q → f (x % 2) (y % 2) ≡ g (x % 2) (y % 2)
    at p q h d e = ap₂ f d e ∙ h ∙ sym (ap₂ g d e)

    go : (x % 2 ≡ 0) ⊎ (x % 2 ≡ 1) → (y % 2 ≡ 0) ⊎ (y % 2 ≡ 1) → f (x % 2) (y % 2) ≡ g (x % 2) (y % 2)
    go (inl d) (inl e) = at 0 0 zz d e
    go (inl d) (inr e) = at 0 1 zo d e
    go (inr d) (inl e) = at 1 0 oz d e
    go (inr d) (inr e) = at 1 1 oo d e

pub bit_at_and : (a b j : ℕ) → bit_at (bit_and a b) j ≡ (bit_at a j && bit_at b j)
unfolding bit_at
bit_at_and a b j =
    ap (λ (x : ℕ). eqb (x % 2) 1) (and_shr a b j) ∙ ap (λ (x : ℕ). eqb x 1) (and_mod (a / 2 ^ j) (b / 2 ^ j) 1)
    ∙ on_digits (λ p q. eqb (bit_and p q) 1) (λ p q. eqb p 1 && eqb q 1) refl refl refl refl (a / 2 ^ j) (b / 2 ^ j)

pub bit_at-or : (a b j : ℕ) → bit_at (bit_or a b) j ≡ (bit_at a j || bit_at b j)
unfolding bit_at
bit_at-or a b j =
    ap (λ (x : ℕ). eqb (x % 2) 1) (or_shr a b j) ∙ ap (λ (x : ℕ). eqb x 1) (or_mod (a / 2 ^ j) (b / 2 ^ j) 1)
    ∙ on_digits (λ p q. eqb (bit_or p q) 1) (λ p q. eqb p 1 || eqb q 1) refl refl refl refl (a / 2 ^ j) (b / 2 ^ j)

pub bit_at_xor : (a b j : ℕ) → bit_at (bit_xor a b) j ≡ cond (bit_at a j) (not (bit_at b j)) (bit_at b j)
unfolding bit_at
bit_at_xor a b j =
    ap (λ (x : ℕ). eqb (x % 2) 1) (xor_shr a b j) ∙ ap (λ (x : ℕ). eqb x 1) (xor_mod (a / 2 ^ j) (b / 2 ^ j) 1)
    ∙ on_digits (λ p q. eqb (bit_xor p q) 1) (λ p q. cond (eqb p 1) (not (eqb q 1)) (eqb q 1)) refl refl refl refl (a / 2 ^ j) (b / 2 ^ j)

pub bit_at_none : (j : ℕ) → bit_at 0 j ≡ false
bit_at_none zero = bit_at-zero 0
bit_at_none (suc j) = bit_at-suc 0 j ∙ bit_at_none j

pub bit_at-pow : (i j : ℕ) → bit_at (2 ^ i) j ≡ eqb j i
bit_at-pow zero zero = bit_at-zero 1
bit_at-pow zero (suc j) = bit_at-suc 1 j ∙ bit_at_none j ∙ sym (eqb-suc-zero j)
bit_at-pow (suc i) zero =
    bit_at-zero (2 ^ suc i)
    ∙ ap (λ (x : ℕ). eqb (x % 2) 1) (pow-suc 2 i)
    ∙ ap (λ (x : ℕ). eqb x 1) (let e : 2 ^ i * 2 % 2 ≡ 0 = omega arith in e)
    ∙ sym (eqb-zero-suc i)
bit_at-pow (suc i) (suc j) =
    bit_at-suc (2 ^ suc i) j ∙ ap (λ (x : ℕ). bit_at (x / 2) j) (pow-suc 2 i) ∙ ap (λ (x : ℕ). bit_at x j) (let e : 2 ^ i * 2 / 2 ≡ 2 ^ i = omega arith in e)
    ∙ bit_at-pow i j ∙ sym (eqb-suc-suc j i)

-- ---- a set that lies in another is the smaller number

pub subset_le : (n x y : ℕ) → x < 2 ^ n → ((j : ℕ) → j < n → T (bit_at x j) → T (bit_at y j)) → x ≤ y
subset_le zero x y h f = omega (arith, lt-one h)
subset_le (suc n) x y h f =
    go (digit x) (digit y)
    (subset_le n (x / 2) (y / 2) (half_lt n x h) (λ j k t. subst T (bit_at-suc y j) (f (suc j) (omega arith) (subst T (sym (bit_at-suc x j)) t))))
  where
    go : (x % 2 ≡ 0) ⊎ (x % 2 ≡ 1) → (y % 2 ≡ 0) ⊎ (y % 2 ≡ 1) → x / 2 ≤ y / 2 → x ≤ y
    go (inl d) e k = omega arith
    go (inr d) (inr e) k = omega arith
    go (inr d) (inl e) k =
        let t : T (bit_at x 0) = subst T (sym (bit_at-zero x)) (rw d tt) in
        let u : T (eqb (y % 2) 1) = subst T (bit_at-zero y) (f 0 (omega arith) t) in
        absurd (rw e at u)
