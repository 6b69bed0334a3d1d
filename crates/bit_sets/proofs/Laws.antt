-- What the functions on sets of numbers below 64 give, in the words of their contracts, and laws of
-- such sets for callers.
use Rattle.std.specs.Prelude.{◌%◌, ◌&&◌, ◌*◌, ◌-◌, ◌/◌, ◌<◌, ◌^◌, ◌||◌, ◌↔◌, ◌∷◌, ◌≡◌, ◌≤◌, ◌⊎◌}
use lib.Bits.{bit_and, bit_or, bit_xor, and_le_r, and_mask}
use lib.Count.{ones, ones-le, count_trailing_zeros}
use Rattle.lists.proofs.Prelude.{Bool, List, Memᴰ, Memᴰ-cases_cons, Memᴰ-head, Memᴰ-tail, T, []}
use Rattle.lists.proofs.Prelude.{◌∙◌, ap, arith, cond, dec_lt, drop, eq-eqb, eqb, false, inl, inr, le-ltb, le_of_eq}
use Rattle.lists.proofs.Prelude.{le_trans, length, lt-ltb, ltb, ne_eqb, not, pow-lt, refl, select, subst, suc, sym, tabulate, true, zero, ℕ}
use Rattle.lists.proofs.Members.{mem_below}
use Rattle.lists.proofs.Select.{mem-select, select_snoc_not}
use Rattle.lists.proofs.SelectTable.{select_below_ext}
use Rattle.lists.proofs.Tests.{or_comm, and_split, and_join, test_ext, true-T, clash}
use Rattle.lists.proofs.Rising.{Rising, Rising-select, Rising-below}
use Rattle.bit_sets.specs.BitSets.{bit_at, bits}
use Rattle.bit_sets.proofs.Digits.{bits_below, bit_at_and, bit_at-or, bit_at_xor, bit_at-pow, bits_below_empty, length-bits_below, first_bits_below}
use Rattle.bit_sets.proofs.Digits.{rest_bits_below, subset_le}

-- ---- what the functions give

-- the test by a shift and a mask
pub has_is : (m i : ℕ) → eqb (bit_and (m / 2 ^ i) 1) 1 ≡ bit_at m i
unfolding bit_at
has_is m i = ap (λ (x : ℕ). eqb x 1) (and_mask (m / 2 ^ i) 1)

-- one member more, by an or with 1 shifted
pub with_bit_is : (m i : ℕ) → i < 64 → (j : ℕ) → bit_at (bit_or m (1 * 2 ^ i % 18446744073709551616)) j ≡ (eqb j i || bit_at m j)
with_bit_is m i h j =
    let e : 1 * 2 ^ i % 18446744073709551616 ≡ 2 ^ i = omega (arith, pow-lt {i = i} {j = 64} h) in
    ap (λ (x : ℕ). bit_at (bit_or m x) j) e ∙ bit_at-or m (2 ^ i) j ∙ ap (λ (b : Bool). bit_at m j || b) (bit_at-pow i j) ∙ or_comm (bit_at m j) (eqb j i)

pub either_is : (a b j : ℕ) → bit_at (bit_or a b) j ≡ (bit_at a j || bit_at b j)
either_is a b j = bit_at-or a b j

-- what is in a and not in b, by an exclusive or
pub without_is : (a b j : ℕ) → bit_at (bit_xor a (bit_and a b)) j ≡ (bit_at a j && not (bit_at b j))
without_is a b j = bit_at_xor a (bit_and a b) j ∙ ap (λ (c : Bool). cond (bit_at a j) (not c) c) (bit_at_and a b j) ∙ go (bit_at a j) (bit_at b j)
  where
    go : (x y : Bool) → cond x (not (x && y)) (x && y) ≡ (x && not y)
    go true y = refl
    go false y = refl

pub size_is : (m : ℕ) → m < 2 ^ 64 → ones m ≡ length (bits m)
unfolding bits bits_below
size_is m h = sym (length-bits_below 64 m h)

pub size_le : (m : ℕ) → m < 2 ^ 64 → length (bits m) ≤ 64
size_le m h = le_trans (le_of_eq (sym (size_is m h))) (ones-le 64 m h)

pub lowest_is : (m : ℕ) → 0 < m → m < 2 ^ 64 → (count_trailing_zeros 64 m < 64) × (bits m ≡ count_trailing_zeros 64 m ∷ drop 1 (bits m))
unfolding bits bits_below
lowest_is m p h = first_bits_below 64 m p h

pub rest_is : (m : ℕ) → 0 < m → bits (bit_and m (m - 1)) ≡ drop 1 (bits m)
unfolding bits bits_below
rest_is m p = rest_bits_below 64 m p

pub rest_lt : (m : ℕ) → 0 < m → bit_and m (m - 1) < m
rest_lt m p = omega (arith, and_le_r m (m - 1))

-- ---- for callers

-- by any test that agrees with the digits
pub bits_by : (m : ℕ) (test : ℕ → Bool) → ((j : ℕ) → j < 64 → bit_at m j ≡ test j) → bits m ≡ select test (tabulate 64 (λ i. i))
unfolding bits
bits_by m test h = select_below_ext (bit_at m) test 64 h

-- the numbers below n that are below k and pass a test
select_cut : (k : ℕ) (test : ℕ → Bool) (n : ℕ) → k ≤ n → select (λ j. ltb j k && test j) (tabulate n (λ i. i)) ≡ select test (tabulate k (λ i. i))
unfolding tabulate
select_cut k test zero l =
    let e : k ≡ 0 = omega arith in
    rw e (select_below_ext (λ j. ltb j 0 && test j) test 0 (λ j h. absurd (let z : ⊥ = omega arith in z)))
select_cut k test (suc n) l = go (dec_lt n k) (select_cut k test n)
  where
    go : Dec (n < k) → (k ≤ n → select (λ j. ltb j k && test j) (tabulate n (λ i. i)) ≡ select test (tabulate k (λ i. i)))
        → select (λ j. ltb j k && test j) (tabulate (suc n) (λ i. i)) ≡ select test (tabulate k (λ i. i))
    go (yes a) ih =
        let e : suc n ≡ k = omega arith in
        subst (λ (m : ℕ). select (λ j. ltb j k && test j) (tabulate m (λ i. i)) ≡ select test (tabulate k (λ i. i))) (sym e)
        (select_below_ext (λ j. ltb j k && test j) test k (λ j h. ap (λ (b : Bool). b && test j) (lt-ltb j k h)))
    go (no a) ih =
        select_snoc_not (λ j. ltb j k && test j) (tabulate n (λ i. i)) n (ap (λ (b : Bool). b && test n) (le-ltb n k (omega arith))) ∙ ih (omega arith)

-- by a test of the numbers below k
pub bits_below_lem : (m k : ℕ) (test : ℕ → Bool) → k ≤ 64 → ((j : ℕ) → j < 64 → bit_at m j ≡ (ltb j k && test j)) → bits m ≡ select test (tabulate k (λ i. i))
bits_below_lem m k test h f = bits_by m (λ j. ltb j k && test j) f ∙ select_cut k test 64 h

pub mem-bits : (m j : ℕ) → Memᴰ j (bits m) ↔ ((j < 64) × T (bit_at m j))
unfolding bits
mem-bits m j =
    let s = mem-select (bit_at m) (tabulate 64 (λ i. i)) j in
    let b = mem_below 64 j in
    (λ h. let r = s.0 h in (b.0 r.0, r.1), λ r. s.1 (b.1 r.0, r.1))

pub bits-zero : bits 0 ≡ []
unfolding bits bits_below
bits-zero = bits_below_empty 64

pub empty_is : (m : ℕ) → m ≡ 0 → bits m ≡ []
empty_is m e = rw e bits-zero

-- a set that has only members of another and lacks one is a smaller number
pub subset_lt : (x y i : ℕ) → x < 2 ^ 64 → ((j : ℕ) → j < 64 → T (bit_at x j) → T (bit_at y j)) → T (bit_at y i) → bit_at x i ≡ false → x < y
subset_lt x y i h f t out =
    let differ : x ≡ y → ⊥ = λ e. clash (true-T (bit_at y i) t) (ap (λ (m : ℕ). bit_at m i) (sym e) ∙ out) in
    go (dec_lt x y) (subset_le 64 x y h f) differ
  where
    go : Dec (x < y) → x ≤ y → (x ≡ y → ⊥) → x < y
    go (yes l) le d = l
    go (no l) le d = absurd (d (omega arith))

-- ---- the lowest member of a set

pub first_lt : (m r : ℕ) (rest : List ℕ) → bits m ≡ r ∷ rest → r < 64
first_lt m r rest e = ((mem-bits m r).0 (subst (λ (l : List ℕ). Memᴰ r l) (sym e) (Memᴰ-head refl))).0

bits_rise : (m : ℕ) → Rising (λ i j. i < j) (bits m)
unfolding bits
bits_rise m = Rising-select (λ i j. i < j) (bit_at m) (tabulate 64 (λ i. i)) (Rising-below 64)

pub lowest_in : (m r : ℕ) → bits m ≡ r ∷ drop 1 (bits m) → T (bit_at m r)
lowest_in m r e = ((mem-bits m r).0 (subst (λ (l : List ℕ). Memᴰ r l) (sym e) (Memᴰ-head refl))).1

pub lowest_le : (m r j : ℕ) → bits m ≡ r ∷ drop 1 (bits m) → j < 64 → T (bit_at m j) → r ≤ j
lowest_le m r j e h t = go (Memᴰ-cases_cons (subst (λ (l : List ℕ). Memᴰ j l) e ((mem-bits m j).1 (h, t))))
  where
    go : (j ≡ r) ⊎ Memᴰ j (drop 1 (bits m)) → r ≤ j
    go (inl q) = omega arith
    go (inr d) = let l = (subst (λ (l : List ℕ). Rising (λ i j. i < j) l) e (bits_rise m)).0 j d in omega arith

-- without its lowest member a set has the others
pub lowest_out : (m n r j : ℕ) → bits m ≡ r ∷ drop 1 (bits m) → bits n ≡ drop 1 (bits m) → j < 64 → bit_at n j ≡ (not (eqb j r) && bit_at m j)
lowest_out m n r j e f h = test_ext (bit_at n j) (not (eqb j r) && bit_at m j) from to
  where
    above : Memᴰ j (drop 1 (bits m)) → r < j
    above d = (subst (λ (l : List ℕ). Rising (λ i j. i < j) l) e (bits_rise m)).0 j d

    from : T (bit_at n j) → T (not (eqb j r) && bit_at m j)
    from t =
        let d : Memᴰ j (drop 1 (bits m)) = subst (λ (l : List ℕ). Memᴰ j l) f ((mem-bits n j).1 (h, t)) in
        let l = above d in
        and_join (not (eqb j r)) (bit_at m j) (rw (ne_eqb j r (λ q. let z : ⊥ = omega arith in z)) tt)
        ((mem-bits m j).0 (subst (λ (l : List ℕ). Memᴰ j l) (sym e) (Memᴰ-tail d))).1

    to : T (not (eqb j r) && bit_at m j) → T (bit_at n j)
    to t =
        let s = and_split (not (eqb j r)) (bit_at m j) t in
        let d = Memᴰ-cases_cons (subst (λ (l : List ℕ). Memᴰ j l) e ((mem-bits m j).1 (h, s.1))) in
        ((mem-bits n j).0 (subst (λ (l : List ℕ). Memᴰ j l) (sym f) (rest s.0 d))).1
      where
        rest : T (not (eqb j r)) → (j ≡ r) ⊎ Memᴰ j (drop 1 (bits m)) → Memᴰ j (drop 1 (bits m))
        rest u (inl q) = absurd (subst (λ (b : Bool). T (not b)) (eq-eqb j r q) u)
        rest u (inr d) = d
