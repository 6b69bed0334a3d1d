-- The near distances that may come next, as bits: what a distance d leaves of them is what is open
-- one place on.
use Rattle.std.specs.Prelude.{◌≡◌, ◌&&◌, ◌||◌, ◌+◌, ◌-◌, ◌*◌, ◌%◌, ◌^◌, ◌≤◌, ◌<◌}
use lib.Bits.{bit_or}
use lib.Dec.{leb-suc-suc}
use Rattle.lists.proofs.Prelude.{◌∙◌, ap, sym, Bool, true, false, List, [], ℕ, zero, suc, leb, ltb}
use Rattle.lists.proofs.Prelude.{dec_lt, arith, le-leb, lt-leb, lt-ltb, eqb, get_or, add-one, any}
use Rattle.lists.proofs.Tests.{and-true, and_comm, or_comm}
use Rattle.bit_sets.specs.BitSets.{bit_at}
use Rattle.bit_sets.proofs.Digits.{bit_at-suc, bit_at_none, bit_at-zero, bit_at-or}
use Rattle.bit_sets.proofs.Shifts.{bit_at_double_zero, bit_at_double, bit_at_shl, bit_at_ones, bit_at_low}
use Rattle.realization.specs.Walk.{opened}
use Rattle.compute_realization.specs.OpenDistances.{open_distances, OpenBits}
use Rattle.compute_realization.proofs.OpenDistances.{one_open, opened_none, opened_kept, opened_shut}

-- all bits, shifted up by d, and away where d is 0
pub not_nearer_is : (d j : ℕ) → d < 64 → j < 64
    → bit_at (18446744073709551615 * 2 ^ ((d + 63) % 64) % 18446744073709551616 * 2 % 18446744073709551616) j ≡ (ltb 0 d && leb d j)
not_nearer_is zero j h k = bit_at_none j
not_nearer_is (suc e) j h k =
    let s : (suc e + 63) % 64 ≡ e = omega arith in
    let x = 18446744073709551615 * 2 ^ e % 18446744073709551616 in
    rw (s, lt-ltb 0 (suc e) (omega arith)) (bit_at_low (x * 2) 64 j k ∙ go j k)
  where
    go : (j : ℕ) → j < 64 → bit_at (18446744073709551615 * 2 ^ e % 18446744073709551616 * 2) j ≡ leb (suc e) j
    go zero k = bit_at_double_zero (18446744073709551615 * 2 ^ e % 18446744073709551616) ∙ sym (lt-leb (suc e) 0 (omega arith))
    go (suc i) k =
        bit_at_double (18446744073709551615 * 2 ^ e % 18446744073709551616) i
        ∙ bit_at_low (18446744073709551615 * 2 ^ e) 64 i (omega arith)
        ∙ bit_at_shl 18446744073709551615 e i
        ∙ ap (λ (b : Bool). leb e i && b) (bit_at_ones 64 (i - e) (omega arith))
        ∙ and-true (leb e i)
        ∙ sym (leb-suc-suc e i)

-- before the first place no place is open
pub OpenBits-none : OpenBits 1 []
unfolding any
OpenBits-none zero h = bit_at-zero 1
OpenBits-none (suc d) h = bit_at-suc 1 d ∙ bit_at_none d

three_low : (m : ℕ) → (bit_at (bit_or m 3) 0 ≡ true) × (bit_at (bit_or m 3) 1 ≡ true)
three_low m = (
  bit_at-or m 3 0 ∙ ap (λ (b : Bool). bit_at m 0 || b) (bit_at-zero 3) ∙ or_comm (bit_at m 0) true,
  bit_at-or m 3 1 ∙ ap (λ (b : Bool). bit_at m 1 || b) (bit_at-suc 3 0 ∙ bit_at-zero 1) ∙ or_comm (bit_at m 1) true,
)

three_high : (m y : ℕ) → bit_at (bit_or m 3) (suc (suc y)) ≡ bit_at m (suc (suc y))
three_high m y =
    bit_at-or m 3 (suc (suc y))
    ∙ ap (λ (b : Bool). bit_at m (suc (suc y)) || b) (bit_at-suc 3 (suc y) ∙ bit_at-suc 1 y ∙ bit_at_none y)
    ∙ or_comm (bit_at m (suc (suc y))) false

-- a distance of 64 or more leaves no near place open but the new one
pub OpenBits-far : (d : ℕ) (os : List ℕ) → 64 ≤ d → OpenBits 3 (opened d os)
OpenBits-far d os h zero k = bit_at-zero 3
OpenBits-far d os h (suc zero) k = bit_at-suc 3 0 ∙ bit_at-zero 1 ∙ sym (one_open d os)
OpenBits-far d os h (suc (suc y)) k = bit_at-suc 3 (suc y) ∙ bit_at-suc 1 y ∙ bit_at_none y ∙ sym (opened_shut d (suc y) os (omega arith) (omega arith))

-- a nearer one leaves what is not nearer, one place farther
pub OpenBits-near : (near kept d : ℕ) (os : List ℕ) → OpenBits near os → ((j : ℕ) → j < 64 → bit_at kept j ≡ (bit_at near j && (ltb 0 d && leb d j)))
    → OpenBits (bit_or (kept * 2 % 18446744073709551616) 3) (opened d os)
OpenBits-near near kept d os o h zero k = (three_low (kept * 2 % 18446744073709551616)).0
OpenBits-near near kept d os o h (suc zero) k = (three_low (kept * 2 % 18446744073709551616)).1 ∙ sym (one_open d os)
OpenBits-near near kept d os o h (suc (suc y)) k =
    three_high (kept * 2 % 18446744073709551616) y
    ∙ bit_at_low (kept * 2) 64 (suc (suc y)) k
    ∙ bit_at_double kept (suc y)
    ∙ h (suc y) (omega arith)
    ∙ ap (λ (b : Bool). b && (ltb 0 d && leb d (suc y))) (o (suc y) (omega arith))
    ∙ go d (dec_lt (suc y) d)
  where
    go : (d : ℕ) → Dec (suc y < d) → (any (eqb (suc y)) os && (ltb 0 d && leb d (suc y))) ≡ any (eqb (suc (suc y))) (opened d os)
    go zero c = and_comm (any (eqb (suc y)) os) false ∙ sym (opened_none (suc y) os (omega arith))
    go (suc e) (yes l) =
        rw (lt-ltb 0 (suc e) (omega arith), lt-leb (suc e) (suc y) l)
        (and_comm (any (eqb (suc y)) os) false ∙ sym (opened_shut (suc e) (suc y) os (omega arith) l))
    go (suc e) (no g) =
        rw (lt-ltb 0 (suc e) (omega arith), le-leb (suc e) (suc y) (omega arith))
        (and-true (any (eqb (suc y)) os) ∙ sym (opened_kept (suc e) (suc y) os (omega arith) (omega arith)))

-- the same over the list of distances, where d is that at place i
pub OpenBits-on : (ds : List ℕ) (i d near r : ℕ) → d ≡ get_or ds i 0 → OpenBits near (open_distances ds i)
    → ((os : List ℕ) → OpenBits near os → OpenBits r (opened d os)) → OpenBits r (open_distances ds (i + 1))
unfolding open_distances
OpenBits-on ds i d near r e o f = rw (add-one, ← e) (f (open_distances ds i) o)
