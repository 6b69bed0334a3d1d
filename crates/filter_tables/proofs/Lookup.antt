-- WHAT THE TABLES TELL at the end of a text: the sets at the bytes of a fingerprint have in common
-- the patterns that have the whole fingerprint, so with the set of those whose windows fit they
-- have the candidates there, and the own tables the likely patterns.
use Rattle.std.specs.Prelude.{◌≡◌, ◌&&◌, ◌∷◌, ◌+◌, ◌-◌, ◌/◌, ◌%◌, ◌^◌, ◌≤◌, ◌<◌}
use Rattle.lists.proofs.Prelude.{◌∙◌, ap, sym, refl, ap₂, Bool, true, false, List, [], map, append-nil, Memᴰ, ℕ, zero, suc, min}
use Rattle.lists.proofs.Prelude.{ℤ, T, eqb, leb, ltb, eqb→eq, ltb→lt, length, get_or, pow_mono, field, mod-lt, mod-eq_of_lt, min-le_left}
use Rattle.lists.proofs.Prelude.{lt_of_lt_of_le, le-min, dec_lt, arith, eq-eqb, le-leb, lt-leb, lt-ltb, le-ltb, tabulate, select}
use Rattle.lists.proofs.Tests.{and_split, and_join, test_ext, T-true, and_comm, eqb_comm}
use Rattle.lists.proofs.Tables.{tabulate-get_or, map-tabulate}
use Rattle.lists.proofs.Members.{get_or-mem}
use Rattle.lists.proofs.Select.{select-map, select-append}
use Rattle.lists.proofs.SelectTable.{select_below_ext}
use Rattle.lists.proofs.Powers.{mod-pow-pow}
use Rattle.bit_sets.specs.BitSets.{bit_at, bits}
use Rattle.bit_sets.proofs.Laws.{bits_by}
use Rattle.pattern_set.specs.PatternSet.{PatternSet, good_set}
use Rattle.matching.specs.Matching.{shortest, fits, is_candidate}
use Rattle.filter_plan.specs.Plan.{hit_order, text_fingerprint, pattern_fingerprint, own_length, is_likely}
use Rattle.filter_plan.proofs.Fingerprints.{text_fingerprint_bytes, text_fingerprint_part}
use Rattle.filter_plan.proofs.HitOrder.{hit_order-lt, length-hit_order}
use Rattle.filter_plan.proofs.Checks.{shortest_bound, shortest_positive}
use Rattle.pattern_set.proofs.Good.{good_pattern_lem}
use Rattle.filter_tables.specs.Tables.{ranked, TableOf, set_low, set_high, own_low, own_high, fits_at}

-- ---- two bytes

-- two numbers are equal exactly if their bytes are
bytes_eq : (a b : ℕ) → (eqb (b % 256) (a % 256) && eqb (b / 256) (a / 256)) ≡ eqb a b
bytes_eq a b =
    test_ext (eqb (b % 256) (a % 256) && eqb (b / 256) (a / 256)) (eqb a b)
    (λ t. let s = and_split (eqb (b % 256) (a % 256)) (eqb (b / 256) (a / 256)) t in
    let l = eqb→eq (b % 256) (a % 256) s.0 in
    let h = eqb→eq (b / 256) (a / 256) s.1 in
    T-true (eqb a b) (eq-eqb a b (omega arith)))
    (λ t. let e = eqb→eq a b t in
    and_join (eqb (b % 256) (a % 256)) (eqb (b / 256) (a / 256)) (T-true (eqb (b % 256) (a % 256)) (eq-eqb (b % 256) (a % 256) (omega arith)))
    (T-true (eqb (b / 256) (a / 256)) (eq-eqb (b / 256) (a / 256) (omega arith))))

-- the bytes of the lowest n bits
lower_byte : (k n : ℕ) → k % 256 % 2 ^ min 8 n ≡ k % 2 ^ n % 256
lower_byte k n = go (dec_lt n 8)
  where
    go : Dec (n < 8) → k % 256 % 2 ^ min 8 n ≡ k % 2 ^ n % 256
    go (yes l) =
        let m : min 8 n ≡ n = omega arith in
        let s : 2 ^ n ≤ 2 ^ 8 = pow_mono {i = n} {j = 8} (omega arith) in
        let q = mod-lt k {m = 2 ^ n} (pow_mono {i = 0} {j = n} (omega arith)) in
        ap (λ (x : ℕ). k % 256 % 2 ^ x) m ∙ mod-pow-pow n 8 k (omega arith) ∙ sym (mod-eq_of_lt (lt_of_lt_of_le q s))
    go (no f) =
        let m : min 8 n ≡ 8 = omega arith in
        ap (λ (x : ℕ). k % 256 % 2 ^ x) m ∙ mod-pow-pow 8 8 k (omega arith) ∙ sym (mod-pow-pow 8 n k (omega arith))

high_byte : (k n : ℕ) → k / 256 % 2 ^ (n - 8) ≡ k % 2 ^ n / 256
high_byte k n = go (dec_lt n 8)
  where
    go : Dec (n < 8) → k / 256 % 2 ^ (n - 8) ≡ k % 2 ^ n / 256
    go (yes l) =
        let m : n - 8 ≡ 0 = omega arith in
        let s : 2 ^ n ≤ 2 ^ 8 = pow_mono {i = n} {j = 8} (omega arith) in
        let q = mod-lt k {m = 2 ^ n} (pow_mono {i = 0} {j = n} (omega arith)) in
        ap (λ (x : ℕ). k / 256 % 2 ^ x) m ∙ (let e : k / 256 % 1 ≡ k % 2 ^ n / 256 = omega (arith, s, q) in e)
    go (no f) =
        let m : n ≡ n - 8 + 8 = omega arith in
        sym (ap (λ (x : ℕ). k % 2 ^ x / 256) m ∙ field k (n - 8) 8)

-- ---- one pattern

-- the set fingerprint
pub set_tests : (b fingerprint : ℕ) (p : List ℕ)
    → (set_low b (fingerprint % 256) p && set_high b (fingerprint / 256) p) ≡ eqb fingerprint (pattern_fingerprint b p)
set_tests b fingerprint p = bytes_eq fingerprint (pattern_fingerprint b p)

-- the pattern's own fingerprint, against the text's fingerprint of 17 values
pub own_tests : (text : List ℤ) (p : List ℕ) → 1 ≤ length p
    → (own_low (text_fingerprint 17 text % 256) p && own_high (text_fingerprint 17 text / 256) p) ≡ eqb (text_fingerprint (own_length p) text)
    (pattern_fingerprint (own_length p) p)
own_tests text p h =
    let K = text_fingerprint 17 text in
    let n = own_length p - 1 in
    let t = text_fingerprint (own_length p) text in
    let q = pattern_fingerprint (own_length p) p in
    let e : t ≡ K % 2 ^ n = text_fingerprint_part (own_length p) 17 text (le-min (omega arith) h) (min-le_left 17 (length p)) in
    ap₂ (λ (x y : ℕ). eqb x (q % 256) && eqb y (q / 256)) (lower_byte K n ∙ ap (λ (x : ℕ). x % 256) (sym e)) (high_byte K n ∙ ap (λ (x : ℕ). x / 256) (sym e))
    ∙ bytes_eq q t
    ∙ eqb_comm q t

-- the last place of n samples, or 255 where that is smaller
abbrev pub last_place : ℕ → ℕ
last_place n = min 255 (n - 1)

-- a pattern's window lies within n samples
pub fits_test : (n : ℕ) (p : List ℕ) → 1 ≤ length p → length p ≤ 256 → (ltb 0 n && fits_at (last_place n) p) ≡ leb (length p) n
fits_test zero p h k = sym (lt-leb (length p) 0 h)
fits_test (suc n) p h k = rw (lt-ltb 0 (suc n) (omega arith)) (go (dec_lt (suc n) (length p)))
  where
    go : Dec (suc n < length p) → fits_at (last_place (suc n)) p ≡ leb (length p) (suc n)
    go (yes l) = lt-leb (length p) (suc (last_place (suc n))) (omega arith) ∙ sym (lt-leb (length p) (suc n) l)
    go (no f) = le-leb (length p) (suc (last_place (suc n))) (omega arith) ∙ sym (le-leb (length p) (suc n) (omega arith))

-- ---- all patterns

-- a bit of three sets that have only ranks below k, where the tests of rank r come to one
common_bit : (c x y e z t : Bool) → (T c → ((x && y) && (e && z)) ≡ t) → (((c && x) && (c && y)) && (e && (c && z))) ≡ (c && t)
common_bit true x y e z t f = f tt
common_bit false x y e z t f = refl

-- where a window at the end of the text fits exactly if it lies within the last n values
module _ (ps : PatternSet) (text : List ℤ) (good : T (good_set ps)) (n : ℕ) (samples : (p : List ℕ) → length p ≤ 256 → fits text p ≡ leb (length p) n) where
  -- the pattern of a rank is one of the set
  ranked-mem : (r : ℕ) → T (ltb r (length ps)) → Memᴰ (ranked ps r) ps
  ranked-mem r t =
      let h = ltb→lt r (length ps) t in
      get_or-mem ps (get_or (hit_order ps) r 0) [] (hit_order-lt ps r (omega (arith, length-hit_order ps good)))

  place_lt : last_place n < 256
  place_lt = omega arith

  -- the test of the table by last places
  fits_is : (p : List ℕ) → 1 ≤ length p → length p ≤ 256 → (ltb 0 n && fits_at (last_place n) p) ≡ fits text p
  fits_is p h k = fits_test n p h k ∙ sym (samples p k)

  -- the fingerprint of 17 values has two bytes
  pub own_fingerprint_bytes : (text_fingerprint 17 text % 256 < 256) × (text_fingerprint 17 text / 256 < 256)
  own_fingerprint_bytes = let h = text_fingerprint_bytes 17 text (omega arith) (omega arith) in (omega arith, omega arith)

  module _ (b : ℕ) (b≡ : b ≡ shortest 17 ps) where
    -- the set fingerprint has two bytes
    pub set_fingerprint_bytes : (text_fingerprint b text % 256 < 256) × (text_fingerprint b text / 256 < 256)
    set_fingerprint_bytes =
        let h : text_fingerprint b text < 65536 =
        text_fingerprint_bytes b text (omega (arith, shortest_positive 17 ps good (omega arith))) (omega (arith, shortest_bound 17 ps)) in
        (omega arith, omega arith)

    -- CANDIDATES: what the sets at the bytes of the set fingerprint and at the last place have in
    -- common
    pub candidate_bit : (lowbyte highbyte table : List ℕ) → TableOf ps (set_low b) lowbyte → TableOf ps (set_high b) highbyte → TableOf ps fits_at table
        → (r : ℕ) → r < 64
        → ((bit_at (get_or lowbyte (text_fingerprint b text % 256) 0) r && bit_at (get_or highbyte (text_fingerprint b text / 256) 0) r) && (ltb 0 n && bit_at
        (get_or table (last_place n) 0) r)) ≡ (ltb r (length ps) && is_candidate b text (ranked ps r))
    unfolding is_candidate
    candidate_bit lowbyte highbyte table l h f r k =
        let fingerprint = text_fingerprint b text in
        let p = ranked ps r in
        ap₂ ◌&&◌ (ap₂ ◌&&◌ (l (fingerprint % 256) set_fingerprint_bytes.0 r k) (h (fingerprint / 256) set_fingerprint_bytes.1 r k))
        (ap (λ (z : Bool). ltb 0 n && z) (f (last_place n) place_lt r k))
        ∙ common_bit (ltb r (length ps)) (set_low b (fingerprint % 256) p) (set_high b (fingerprint / 256) p) (ltb 0 n) (fits_at (last_place n) p)
        (is_candidate b text p)
        (λ t. let inside = good_pattern_lem ps p good (ranked-mem r t) in
        ap₂ ◌&&◌ (set_tests b fingerprint p) (fits_is p inside.0 inside.1)
        ∙ and_comm (eqb fingerprint (pattern_fingerprint b p)) (fits text p))

  -- LIKELY PATTERNS: what the own tables at the bytes of the fingerprint of 17 values and the set
  -- at the last place have in common
  pub own_bit : (lowbyte highbyte table : List ℕ) → TableOf ps own_low lowbyte → TableOf ps own_high highbyte → TableOf ps fits_at table → (r : ℕ) → r < 64
      → ((bit_at (get_or lowbyte (text_fingerprint 17 text % 256) 0) r && bit_at (get_or highbyte (text_fingerprint 17 text / 256) 0) r) && (ltb 0 n && bit_at
      (get_or table (last_place n) 0) r)) ≡ (ltb r (length ps) && is_likely text (ranked ps r))
  unfolding is_likely
  own_bit lowbyte highbyte table l h f r k =
      let p = ranked ps r in
      ap₂ ◌&&◌
      (ap₂ ◌&&◌ (l (text_fingerprint 17 text % 256) own_fingerprint_bytes.0 r k) (h (text_fingerprint 17 text / 256) own_fingerprint_bytes.1 r k))
      (ap (λ (z : Bool). ltb 0 n && z) (f (last_place n) place_lt r k))
      ∙ common_bit (ltb r (length ps)) (own_low (text_fingerprint 17 text % 256) p) (own_high (text_fingerprint 17 text / 256) p) (ltb 0 n)
      (fits_at (last_place n) p) (is_likely text p)
      (λ t. let inside = good_pattern_lem ps p good (ranked-mem r t) in
      ap₂ ◌&&◌ (own_tests text p inside.0) (fits_is p inside.0 inside.1)
      ∙ and_comm (eqb (text_fingerprint (own_length p) text) (pattern_fingerprint (own_length p) p)) (fits text p))

-- ---- as lists of ranks

select_below : (test : ℕ → Bool) (k n : ℕ) → k ≤ n → select (λ r. ltb r k && test r) (tabulate n (λ r. r)) ≡ select test (tabulate k (λ r. r))
unfolding tabulate select
select_below test k zero h = let e : 0 ≡ k = omega arith in ap (λ (m : ℕ). select test (tabulate m (λ r. r))) e
select_below test k (suc n) h = go (dec_lt n k) (select_below test k n)
  where
    go : Dec (n < k) → (k ≤ n → select (λ r. ltb r k && test r) (tabulate n (λ r. r)) ≡ select test (tabulate k (λ r. r)))
        → select (λ r. ltb r k && test r) (tabulate (suc n) (λ r. r)) ≡ select test (tabulate k (λ r. r))
    go (yes l) ih =
        let e : suc n ≡ k = omega arith in
        select_below_ext (λ r. ltb r k && test r) test (suc n) (λ r m. rw (lt-ltb r k (omega arith)) refl)
        ∙ ap (λ (m : ℕ). select test (tabulate m (λ r. r))) e
    go (no f) ih =
        select-append (λ r. ltb r k && test r) (tabulate n (λ r. r)) (n ∷ [])
        ∙ rw (le-ltb n k (omega arith), append-nil) (ih (omega arith))

-- the members of a set that has the ranks that pass a test
pub bits_ranks : (ps : PatternSet) (m : ℕ) (test : List ℕ → Bool) → length ps ≤ 64 → ((r : ℕ) → r < 64 → bit_at m r ≡ (ltb r (length ps) && test (ranked ps r)))
    → bits m ≡ select (λ r. test (ranked ps r)) (tabulate (length ps) (λ r. r))
bits_ranks ps m test h f = bits_by m (λ r. ltb r (length ps) && test (ranked ps r)) f ∙ select_below (λ r. test (ranked ps r)) (length ps) 64 h

-- their pattern numbers are, in the order of hits, those that pass
pub ranks_order : (ps : PatternSet) (test : List ℕ → Bool) → T (good_set ps)
    → map (λ r. get_or (hit_order ps) r 0) (select (λ r. test (ranked ps r)) (tabulate (length ps) (λ r. r)))
    ≡ select (λ j. test (get_or ps j [])) (hit_order ps)
ranks_order ps test g =
    let at : ℕ → ℕ = λ r. get_or (hit_order ps) r 0 in
    sym (select-map (λ j. test (get_or ps j [])) at (tabulate (length ps) (λ r. r)))
    ∙ ap (select (λ j. test (get_or ps j [])))
    (map-tabulate at (length ps) (λ r. r) ∙ ap (λ (n : ℕ). tabulate n at) (sym (length-hit_order ps g)) ∙ tabulate-get_or 0 (hit_order ps))
