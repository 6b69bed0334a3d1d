-- WHAT A LOOK INTO THE TABLES FINDS at a place, for as many samples as there are behind the last
-- gap: by the fingerprint of b values the candidates, by the fingerprint of 17 values the likely
-- patterns.
use Rattle.std.specs.Prelude.{◌≡◌, ◌&&◌, ◌-◌, ◌/◌, ◌%◌, ◌≤◌, ◌<◌}
use Rattle.lists.proofs.Prelude.{◌∙◌, ap, sym, refl, subst, ap₂, Bool, true, false, List, [], ℕ, suc, min, ℤ}
use Rattle.lists.proofs.Prelude.{T, eqb, ltb, length, get_or, take, arith, lt-ltb, ltb-true}
use Rattle.lists.proofs.Tests.{and-false, and_split, and_join, test_ext}
use Rattle.lists.proofs.Members.{get_or-mem}
use Rattle.bit_sets.specs.BitSets.{bit_at}
use Rattle.bit_sets.proofs.Digits.{bit_at_none}
use Rattle.pattern_set.specs.PatternSet.{PatternSet, good_set}
use Rattle.matching.specs.Matching.{shortest, fits, is_candidate}
use Rattle.filter_plan.specs.Plan.{hit_order, text_fingerprint, pattern_fingerprint, own_length, is_likely}
use Rattle.filter_plan.proofs.Fingerprints.{text_fingerprint_bytes}
use Rattle.filter_plan.proofs.HitOrder.{good_number, hit_order-lt, length-hit_order}
use Rattle.filter_plan.proofs.Checks.{shortest_bound, shortest_positive, shortest_own, likely_candidate}
use Rattle.filter_tables.specs.Tables.{ranked, TableOf, set_low, set_high, own_low, own_high, fits_at}
use Rattle.filter_tables.proofs.Lookup.{own_tests, candidate_bit, own_bit}
use Rattle.filter_windows.specs.Looks.{Since, Alike, is_within, Fitting, Looked, SetOf, SetTables, OwnTables}
use Rattle.filter_windows.proofs.Samples.{samples_fit}

-- the fingerprint of 17 values has two bytes
pub own_fingerprint_lt : (text : List ℤ) → text_fingerprint 17 text < 65536
own_fingerprint_lt text = text_fingerprint_bytes 17 text (omega arith) (omega arith)

-- what is in the set and in the entry of the last of n samples
pub Fitting-some : (fits : List ℕ) (n all set : ℕ) → 0 < n → ((r : ℕ) → r < 64 → bit_at set r ≡ (bit_at all r && bit_at (get_or fits (min 255 (n - 1)) 0) r))
    → Fitting fits n all set
Fitting-some fits n all set h f r k = rw (lt-ltb 0 n h) (f r k)

-- no sample, no window
pub Fitting-none : (fits : List ℕ) (n all : ℕ) → n ≡ 0 → Fitting fits n all 0
Fitting-none fits n all e r h = rw e (bit_at_none r ∙ sym (and-false (bit_at all r)))

-- first by the fingerprint, then by the samples
module _ (lowbyte highbyte fits : List ℕ) (fingerprint n alike : ℕ) (by-fingerprint : Alike lowbyte highbyte fingerprint alike) where
  pub Looked-Fitting : (set : ℕ) → Fitting fits n alike set → Looked lowbyte highbyte fits fingerprint n set
  Looked-Fitting set f r h = f r h ∙ ap (λ (b : Bool). b && is_within fits n r) (by-fingerprint r h)

  -- where no pattern has the fingerprint
  pub Looked-none : alike ≡ 0 → Looked lowbyte highbyte fits fingerprint n 0
  Looked-none e r h =
      let none = sym (by-fingerprint r h) ∙ ap (λ (m : ℕ). bit_at m r) e ∙ bit_at_none r in
      bit_at_none r ∙ sym (ap (λ (b : Bool). b && is_within fits n r) none)

-- the set fingerprint is of 1 to 17 values
pub set_fingerprint_length : (ps : PatternSet) (b : ℕ) → T (good_set ps) → b ≡ shortest 17 ps → (1 ≤ b) × (b ≤ 17)
set_fingerprint_length ps b g e = (omega (arith, shortest_positive 17 ps g (omega arith)), omega (arith, shortest_bound 17 ps))

-- at place p, where the samples up to it begin at `begin`, so that there are n
module _ (ps : PatternSet) (text : List ℤ) (p begin n : ℕ) (good : T (good_set ps)) (lt : p < length text) (since : Since text (suc p) begin)
    (n≡ : n ≡ suc p - begin) (lowbyte highbyte fits : List ℕ) where
  -- the text up to place p
  abbrev front : List ℤ
  front = take (suc p) text

  -- A LOOK WITH THE SET FINGERPRINT finds the candidates
  pub Looked-candidates : (fingerprint b set : ℕ) → SetTables ps lowbyte highbyte fits → b ≡ shortest 17 ps → fingerprint ≡ text_fingerprint b front
      → Looked lowbyte highbyte fits fingerprint n set → SetOf ps (is_candidate (shortest 17 ps) front) set
  Looked-candidates fingerprint b set k e f looked r h =
      let m = shortest 17 ps in
      let same : fingerprint ≡ text_fingerprint m front = f ∙ ap (λ (n : ℕ). text_fingerprint n front) e in
      subst (λ (k : ℕ). Looked lowbyte highbyte fits k n set) same looked r h
      ∙ candidate_bit ps front good n (samples_fit text p begin n lt since n≡) m refl lowbyte highbyte fits k.by_low k.by_high k.by_place r h

  -- A LOOK WITH THE FINGERPRINT OF 17 VALUES finds the likely patterns
  pub Looked-likely : (own set : ℕ) → OwnTables ps lowbyte highbyte fits → own ≡ text_fingerprint 17 front
      → Looked lowbyte highbyte fits own n set → SetOf ps (is_likely front) set
  Looked-likely own set k o looked r h =
      subst (λ (k : ℕ). Looked lowbyte highbyte fits k n set) o looked r h
      ∙ own_bit ps front good n (samples_fit text p begin n lt since n≡) lowbyte highbyte fits k.by_low k.by_high k.by_place r h

-- the tables of a fingerprint of b values, where b is the length of the set fingerprint
pub set-tables : (ps : PatternSet) (b : ℕ) (lowbyte highbyte fits : List ℕ) → b ≡ shortest 17 ps → TableOf ps (set_low b) lowbyte
    → TableOf ps (set_high b) highbyte → TableOf ps fits_at fits → SetTables ps lowbyte highbyte fits
set-tables ps b lowbyte highbyte fits e l h f = record {
  by_low = subst (λ (m : ℕ). TableOf ps (set_low m) lowbyte) e l;
  by_high = subst (λ (m : ℕ). TableOf ps (set_high m) highbyte) e h;
  by_place = f;
}

-- THE LIKELY PATTERNS AMONG THE CANDIDATES: those that have the fingerprint of 17 values, as far as
-- their own is of them
pub among_likely : (ps : PatternSet) (text : List ℤ) (lowbyte highbyte : List ℕ) (own alike here set : ℕ) → T (good_set ps) → TableOf ps own_low lowbyte
    → TableOf ps own_high highbyte → own ≡ text_fingerprint 17 text → Alike lowbyte highbyte own alike
    → SetOf ps (is_candidate (shortest 17 ps) text) here → ((r : ℕ) → r < 64 → bit_at set r ≡ (bit_at alike r && bit_at here r)) → SetOf ps (is_likely text) set
unfolding is_candidate is_likely
among_likely ps text lowbyte highbyte own alike here set g low high o a c f r h =
    let small : own < 65536 = omega (arith, o, own_fingerprint_lt text) in
    f r h
    ∙ ap₂ (λ (x y : Bool). x && y)
    (a r h ∙ ap₂ (λ (x y : Bool). x && y) (low (own % 256) (omega arith) r h) (high (own / 256) (omega (arith, small)) r h)) (c r h)
    ∙ go (ltb r (length ps)) refl
  where
    p : List ℕ
    p = ranked ps r

    go : (k : Bool) → ltb r (length ps) ≡ k
        → (((k && own_low (own % 256) p) && (k && own_high (own / 256) p)) && (k && is_candidate (shortest 17 ps) text p)) ≡ (k && is_likely text p)
    go false e = refl
    go true e =
        let n = hit_order-lt ps r (omega (arith, length-hit_order ps g, ltb-true r (length ps) e)) in
        let m = get_or-mem ps (get_or (hit_order ps) r 0) [] n in
        let same : (own_low (own % 256) p && own_high (own / 256) p) ≡ eqb (text_fingerprint (own_length p) text) (pattern_fingerprint (own_length p) p) =
        ap (λ (x : ℕ). own_low (x % 256) p && own_high (x / 256) p) o ∙ own_tests text p (good_number ps (get_or (hit_order ps) r 0) g n).0 in
        let E = eqb (text_fingerprint (own_length p) text) (pattern_fingerprint (own_length p) p) in
        let S = eqb (text_fingerprint (shortest 17 ps) text) (pattern_fingerprint (shortest 17 ps) p) in
        ap (λ (x : Bool). x && is_candidate (shortest 17 ps) text p) same
        ∙ test_ext (E && is_candidate (shortest 17 ps) text p) (is_likely text p)
        (λ t. let s = and_split E (is_candidate (shortest 17 ps) text p) t in and_join (fits text p) E (and_split (fits text p) S s.1).0 s.0)
        (λ t. and_join E (is_candidate (shortest 17 ps) text p) (and_split (fits text p) E t).1
        (likely_candidate (shortest 17 ps) text p (shortest_positive 17 ps g (omega arith)) (shortest_own ps p m) t))
