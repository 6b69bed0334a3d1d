-- A PASS OVER THE TEXT, PLACE BY PLACE: the fingerprint, the place where the samples begin and the
-- count that every pass keeps. The patterns that a look with the set fingerprint finds at a
-- place are its candidates.
use Rattle.std.specs.Prelude.{◌≡◌, ◌+◌, ◌-◌, ◌*◌, ◌^◌, ◌≤◌, ◌<◌}
use Rattle.lists.proofs.Prelude.{◌∙◌, ap, sym, refl, subst, List, ℕ, suc, ℤ, T, length, take}
use Rattle.lists.proofs.Prelude.{zero, zero-mod, add-one, dec_lt, arith}
use Rattle.bit_sets.specs.BitSets.{bits}
use Rattle.bit_sets.proofs.Laws.{bits-zero}
use Rattle.pattern_set.specs.PatternSet.{PatternSet, good_set}
use Rattle.matching.specs.Matching.{shortest, is_candidate, candidates}
use Rattle.filter_plan.specs.Plan.{text_fingerprint}
use Rattle.filter_windows.specs.Looks.{SetOf}
use Rattle.filter_windows.proofs.Rolling.{new_bit_first, fingerprint_none, fingerprint_rolled}
use Rattle.filter_windows.proofs.Samples.{Since-start}
use Rattle.filter_passes.specs.Passes.{candidates_below, rest_hits, Stands, NoneFrom}
use Rattle.filter_passes.proofs.Places.{candidates_next, candidates_none, candidates_all, bits_le, no_candidate_hit}
use Rattle.filter_passes.proofs.Lists.{rest_none}

-- ---- places without candidates

pub none_on : (ps : PatternSet) (text : List ℤ) (p q n : ℕ) → NoneFrom ps text p q → NoneFrom ps text q n → NoneFrom ps text p n
none_on ps text p q n before behind i h k = go (dec_lt i q)
  where
    go : Dec (i < q) → SetOf ps (is_candidate (shortest 17 ps) (take (suc i) text)) 0
    go (yes l) = before i h l
    go (no f) = behind i (omega arith) k

pub none_more : (ps : PatternSet) (text : List ℤ) (p q : ℕ) → NoneFrom ps text p q → SetOf ps (is_candidate (shortest 17 ps) (take (suc q) text)) 0
    → NoneFrom ps text p (q + 1)
none_more ps text p q before here =
    none_on ps text p q (q + 1) before
    (λ i h k. subst (λ (n : ℕ). SetOf ps (is_candidate (shortest 17 ps) (take (suc n) text)) 0) (let e : q ≡ i = omega arith in e) here)

-- what holds of p, and of each place behind one that it holds of and that has no candidates
pub skip : (ps : PatternSet) (text : List ℤ) (p q : ℕ) (P : ℕ → Type 0) → p ≤ q → NoneFrom ps text p q
    → ((i : ℕ) → i < q → SetOf ps (is_candidate (shortest 17 ps) (take (suc i) text)) 0 → P i → P (i + 1)) → P p → P q
skip ps text p q P h none step here =
    let e : p + (q - p) ≡ q = omega arith in
    subst P e (go (q - p) (omega arith))
  where
    go : (d : ℕ) → p + d ≤ q → P (p + d)
    go zero k = let e : p ≡ p + 0 = omega arith in subst P e here
    go (suc d) k =
        let e : p + d + 1 ≡ p + suc d = omega arith in
        subst P e (step (p + d) (omega arith) (none (p + d) (omega arith) (omega arith)) (go d (omega arith)))

-- they have no hit either
pub rest_skip : (ps : PatternSet) (text : List ℤ) (p q : ℕ) → T (good_set ps) → p ≤ q → q ≤ length text → NoneFrom ps text p q
    → rest_hits ps text p ≡ rest_hits ps text q
rest_skip ps text p q good h k none =
    skip ps text p q (λ (i : ℕ). rest_hits ps text p ≡ rest_hits ps text i) h none
    (λ i l s e. e ∙ rest_none ps text i (omega (arith, l, k)) (no_candidate_hit ps text i good s)) refl

-- a pass that stands before place p has counted so many candidates
pub record Scan (ps : PatternSet) (text : List ℤ) (p count : ℕ) : Type 0 where
  -- the candidates with a last place before p
  pub counted : count ≡ candidates_below ps text p
  -- each place has at most 64
  pub bound : count ≤ 64 * p

-- the fingerprint at the first place is 0
first : (m : ℕ) (text : List ℤ) → 1 ≤ m → 0 < length text → 0 ≡ text_fingerprint m (take 1 text)
first m text h l =
    fingerprint_rolled m text 0 0 0 0 h l (fingerprint_none m text) (new_bit_first text 0 refl) (sym (zero-mod (2 ^ (m - 1))))

pub Stands-start : (text : List ℤ) → Stands text 0 0 0
Stands-start text = (omega arith, (λ l. first 17 text (omega arith) l), Since-start text)

pub Scan-start : (ps : PatternSet) (text : List ℤ) → Scan ps text 0 0
Scan-start ps text = record { counted = candidates_none ps text; bound = omega arith }

module _ (ps : PatternSet) (text : List ℤ) (p count : ℕ) (good : T (good_set ps)) (before : Scan ps text p count) where
  -- past places without candidates
  pub Scan-skip : (q : ℕ) → p ≤ q → NoneFrom ps text p q → Scan ps text q count
  Scan-skip q h none = record {
    counted =
        skip ps text p q (λ (i : ℕ). count ≡ candidates_below ps text i) h none
        (λ i k s e. e ∙ same i s ∙ ap (candidates_below ps text) (sym (add-one i)))
        before.counted;
    bound = omega (arith, before.bound, h);
  }
    where
      same : (i : ℕ) → SetOf ps (is_candidate (shortest 17 ps) (take (suc i) text)) 0 → candidates_below ps text i ≡ candidates_below ps text (suc i)
      same i s = omega (arith, candidates_next ps text i 0 good s, ap length bits-zero)

  -- past a place with candidates
  pub Scan-next : (here : ℕ) → SetOf ps (is_candidate (shortest 17 ps) (take (suc p) text)) here → Scan ps text (p + 1) (count + length (bits here))
  Scan-next here found = record {
    counted =
        ap (λ (n : ℕ). n + length (bits here)) before.counted
        ∙ sym (candidates_next ps text p here good found)
        ∙ ap (candidates_below ps text) (sym (add-one p));
    bound = omega (arith, before.bound, bits_le here);
  }

  -- past the last place all are counted
  pub scan_end : p ≤ length text → NoneFrom ps text p (length text) → count ≡ candidates ps text
  scan_end h none = (Scan-skip (length text) h none).counted ∙ candidates_all ps text (length text) refl
