-- HITS COUNTED PLACE BY PLACE: with the hits that are still to come, what has been counted is at
-- least as many as there are, and exactly as many where no candidates were trusted.
use Rattle.std.specs.Prelude.{◌≡◌, ◌+◌, ◌*◌, ◌≤◌, ◌<◌}
use Rattle.lists.proofs.Prelude.{◌∙◌, ap, Bool, true, false, not, List, ℕ, ℤ, T, length, length-append, not-true, arith}
use Rattle.pattern_set.specs.PatternSet.{PatternSet, good_set}
use Rattle.matching.specs.Matching.{hits_at, hits}
use Rattle.filter_passes.specs.Passes.{rest_hits, NoneFrom}
use Rattle.filter_passes.proofs.Lists.{hits_step, hits_end, hits_all}
use Rattle.filter_passes.proofs.Scan.{rest_skip}

-- a pass that stands before place p has counted so many hits, and may have trusted candidates
pub record HitsCounted (ps : PatternSet) (text : List ℤ) (p found : ℕ) (trusted : Bool) : Type 0 where
  -- no hit is left out
  pub at_least : length (rest_hits ps text 0) ≤ found + length (rest_hits ps text p)
  -- and none is counted that is not there, if no candidates were trusted
  pub exact : trusted ≡ false → found + length (rest_hits ps text p) ≡ length (rest_hits ps text 0)
  -- each place has at most 64
  pub bound : found ≤ 64 * p

pub HitsCounted-start : (ps : PatternSet) (text : List ℤ) → HitsCounted ps text 0 0 false
HitsCounted-start ps text = record { at_least = omega arith; exact = λ e. omega arith; bound = omega arith }

module _ (ps : PatternSet) (text : List ℤ) (p found : ℕ) (trusted : Bool) (before : HitsCounted ps text p found trusted) where
  -- past places without candidates
  pub HitsCounted-skip : (q : ℕ) → T (good_set ps) → p ≤ q → q ≤ length text → NoneFrom ps text p q → HitsCounted ps text q found trusted
  HitsCounted-skip q good h k none =
      let same = ap length (rest_skip ps text p q good h k none) in record {
        at_least = omega (arith, before.at_least, same);
        exact = λ e. omega (arith, before.exact e, same);
        bound = omega (arith, before.bound, h);
      }

  -- past a place at which so many are counted
  pub HitsCounted-next : (here : ℕ) (trusted' : Bool) → p < length text → (length (hits_at ps text p) ≤ here) × (here ≤ 64)
      → (trusted ≡ false → here ≡ length (hits_at ps text p)) → (trusted' ≡ false → trusted ≡ false) → HitsCounted ps text (p + 1) (found + here) trusted'
  HitsCounted-next here trusted' lt least same kept =
      let split = ap length (hits_step ps text p (length text) lt) ∙ length-append (hits_at ps text p) (rest_hits ps text (p + 1)) in record {
        at_least = omega (arith, before.at_least, split, least.0);
        exact = λ e. omega (arith, before.exact (kept e), split, same (kept e));
        bound = omega (arith, before.bound, least.1);
      }

  -- behind the last place
  module _ (end : length text ≤ p) where
    none : length (rest_hits ps text p) ≡ 0
    none = ap length (hits_end ps text p (length text) end)

    all : length (rest_hits ps text 0) ≡ length (hits ps text)
    all = ap length (hits_all ps text)

    pub hits_counted_least : p ≤ 1048576 → (length (hits ps text) ≤ found) × (found ≤ 67108864)
    hits_counted_least h = (omega (arith, before.at_least, none, all), omega (arith, before.bound, h))

    pub hits_counted_exact : not trusted ≡ true → found ≡ length (hits ps text)
    hits_counted_exact e = omega (arith, before.exact (not-true trusted e), none, all)

-- no place is left that has candidates
pub hits_counted : (ps : PatternSet) (text : List ℤ) (p found : ℕ) (trusted : Bool) → HitsCounted ps text p found trusted → T (good_set ps)
    → p ≤ length text → NoneFrom ps text p (length text) → length text ≤ 1048576
    → (length (hits ps text) ≤ found) × (trusted ≡ false → found ≡ length (hits ps text)) × (found ≤ 67108864)
hits_counted ps text p found trusted before good h none small =
    let n = length text in
    let there = HitsCounted-skip ps text p found trusted before n good h (omega arith) none in
    let least = hits_counted_least ps text n found trusted there (omega arith) small in
    (least.0, (λ e. hits_counted_exact ps text n found trusted there (omega arith) (ap not e)), least.1)
