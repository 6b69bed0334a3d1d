-- WHERE THE SAMPLES BEHIND THE LAST GAP BEGIN: a sample behind them keeps it, a gap moves it behind
-- itself; and the windows that fit at a place are those that begin no earlier.
use Rattle.std.specs.Prelude.{◌≡◌, ◌&&◌, ◌||◌, ◌∷◌, ◌++◌, ◌+◌, ◌-◌, ◌≤◌, ◌<◌}
use lib.Dec.{leb-suc-suc}
use Rattle.lists.proofs.Prelude.{◌∙◌, ap, sym, refl, ap₂, Bool, true, false, not, List, [], ℕ, zero, suc, ℤ}
use Rattle.lists.proofs.Prelude.{pos, leb, length, get_or, take, length-take-le, take-suc, dec_lt, arith, le-leb, lt-leb, any, last_of}
use Rattle.lists.proofs.Tests.{and-false, or-false}
use Rattle.lists.proofs.Parts.{last_of-zero, last_of_snoc}
use Rattle.gaps.specs.Gaps.{is_gap, holds_gap}
use Rattle.gaps.proofs.Laws.{holds_gap_snoc, snoc_gap}
use Rattle.matching.specs.Matching.{fits}
use Rattle.filter_windows.specs.Looks.{Since}

-- the last m of the first n values lie within them and hold no gap
abbrev whole : List ℤ → ℕ → ℕ → Bool
whole text n m = leb m n && not (holds_gap (last_of m (take n text)))

-- where the samples begin, as far as windows of at most w values can tell
abbrev pub Within : ℕ → List ℤ → ℕ → ℕ → Type 0
Within w text n begin = (begin ≤ n) × ((m : ℕ) → m ≤ w → whole text n m ≡ leb m (n - begin))

whole_none : (text : List ℤ) (n k : ℕ) → whole text n 0 ≡ leb 0 k
unfolding any
whole_none text n k = rw (le-leb 0 n (omega arith), last_of-zero (take n text)) (sym (le-leb 0 k (omega arith)))

module _ (text : List ℤ) (p : ℕ) (lt : p < length text) where
  -- one value more
  last_more : (m : ℕ) → m ≤ p → last_of (suc m) (take (suc p) text) ≡ last_of m (take p text) ++ (get_or text p (pos 0) ∷ [])
  last_more m h =
      let l = length-take-le p text (omega arith) in
      ap (last_of (suc m)) (take-suc text p (pos 0) lt) ∙ last_of_snoc m (take p text) (get_or text p (pos 0)) (omega arith)

  -- a sample
  pub Within-sample : (w begin : ℕ) → is_gap (get_or text p (pos 0)) ≡ false → Within w text p begin → Within (suc w) text (suc p) begin
  Within-sample w begin g s = (let h = s.0 in omega arith, go)
    where
      more : (m : ℕ) → m ≤ w → Dec (p < m) → whole text (suc p) (suc m) ≡ leb (suc m) (suc p - begin)
      more m h (yes l) = rw (lt-leb (suc m) (suc p) (omega arith)) (sym (lt-leb (suc m) (suc p - begin) (omega arith)))
      more m h (no f) =
          let old = last_of m (take p text) in
          let e : suc p - begin ≡ suc (p - begin) = let b = s.0 in omega arith in
          ap₂ (λ (x y : Bool). x && not y) (leb-suc-suc m p)
          (ap holds_gap (last_more m (omega arith))
          ∙ holds_gap_snoc old (get_or text p (pos 0))
          ∙ ap (λ (b : Bool). holds_gap old || b) g
          ∙ or-false (holds_gap old))
          ∙ s.1 m h
          ∙ sym (ap (leb (suc m)) e ∙ leb-suc-suc m (p - begin))

      go : (m : ℕ) → m ≤ suc w → whole text (suc p) m ≡ leb m (suc p - begin)
      go zero h = whole_none text (suc p) (suc p - begin)
      go (suc m) h = more m (omega arith) (dec_lt p m)

  -- a gap
  pub Within-gap : (w : ℕ) → is_gap (get_or text p (pos 0)) ≡ true → Within w text (suc p) (suc p)
  Within-gap w g = (omega arith, go)
    where
      none : (m : ℕ) → Dec (p < m) → whole text (suc p) (suc m) ≡ false
      none m (yes l) = rw (lt-leb (suc m) (suc p) (omega arith)) refl
      none m (no f) =
          rw (last_more m (omega arith), snoc_gap (last_of m (take p text)) (get_or text p (pos 0)) g) (and-false (leb (suc m) (suc p)))

      go : (m : ℕ) → m ≤ w → whole text (suc p) m ≡ leb m (suc p - suc p)
      go zero h = whole_none text (suc p) (suc p - suc p)
      go (suc m) h = none m (dec_lt p m) ∙ sym (lt-leb (suc m) (suc p - suc p) (omega arith))

-- ---- from place to place

pub Since-start : (text : List ℤ) → Since text 0 0
Since-start text = (omega arith, go)
  where
    go : (m : ℕ) → m ≤ 256 → whole text 0 m ≡ leb m (0 - 0)
    go zero h = whole_none text 0 (0 - 0)
    go (suc m) h = rw (lt-leb (suc m) 0 (omega arith)) refl

pub Since-same : (text : List ℤ) (n begin n' begin' : ℕ) → n ≡ n' → begin ≡ begin' → Since text n' begin' → Since text n begin
Since-same text n begin n' begin' e f s = rw (e, f) s

pub Since-sample : (text : List ℤ) (p begin : ℕ) → p < length text → is_gap (get_or text p (pos 0)) ≡ false → Since text p begin → Since text (suc p) begin
Since-sample text p begin lt g s =
    let n = Within-sample text p lt 256 begin g s in
    (n.0, λ m h. n.1 m (omega arith))

pub Since-gap : (text : List ℤ) (p next : ℕ) → p < length text → is_gap (get_or text p (pos 0)) ≡ true → next ≡ suc p → Since text (suc p) next
Since-gap text p next lt g e = rw e (Within-gap text p lt 256 g)

-- ---- back from a place

-- the values from p to the place first are samples: what windows before p tell, they tell before it
abbrev pub Samples : List ℤ → ℕ → ℕ → Type 0
Samples text p first = (w begin : ℕ) → Within w text p begin → Within (w + (first - p)) text first begin

pub Samples-none : (text : List ℤ) (first : ℕ) → Samples text first first
Samples-none text first w begin s = (s.0, λ m h. s.1 m (omega arith))

module _ (text : List ℤ) (p first : ℕ) (le : p ≤ first) (lt : first ≤ length text) (behind : Samples text p first) where
  pub Samples-more : 0 < p → is_gap (get_or text (p - 1) (pos 0)) ≡ false → Samples text (p - 1) first
  Samples-more h g w begin s =
      let e : suc (p - 1) ≡ p = omega arith in
      let next : Within (suc w) text p begin = rw (sym e) (Within-sample text (p - 1) (omega arith) w begin g s) in
      let all = behind (suc w) begin next in
      (all.0, λ m k. all.1 m (omega arith))

  -- a gap before p
  pub samples_gap : 0 < p → is_gap (get_or text (p - 1) (pos 0)) ≡ true → Since text first p
  samples_gap h g =
      let e : suc (p - 1) ≡ p = omega arith in
      let all = behind 256 p (rw (sym e) (Within-gap text (p - 1) (omega arith) 256 g)) in
      (all.0, λ m k. all.1 m (omega arith))

  -- p is 256 places back or more
  pub samples_full : 256 ≤ first - p → Since text first p
  samples_full h =
      let all = behind 0 p (omega arith, λ m k. let z : m ≡ 0 = omega arith in rw z (whole_none text p (p - p))) in
      (all.0, λ m k. all.1 m (omega arith))

  -- p is the place before which it is known
  pub samples_known : (done begin : ℕ) → p ≡ done → Since text done begin → Since text first begin
  samples_known done begin e s =
      let all = behind 256 begin (rw e s) in
      (all.0, λ m k. all.1 m (omega arith))

-- ---- windows

-- at place p, up to which there are n samples, the windows that fit are those of at most n values
pub samples_fit : (text : List ℤ) (p begin n : ℕ) → p < length text → Since text (suc p) begin → n ≡ suc p - begin
    → (q : List ℕ) → length q ≤ 256 → fits (take (suc p) text) q ≡ leb (length q) n
samples_fit text p begin n lt s e q h =
    ap (λ (l : ℕ). leb (length q) l && not (holds_gap (last_of (length q) (take (suc p) text)))) (length-take-le (suc p) text lt)
    ∙ s.1 (length q) h
    ∙ ap (leb (length q)) (sym e)
