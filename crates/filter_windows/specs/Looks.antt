-- What a look at a place of a text finds, and what it asks of the tables. A set of patterns is a
-- u64: bit r stands for the pattern of rank r in the order of hits.
use Rattle.std.specs.Prelude.{◌≡◌, ◌&&◌, ◌-◌, ◌/◌, ◌%◌, ◌≤◌, ◌<◌}
use Rattle.lists.specs.Prelude.{Bool, cond, not, List, ℕ, zero, suc, min, leb, ltb, ℤ, pos, le_z, length, get_or, take, last_of}
use Rattle.gaps.specs.Gaps.{holds_gap}
use Rattle.bit_sets.specs.BitSets.{bit_at}
use Rattle.pattern_set.specs.PatternSet.{PatternSet}
use Rattle.matching.specs.Matching.{shortest}
use Rattle.filter_tables.specs.Tables.{ranked, TableOf, set_low, set_high, own_low, own_high, fits_at, Ranks}
use Rattle.filter_checks.specs.Equal.{EqualRanks}
use Rattle.filter_checks.specs.Comparisons.{Comparisons}

-- the bit that place p adds to the fingerprints: 1 where its value is not below the one before it
unfoldable pub new_bit : List ℤ → ℕ → ℕ
new_bit text zero = 0
new_bit text (suc p) = cond (le_z (get_or text p (pos 0)) (get_or text (suc p) (pos 0))) 1 0

-- the set has the patterns that pass the test
abbrev pub SetOf : PatternSet → (List ℕ → Bool) → ℕ → Type 0
SetOf ps test set = (r : ℕ) → r < 64 → bit_at set r ≡ (ltb r (length ps) && test (ranked ps r))

-- the samples behind the last gap among the first n values begin at the place begin, as far as
-- windows of at most 256 values can tell: the last m of the n values hold no gap exactly if they
-- begin no earlier
abbrev pub Since : List ℤ → ℕ → ℕ → Type 0
Since text n begin = (begin ≤ n) × ((m : ℕ) → m ≤ 256 → (leb m n && not (holds_gap (last_of m (take n text)))) ≡ leb m (n - begin))

-- ---- looks into the tables

-- the set has the patterns that two tables have for a fingerprint, by its lower and by its high
-- byte
abbrev pub Alike : List ℕ → List ℕ → ℕ → ℕ → Type 0
Alike lowbyte highbyte fingerprint set =
    (r : ℕ) → r < 64 → bit_at set r ≡ (bit_at (get_or lowbyte (fingerprint % 256) 0) r && bit_at (get_or highbyte (fingerprint / 256) 0) r)

-- does the window of the pattern of rank r lie within the last n values, by the table by last
-- places: by its entry for place n - 1, or for 255 where that is behind it
abbrev pub is_within : List ℕ → ℕ → ℕ → Bool
is_within fits n r = ltb 0 n && bit_at (get_or fits (min 255 (n - 1)) 0) r

-- the second set has those of the first whose windows lie within the last n values
abbrev pub Fitting : List ℕ → ℕ → ℕ → ℕ → Type 0
Fitting fits n all set = (r : ℕ) → r < 64 → bit_at set r ≡ (bit_at all r && is_within fits n r)

-- the set has the patterns that all three tables have
abbrev pub Looked : List ℕ → List ℕ → List ℕ → ℕ → ℕ → ℕ → Type 0
Looked lowbyte highbyte fits fingerprint n set =
    (r : ℕ) → r < 64
    → bit_at set r ≡ (bit_at (get_or lowbyte (fingerprint % 256) 0) r && bit_at (get_or highbyte (fingerprint / 256) 0) r && is_within fits n r)

-- ---- the tables

-- for the candidates: by the fingerprint of the last b values, and by the last place
pub record SetTables (ps : PatternSet) (lowbyte highbyte fits : List ℕ) : Type 0 where
  pub by_low : TableOf ps (set_low (shortest 17 ps)) lowbyte
  pub by_high : TableOf ps (set_high (shortest 17 ps)) highbyte
  pub by_place : TableOf ps fits_at fits

-- for the likely patterns: by the fingerprint of the last 17 values, and by the last place
pub record OwnTables (ps : PatternSet) (lowbyte highbyte fits : List ℕ) : Type 0 where
  pub by_low : TableOf ps own_low lowbyte
  pub by_high : TableOf ps own_high highbyte
  pub by_place : TableOf ps fits_at fits

-- for the check: by rank pattern numbers and equal patterns, and the comparisons of each pattern
pub record CheckTables (ps : PatternSet) (numbers equal checks : List ℕ) : Type 0 where
  pub ranks : Ranks ps numbers
  pub equals : EqualRanks ps equal
  pub comparisons : Comparisons ps checks

-- for the hits: for the likely patterns and for their check
pub record HitTables (ps : PatternSet) (lowbyte highbyte fits numbers equal checks : List ℕ) : Type 0 where
  pub own : OwnTables ps lowbyte highbyte fits
  pub check : CheckTables ps numbers equal checks
