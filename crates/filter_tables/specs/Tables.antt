-- What the tables of a filter search hold. A set of patterns is a u64: bit r stands for the pattern
-- of rank r in the order of hits.
use Rattle.std.specs.Prelude.{◌≡◌, ◌&&◌, ◌-◌, ◌/◌, ◌%◌, ◌^◌, ◌<◌}
use Rattle.lists.specs.Prelude.{Bool, List, [], ℕ, suc, min, eqb, leb, ltb, length, get_or}
use Rattle.bit_sets.specs.BitSets.{bit_at}
use Rattle.pattern_set.specs.PatternSet.{PatternSet}
use Rattle.filter_plan.specs.Plan.{hit_order, pattern_fingerprint, own_length}

-- the pattern of rank r
abbrev pub ranked : PatternSet → ℕ → List ℕ
ranked ps r = get_or ps (get_or (hit_order ps) r 0) []

-- at each v below 256 the table has the set of the patterns that pass the test
abbrev pub TableOf : PatternSet → (ℕ → List ℕ → Bool) → List ℕ → Type 0
TableOf ps test table = (v : ℕ) → v < 256 → (r : ℕ) → r < 64 → bit_at (get_or table v 0) r ≡ (ltb r (length ps) && test v (ranked ps r))

-- by the lower and by the high byte of the fingerprint of the last b values
abbrev pub set_low : ℕ → ℕ → List ℕ → Bool
set_low b v p = eqb (pattern_fingerprint b p % 256) v

abbrev pub set_high : ℕ → ℕ → List ℕ → Bool
set_high b v p = eqb (pattern_fingerprint b p / 256) v

-- by the lower and by the high byte of the text's fingerprint of 17 values, of which a pattern
-- compares as many bits as its own has
abbrev pub own_low : ℕ → List ℕ → Bool
own_low v p = eqb (v % 2 ^ min 8 (own_length p - 1)) (pattern_fingerprint (own_length p) p % 256)

abbrev pub own_high : ℕ → List ℕ → Bool
own_high v p = eqb (v % 2 ^ (own_length p - 1 - 8)) (pattern_fingerprint (own_length p) p / 256)

-- by the last place: the pattern's window lies within the text
abbrev pub fits_at : ℕ → List ℕ → Bool
fits_at v p = leb (length p) (suc v)

-- the numbers of the patterns by rank
abbrev pub Ranks : PatternSet → List ℕ → Type 0
Ranks ps numbers = (r : ℕ) → r < length ps → get_or numbers r 0 ≡ get_or (hit_order ps) r 0
