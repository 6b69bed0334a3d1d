-- Equal patterns. A set of patterns is a u64: bit r stands for the pattern of rank r in the order
-- of hits.
use Rattle.std.specs.Prelude.{◌≡◌, ◌&&◌, ◌<◌}
use Rattle.lists.specs.Prelude.{List, same, ℕ, leb, ltb, length, get_or}
use Rattle.bit_sets.specs.BitSets.{bit_at}
use Rattle.pattern_set.specs.PatternSet.{PatternSet}
use Rattle.filter_tables.specs.Tables.{ranked}

-- the set has the ranks whose pattern has the same distances as that of rank r
abbrev pub EqualTo : PatternSet → ℕ → ℕ → Type 0
EqualTo ps r set = (s : ℕ) → s < 64 → bit_at set s ≡ (ltb s (length ps) && same (ranked ps r) (ranked ps s))

-- at each rank the table has the set of the ranks whose pattern has the same distances
abbrev pub EqualRanks : PatternSet → List ℕ → Type 0
EqualRanks ps table = (r : ℕ) → r < length ps → EqualTo ps r (get_or table r 0)

-- the set has, of the ranks from r on that are below n, those whose pattern has the same distances
-- as that of rank r
abbrev pub EqualFrom : PatternSet → ℕ → ℕ → ℕ → Type 0
EqualFrom ps r n set = (s : ℕ) → s < 64 → bit_at set s ≡ ((leb r s && ltb s n) && same (ranked ps r) (ranked ps s))
