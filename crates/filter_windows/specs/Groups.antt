-- Groups of equal patterns in a set of ranks, and the first of them that has a hit. A set of
-- patterns is a u64: bit r stands for the pattern of rank r in the order of hits.
use Rattle.std.specs.Prelude.{◌≡◌, ◌<◌}
use Rattle.lists.specs.Prelude.{false, List, ℕ, T, ℤ, length}
use Rattle.bit_sets.specs.BitSets.{bit_at}
use Rattle.pattern_set.specs.PatternSet.{PatternSet}
use Rattle.filter_plan.specs.Plan.{is_likely, is_hit}
use Rattle.filter_tables.specs.Tables.{ranked}

-- the set has likely patterns only, and with one all that equal it
abbrev pub LikelyGroups : PatternSet → List ℤ → ℕ → Type 0
LikelyGroups ps text set =
    (r : ℕ) → r < 64 → T (bit_at set r)
    → (r < length ps) × T (is_likely text (ranked ps r)) × ((s : ℕ) → s < 64 → s < length ps → ranked ps s ≡ ranked ps r → T (bit_at set s))

-- no pattern of the set has a hit
abbrev pub NoneHit : PatternSet → List ℤ → ℕ → Type 0
NoneHit ps text set = (r : ℕ) → r < 64 → T (bit_at set r) → is_hit text (ranked ps r) ≡ false

-- of the patterns left the members have a hit, and what is neither a member nor in the rest has
-- none
pub record HitGroup (ps : PatternSet) (text : List ℤ) (left members n rest : ℕ) : Type 0 where
  -- the members were left, have a hit, and have n values each
  pub hit : (r : ℕ) → r < 64 → T (bit_at members r) → T (bit_at left r) × T (is_hit text (ranked ps r)) × (length (ranked ps r) ≡ n)
  -- the rest was left and comes behind the members
  pub behind : (r : ℕ) → r < 64 → T (bit_at rest r) → T (bit_at left r) × ((s : ℕ) → s < 64 → T (bit_at members s) → s < r)
  -- what else was left has no hit
  pub gone : (r : ℕ) → r < 64 → T (bit_at left r) → bit_at members r ≡ false → bit_at rest r ≡ false → is_hit text (ranked ps r) ≡ false
  -- with a pattern all that equal it are in the rest
  pub groups : LikelyGroups ps text rest
  -- the rest is less
  pub less : rest < left
