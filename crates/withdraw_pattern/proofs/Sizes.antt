-- The numbers that a withdrawal goes by: where in a good array the pattern lies and where the set
-- ends, and what follows for the array's length.
use Rattle.std.specs.Prelude.{◌≡◌, ◌+◌, ◌≤◌, ◌<◌}
use Rattle.lists.proofs.Prelude.{List, [], flatten, ℕ, suc, length, get_or, take, arith}
use Rattle.pattern_set.specs.PatternSet.{IsSet, patterns_of}
use Rattle.set_access.proofs.Laws.{count_le, total_le, set_fits, offset_next, offset_le, pattern_le}

-- the array ws has k patterns and n distances; o distances lie before pattern j, which has m
pub record Sizes (ws : List ℕ) (j k n o m : ℕ) : Type 0 where
  pub good : IsSet ws
  pub below : j < length (patterns_of ws)
  pub patterns : k ≡ length (patterns_of ws)
  pub distances : n ≡ length (flatten (patterns_of ws))
  pub begins : o ≡ length (flatten (take j (patterns_of ws)))
  pub long : m ≡ length (get_or (patterns_of ws) j [])

pub record Bounds (words j k n o m : ℕ) : Type 0 where
  pub below : j < k
  pub few : k ≤ 64
  pub short : m ≤ 256
  pub last : o + m ≤ n
  pub small : n ≤ 4096
  pub within : 3 + k + n ≤ words

pub bounds : {ws : List ℕ} {j k n o m : ℕ} → Sizes ws j k n o m → Bounds (length ws) j k n o m
bounds {ws} {j} s =
    let g = s.good in
    record {
      below = omega (arith, s.below, s.patterns);
      few = omega (arith, s.patterns, count_le ws g);
      short = omega (arith, s.long, pattern_le ws g j s.below);
      last = omega (arith, s.begins, s.long, offset_next ws g j s.below, offset_le ws g (suc j), s.distances);
      small = omega (arith, s.distances, total_le ws g);
      within = omega (arith, s.patterns, s.distances, set_fits ws g);
    }
