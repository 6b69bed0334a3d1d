-- What is known of the words that hold a set of patterns.
use Rattle.std.specs.Prelude.{◌≡◌, ◌+◌, ◌-◌, ◌<◌, ◌≤◌}
use Rattle.lists.specs.Prelude.{[], List, T, drop, flatten, get_or, length, take, ℕ}
use Rattle.pattern_set.specs.PatternSet.{IsSet, PatternSet, good_pattern}

-- the word behind the patterns before pattern j
abbrev pub start_of : PatternSet → ℕ → ℕ
start_of ps j = 3 + length ps + length (flatten (take j ps))

-- they begin with the number of patterns, where each begins, and their distances
pub record Holds (ws : List ℕ) (ps : PatternSet) : Type 0 where
  pub good : IsSet ws
  pub few : length ps ≤ 64
  pub small : length (flatten ps) ≤ 4096
  pub fits : 3 + length ps + length (flatten ps) ≤ length ws
  pub count : get_or ws 0 0 ≡ length ps
  pub total : get_or ws 1 0 ≡ length (flatten ps)
  pub offset : (j : ℕ) → j ≤ length ps → get_or ws (2 + j) 0 ≡ length (flatten (take j ps))
  pub within : (j : ℕ) → length (flatten (take j ps)) ≤ length (flatten ps)
  pub rises : (j : ℕ) → j < length ps → length (flatten (take j ps)) ≤ length (flatten (take (j + 1) ps))
  pub part : (j : ℕ) → j < length ps → take (start_of ps (j + 1) - start_of ps j) (drop (start_of ps j) ws) ≡ get_or ps j []
  pub each : (j : ℕ) → j < length ps → T (good_pattern (get_or ps j []))
