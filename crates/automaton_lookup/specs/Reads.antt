-- Where the words of an automaton lie that a view over its array reads.
use Rattle.std.specs.Prelude.{◌≡◌, ◌+◌, ◌-◌, ◌*◌, ◌≤◌, ◌<◌}
use Rattle.lists.specs.Prelude.{List, ℕ, length, get_or}
use Rattle.pattern_set.specs.PatternSet.{patterns_of}
use Rattle.automaton_model.specs.Automaton.{nodes, order, shared_at, record_of, entry_of}

-- place i of the order of k patterns at i, what it shares at k + i, the number of nodes at 2 k, and
-- of the nodes below m word f of the record of node n at 2 k + 1 + 16 n + f, and before it, where n
-- is not the root, entry x of its row at 2 k + 16 n + x - 7
pub record Reads (set automaton : List ℕ) (k m : ℕ) : Type 0 where
  pub room : 2 * k + 1 + (16 * m - 8) ≤ length automaton
  pub order : (i : ℕ) → i < k → get_or automaton i 0 ≡ get_or (order (patterns_of set)) i 0
  pub shared : (i : ℕ) → i < k → get_or automaton (k + i) 0 ≡ shared_at (patterns_of set) i
  pub count : get_or automaton (2 * k) 0 ≡ length (nodes (patterns_of set))
  pub field : (n f : ℕ) → n < m → f < 8 → get_or automaton (2 * k + 1 + 16 * n + f) 0 ≡ get_or (record_of (patterns_of set) n) f 0
  pub row : (n x : ℕ) → 0 < n → n < m → x < 8 → get_or automaton (2 * k + 16 * n + x - 7) 0 ≡ entry_of (patterns_of set) n x
