-- How large the words of a record are: no number is above that of the nodes, which is at most 4097.
use Rattle.std.specs.Prelude.{◌+◌, ◌≤◌, ◌<◌}
use Rattle.lists.proofs.Prelude.{List, ℕ, length, arith}
use Rattle.pattern_set.specs.PatternSet.{PatternSet, patterns_of, IsSet}
use Rattle.automaton_model.specs.Automaton.{nodes, head_of, ends_at}
use Rattle.automaton_model.proofs.Nodes.{node_head, head_length}
use Rattle.automaton_model.proofs.Lengths.{length-nodes}
use Rattle.automaton_lookup.specs.Places.{first_place, begins_at}
use Rattle.automaton_lookup.proofs.Places.{ends_within, begins_within, begins_at_head}
use Rattle.pattern_set.proofs.IsSet.{set_good}
use Rattle.set_access.proofs.Laws.{count_le, total_le}

-- some pattern begins with the head of a node
pub node_some : (ps : PatternSet) (n : ℕ) → n < length (nodes ps)
    → (0 < begins_at ps (head_of ps n)) × (first_place ps (head_of ps n) + begins_at ps (head_of ps n) ≤ length ps)
node_some ps n h = (begins_at_head ps (head_of ps n) (node_head ps n h).0, begins_within ps (head_of ps n))

module _ (ws : List ℕ) (good : IsSet ws) where
  pub nodes_small : length (nodes (patterns_of ws)) ≤ 4097
  nodes_small = omega (arith, length-nodes (patterns_of ws), total_le ws good)

  pub depth_small : (n : ℕ) → n < length (nodes (patterns_of ws)) → length (head_of (patterns_of ws) n) ≤ 256
  depth_small n h = head_length (patterns_of ws) (set_good ws good) (head_of (patterns_of ws) n) (node_head (patterns_of ws) n h).0

  -- a place, and how many patterns end at a node
  pub places_small : (n : ℕ) → (first_place (patterns_of ws) (head_of (patterns_of ws) n) ≤ 64) × (ends_at (patterns_of ws) (head_of (patterns_of ws) n) ≤ 64)
  places_small n =
      let w = ends_within (patterns_of ws) (head_of (patterns_of ws) n) in
      let c = count_le ws good in
      (omega arith, omega arith)
