-- What one step over the automaton of a set finds.
use Rattle.std.specs.Prelude.{◌≡◌}
use Rattle.lists.specs.Prelude.{ℕ}
use Rattle.pattern_set.specs.PatternSet.{PatternSet}
use Rattle.automaton_model.specs.Automaton.{head_of, node_of, advance}

-- m is the node that the step of distance d leads to from node n, and a the number of its attempts
pub record Reached (ps : PatternSet) (n d m a : ℕ) : Type 0 where
  pub node : m ≡ node_of ps (advance ps (head_of ps n) d).0
  pub attempts : a ≡ (advance ps (head_of ps n) d).1
