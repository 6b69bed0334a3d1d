-- An array with the first records of an automaton, and the child of a label.
use Rattle.std.specs.Prelude.{◌≡◌, ◌∷◌, ◌++◌, ◌+◌, ◌-◌, ◌*◌, ◌≤◌, ◌<◌}
use Rattle.lists.specs.Prelude.{cond, List, [], ℕ, length, take}
use Rattle.pattern_set.specs.PatternSet.{PatternSet, patterns_of, IsSet}
use Rattle.matching.specs.Matching.{is_head}
use Rattle.automaton_model.specs.Automaton.{nodes, head_of, node_of, automaton_words}

-- the array `automaton` has the words of the automaton of the k patterns of the set array `set`, up
-- to the record of node m - 1, and room for all
pub record Made (set automaton : List ℕ) (k m : ℕ) : Type 0 where
  -- a set array, of k patterns and not of none
  pub is_set : IsSet set
  pub patterns : k ≡ length (patterns_of set)
  pub filled : 0 < length (patterns_of set)
  -- m of the nodes
  pub within : m ≤ length (nodes (patterns_of set))
  pub begun : take (2 * k + 1 + (16 * m - 8)) automaton ≡ take (2 * k + 1 + (16 * m - 8)) (automaton_words (patterns_of set))
  pub room : length (automaton_words (patterns_of set)) ≤ length automaton

-- all of them: the automaton of count nodes
pub record Whole (set automaton : List ℕ) (k count : ℕ) : Type 0 where
  pub made : Made set automaton k count
  pub nodes : count ≡ length (nodes (patterns_of set))

-- the child of label v of node n; 0, the root, which is no child, where there is none
unfoldable pub child_of : PatternSet → ℕ → ℕ → ℕ
child_of ps n v = cond (is_head ps (head_of ps n ++ (v ∷ []))) (node_of ps (head_of ps n ++ (v ∷ []))) 0
