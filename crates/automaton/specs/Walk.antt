-- A walk over the nodes, by number, each of whose words are made from those before them.
use Rattle.std.specs.Prelude.{◌≡◌, ◌++◌, ◌+◌, ◌-◌, ◌*◌, ◌≤◌, ◌<◌}
use Rattle.lists.specs.Prelude.{false, List, ℕ, Option, None, Some, take, drop, same}
use Rattle.pattern_set.specs.PatternSet.{patterns_of}
use Rattle.automaton_model.specs.Automaton.{first_child, record_of, row_of}
use Rattle.automaton_lookup.specs.Made.{Made}
use Rattle.automaton_lookup.specs.Places.{end_of, ChildNode}
use Rattle.automaton_records.specs.Words.{record_words}
use Rattle.automaton.specs.declared.checking.Wrong.{Wrong}

-- what is carried along at node n: the records of the nodes before it are there, of count in all
pub record Along (set words : List ℕ) (k count parent end n : ℕ) : Type 0 where
  pub made : Made set words k n
  -- n is not the root
  pub positive : 0 < n
  pub part : n ≤ count
  -- a node whose first child is not behind n
  pub first : first_child (patterns_of set) parent ≤ n
  -- the place where the node before n ends
  pub place : 1 < n → end ≡ end_of (patterns_of set) (n - 1)

-- a node whose words are not in the array, with what is made for it
pub record Missing (set words : List ℕ) (k : ℕ) (w : Wrong) : Type 0 where
  pub child : ChildNode (patterns_of set) w.parent w.node
  pub ends : w.end ≡ end_of (patterns_of set) w.node
  pub row : w.row ≡ row_of (patterns_of set) w.node
  pub fields : record_words w.record ≡ record_of (patterns_of set) w.node
  pub differs : same (take 16 (drop (2 * k + 16 * w.node - 7) words)) (w.row ++ record_words w.record) ≡ false

-- where a walk from a node on stops, of count nodes: at none, where the words of all are there, or
-- at the first one whose words are not
abbrev pub StopsAt : (set words : List ℕ) (k count from : ℕ) → Option Wrong → Type 0
StopsAt set words k count from None = Made set words k count
StopsAt set words k count from (Some w) = Made set words k w.node × (from ≤ w.node) × (w.node < count) × Missing set words k w
