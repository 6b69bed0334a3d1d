-- What a value that is read leaves in the arrays that a search keeps apart, and what it answers.
use Rattle.std.specs.Prelude.{◌≡◌, ◌+◌, ◌<◌}
use Rattle.lists.specs.Prelude.{List, map, ℕ, ℤ, length}
use Rattle.pattern_set.specs.PatternSet.{PatternSet}
use Rattle.automaton_model.specs.Automaton.{nodes, head_of, listed}
use Rattle.search_model.specs.Search.{Position, step}
use Rattle.open_minima.specs.Pushes.{ring_from, AreCounters}
use Rattle.read_value.specs.declared.Read.{Read}

-- the position that the parts make, with the counters of its ring
abbrev pub position_at : ℕ → ℕ → ℕ → ℕ → List ℕ → List ℤ → Position
position_at taken node first next places values = record { taken = taken; node = node; ring = ring_from first next places values }

-- what reading x leaves in the lent arrays, and what it answers; the hits of its step are those of
-- the patterns that are listed at the node
pub record IsRead (ps : PatternSet) (st : Position) (x : ℤ) (places : List ℕ) (values : List ℤ) (r : Read) : Type 0 where
  pub state : position_at (st.taken + 1) r.node r.first r.next places values ≡ (step ps st x).state
  pub counters : AreCounters (st.taken + 1) r.first r.next
  pub attempts : r.attempts ≡ (step ps st x).attempts
  pub node : r.node < length (nodes ps)
  pub hits : (step ps st x).hits ≡ map (λ j. (st.taken, j)) (listed ps (head_of ps r.node))
