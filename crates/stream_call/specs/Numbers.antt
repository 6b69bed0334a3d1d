-- What a step and the values of a call leave in the arrays that a search keeps apart from its
-- numbers, and what they answer.
use Rattle.std.specs.Prelude.{◌≡◌, ◌++◌, ◌+◌, ◌*◌, ◌≤◌, ◌<◌}
use Rattle.lists.specs.Prelude.{List, map, ℕ, ℤ, length, drop}
use Rattle.pattern_set.specs.PatternSet.{PatternSet}
use Rattle.matching.specs.Matching.{hit_words}
use Rattle.matching.specs.Rise.{rise}
use Rattle.automaton_model.specs.Automaton.{nodes}
use Rattle.search_model.specs.Search.{Position, step, call}
use Rattle.open_minima.specs.Pushes.{AreCounters}
use Rattle.read_value.specs.Read.{position_at}
use Rattle.stream_call.specs.Taken.{IsDone}
use Rattle.stream_call.specs.declared.Moved.{Moved}
use Rattle.stream_call.specs.declared.Taken.{Taken}

-- what the step of x leaves in the lent arrays, and what it answers; place p has the value `at p`
pub record IsStepped (ps : PatternSet) (st : Position) (x : ℤ) (places : List ℕ) (values : List ℤ) (before after : List ℕ) (at : ℕ → ℤ)
    (second left : List ℤ) (r : Moved) : Type 0 where
  pub state : position_at (st.taken + 1) r.node r.first r.next places values ≡ (step ps st x).state
  pub counters : AreCounters (st.taken + 1) r.first r.next
  pub attempts : r.attempts ≡ (step ps st x).attempts
  pub hits : r.hits ≡ length (step ps st x).hits
  pub words : after ≡ hit_words (step ps st x).hits ++ drop (2 * length (step ps st x).hits) before
  pub rises : left ≡ map (rise ps at) (step ps st x).hits ++ drop (length (step ps st x).hits) second

-- what the values of a call leave in the lent arrays, and what they answer
pub record IsTaken (ps : PatternSet) (p : Position) (xs : List ℤ) (before after places : List ℕ) (values : List ℤ) (at : ℕ → ℤ)
    (second left : List ℤ) (r : Taken) : Type 0 where
  pub state : position_at (p.taken + r.counts.taken) r.node r.first r.next places values ≡ (call ps p (length before) xs).state
  pub counters : AreCounters (p.taken + r.counts.taken) r.first r.next
  pub minima : r.next ≤ r.first + 256
  pub node : r.node < length (nodes ps)
  pub within : r.counts.taken ≤ length xs
  pub done : IsDone ps at xs (call ps p (length before) xs) before after second left r.counts
