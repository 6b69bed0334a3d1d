-- What a step and the values of a call do, from a state and over an automaton, and what the call
-- counts and leaves in the lent arrays.
use Rattle.std.specs.Prelude.{◌≡◌, ◌++◌, ◌*◌}
use Rattle.lists.specs.Prelude.{cond, List, map, ℕ, leb, ℤ, length, drop}
use Rattle.answers.specs.declared.Counts.{Counts}
use Rattle.answers.specs.declared.SearchState.{SearchState}
use Rattle.pattern_set.specs.PatternSet.{PatternSet}
use Rattle.matching.specs.Matching.{hit_words}
use Rattle.matching.specs.Rise.{rise}
use Rattle.search_model.specs.Search.{Position, Stepped, Called, position_of, step, call}
use Rattle.automaton_lookup.specs.declared.Records.{Records}
use Rattle.automaton_lookup.specs.View.{patterns}

-- the step of x, and the call with so many words free
abbrev pub step_at : Records → SearchState → ℤ → Stepped Position
step_at a st x = step (patterns a) (position_of st) x

abbrev pub call_at : Records → SearchState → ℕ → List ℤ → Called Position
call_at a st free xs = call (patterns a) (position_of st) free xs

-- what the call c of the values xs counts, and leaves in the hit array and the second array; place
-- p has the value `at p`
pub record IsDone (ps : PatternSet) (at : ℕ → ℤ) (xs : List ℤ) (c : Called Position) (before after : List ℕ) (second left : List ℤ) (n : Counts) : Type 0 where
  pub taken : n.taken ≡ c.taken
  pub hits : n.hits ≡ length c.hits
  pub attempts : n.attempts ≡ c.attempts
  pub ended : c.ended ≡ cond (leb (length xs) n.taken) 1 0
  pub words : after ≡ hit_words c.hits ++ drop (2 * length c.hits) before
  pub rises : left ≡ map (rise ps at) c.hits ++ drop (length c.hits) second
