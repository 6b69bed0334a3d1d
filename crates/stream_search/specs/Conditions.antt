-- The conditions of a call of the stream search that concern its state, its values and its arrays.
use Rattle.std.specs.Prelude.{◌||◌, ◌∷◌, ◌+◌, ◌*◌}
use Rattle.lists.specs.Prelude.{List, [], ℕ, ℤ, ltb, not, length}
use Rattle.answers.specs.declared.SearchState.{SearchState}
use Rattle.pattern_set.specs.PatternSet.{PatternSet}
use Rattle.search_model.specs.Search.{good_state}
use Rattle.entries.specs.Entries.{Conditions, is_short}

abbrev pub call_conditions : PatternSet → SearchState → List ℤ → List ℕ → List ℤ → Conditions
call_conditions ps st xs out rises =
    (8, not (good_state ps st)) ∷ (9, ltb 1048576 (st.taken + length xs)) ∷ (10, ltb (length out) (2 * length ps) || is_short out rises) ∷ []
