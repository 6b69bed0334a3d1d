-- A state of a search, against the one expected: the first thing that differs.
use Rattle.std.specs.Option.{option_or}
use Rattle.lists.specs.Prelude.{List, ℤ, pos, Option}
use Rattle.answers.specs.declared.SearchState.{SearchState}
use Rattle.test_differences.specs.declared.difference.Part.{Part}
use Rattle.test_differences.specs.declared.difference.Difference.{Difference}
use Rattle.test_differences.specs.Difference.{compared, compared_items, compared_words}

-- the numbers of the state
abbrev pub compared_numbers : SearchState → SearchState → Option Difference
compared_numbers expected got =
    option_or
    (option_or
    (option_or (compared Part.Taken 0 (pos expected.taken) (pos got.taken)) (compared Part.Node 0 (pos expected.node) (pos got.node)))
    (compared Part.Minima 0 (pos expected.minima) (pos got.minima)))
    (compared Part.FirstSlot 0 (pos expected.first) (pos got.first))

-- the values of slots
abbrev pub compared_values : List ℤ → List ℤ → Option Difference
compared_values expected got = compared_items (λ x. x) Part.Value 0 expected got

-- places and values, and the values kept
abbrev pub compared_slots : SearchState → SearchState → Option Difference
compared_slots expected got =
    option_or
    (option_or (compared_words expected.places got.places) (compared_values expected.values got.values))
    (compared_values expected.recent got.recent)

-- numbers and slots
abbrev pub compared_states : SearchState → SearchState → Option Difference
compared_states expected got = option_or (compared_numbers expected got) (compared_slots expected got)
