-- The words of a record, in their order.
use Rattle.std.specs.Prelude.{◌∷◌}
use Rattle.lists.specs.Prelude.{List, [], ℕ}
use Rattle.automaton_records.specs.declared.Record.{Record}

abbrev pub record_words : Record → List ℕ
record_words r = r.depth ∷ r.label ∷ r.failure ∷ r.output ∷ r.first_child ∷ r.children ∷ r.first_place ∷ r.ends ∷ []
