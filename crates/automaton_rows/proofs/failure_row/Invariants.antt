-- The first x words are put.
use Rattle.automaton_lookup.specs.View.{patterns}
use Rattle.automaton_rows.specs.Rows.{one_more}
use Rattle.automaton_rows.proofs.Rows.{Upto}
use Rattle.automaton_rows.proofs.failure_row.Given as goal

abbrev pub invariant-loop-x : goal.invariant-loop-x
invariant-loop-x l = Upto (one_more (patterns l.records) l.link) l.x l.row
