-- The words before x are those of the distances cut to the depth, the others stay.
use Rattle.automaton_rows.proofs.Rows.{CutTo}
use Rattle.automaton_rows.proofs.fill_above.Given as goal

abbrev pub invariant-loop-x : goal.invariant-loop-x
invariant-loop-x l = CutTo l.depth l.initial.row l.x l.row
