-- The patterns of the lines that are taken lie in the arrays.
use Rattle.hits_input.specs.Steps.{parts_left}
use Rattle.hits_input.proofs.Inputs.{Reading}
use Rattle.hits_input.proofs.read_patterns.Given as goal

abbrev pub invariant-loop-line : goal.invariant-loop-line
invariant-loop-line l =
    (goal.iterator-loop-line).can_next l.lines × (goal.iterator-loop-line).is_finite l.lines
    × Reading (parts_left l.initial.lines) (parts_left l.lines) l.initial.values l.initial.ends l.values l.ends l.count l.filled
