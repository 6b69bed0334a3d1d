-- The words of the places before i are written.
use Rattle.filter_checks.specs.Sides.{is_right}
use Rattle.filter_checks.proofs.Words.{SideWritten}
use Rattle.filter_checks.proofs.comparisons.add_side.Given as goal

abbrev pub invariant-loop-i : goal.invariant-loop-i
invariant-loop-i l = SideWritten (is_right l.side) l.from l.parents l.initial.out l.i l.count l.out
