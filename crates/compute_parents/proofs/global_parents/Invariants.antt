-- Before place j the array holds the parents as the places before j tell them, and what is behind j
-- as it was.
use Rattle.std.specs.Prelude.{◌≡◌}
use Rattle.compute_parents.proofs.Steps.{parents_below}
use Rattle.compute_parents.proofs.global_parents.Given as goal

abbrev pub invariant-loop-j : goal.invariant-loop-j
invariant-loop-j l = l.out ≡ parents_below l.ds l.j l.initial.out
