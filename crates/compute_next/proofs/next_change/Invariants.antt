-- No distance from this place on can be raised.
use Rattle.lists.proofs.Prelude.{drop}
use Rattle.compute_realization.specs.OpenDistances.{open_distances}
use Rattle.compute_next.proofs.Carry.{Stuck}
use Rattle.compute_next.proofs.next_change.Given as goal

abbrev pub invariant-loop-place : goal.invariant-loop-place
invariant-loop-place l = Stuck (open_distances l.ds l.place) (drop l.place l.ds)
