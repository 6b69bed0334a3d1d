-- The first i words are the distances of the first i values, and the rest is as it was.
use Rattle.std.specs.Prelude.{◌≡◌, ◌++◌}
use Rattle.lists.proofs.Prelude.{drop, tabulate}
use Rattle.cartesian.specs.Cartesian.{distance_at}
use Rattle.compute_distances.proofs.parent_distances.Given as goal

abbrev pub invariant-loop-i : goal.invariant-loop-i
invariant-loop-i l = l.out ≡ tabulate l.i (distance_at l.values) ++ drop l.i l.initial.out
