-- The place looked for is open at i exactly if it is open at j + 1, for each place j that the way
-- of links comes by: before an open place the same places are open. The way comes to the place, or
-- passes below it, or ends above it.
use Rattle.std.specs.Prelude.{◌≡◌, ◌+◌, ◌-◌, ◌<◌}
use Rattle.lists.proofs.Prelude.{eqb, any}
use Rattle.compute_realization.specs.OpenDistances.{open_distances}
use Rattle.compute_realization.proofs.is_open.Given as goal

abbrev pub invariant-loop-j : goal.invariant-loop-j
invariant-loop-j l = (l.j < l.i) × (any (eqb (l.i - l.target)) (open_distances l.ds l.i) ≡ any (eqb (l.j + 1 - l.target)) (open_distances l.ds (l.j + 1)))

abbrev pub decreases-loop-j : goal.decreases-loop-j
decreases-loop-j l = l.j
