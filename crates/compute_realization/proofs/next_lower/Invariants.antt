-- Every place after i and before j leads to i or later. So does j, where the loop goes on, and what
-- lies between j and its next lower place leads to j or later.
use Rattle.std.specs.Prelude.{◌-◌, ◌≤◌, ◌<◌}
use Rattle.compute_realization.proofs.NextLower.{Passed}
use Rattle.compute_realization.proofs.next_lower.Given as goal

abbrev pub invariant-loop-j : goal.invariant-loop-j
invariant-loop-j l = (l.i < l.j) × (l.j ≤ l.n) × Passed l.ds l.i l.j

abbrev pub decreases-loop-j : goal.decreases-loop-j
decreases-loop-j l = l.n - l.j
