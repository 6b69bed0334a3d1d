-- The first i words are the failure lengths of the heads of 1 to i distances, and the rest is as it
-- was.
use Rattle.std.specs.Prelude.{◌≡◌, ◌++◌}
use Rattle.lists.proofs.Prelude.{suc, drop, tabulate}
use Rattle.realization.specs.Realization.{failure_length}
use Rattle.compute_failures.proofs.failure_lengths.Given as goal

abbrev pub invariant-loop-i : goal.invariant-loop-i
invariant-loop-i l = l.out ≡ tabulate l.i (λ j. failure_length l.ds (suc j)) ++ drop l.i l.initial.out
