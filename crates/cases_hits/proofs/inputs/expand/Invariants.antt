-- `expand`: what is put stays within the array.
use Rattle.std.specs.Prelude.{◌≤◌}
use Rattle.lists.proofs.Prelude.{length}
use Rattle.cases_hits.proofs.inputs.expand.Given as goal

abbrev pub invariant-loop : goal.invariant-loop
invariant-loop l = l.to ≤ length l.out
