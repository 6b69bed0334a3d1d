-- `run`: what is written stays within the array.
use Rattle.std.specs.Prelude.{◌≤◌}
use Rattle.lists.proofs.Prelude.{length}
use Rattle.cases_withdraw_hits.proofs.searches.run.Given as goal

abbrev pub invariant-loop-values : goal.invariant-loop-values
invariant-loop-values l = l.at ≤ length l.hits
