-- `write_set`: 256 distances a pattern at most.
use Rattle.std.specs.Prelude.{◌≤◌, ◌*◌}
use Rattle.cases_withdraw.proofs.model.write_set.Given as goal

abbrev pub invariant-loop-j : goal.invariant-loop-j
invariant-loop-j l = l.before ≤ 256 * l.j
