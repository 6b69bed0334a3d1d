-- `write`: 6 distances a pattern at most.
use Rattle.std.specs.Prelude.{◌≤◌, ◌*◌}
use Rattle.cases_one_value.proofs.stored.write.Given as goal

abbrev pub invariant-loop-j : goal.invariant-loop-j
invariant-loop-j l = l.before ≤ 6 * l.j
