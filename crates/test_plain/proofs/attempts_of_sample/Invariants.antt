-- `attempts_of_sample`: one attempt a suffix at most.
use Rattle.std.specs.Prelude.{◌+◌, ◌-◌, ◌≤◌}
use Rattle.test_plain.proofs.attempts_of_sample.Given as goal

abbrev pub invariant-loop-from : goal.invariant-loop-from
invariant-loop-from l = l.count + (l.p - 256) ≤ l.from
