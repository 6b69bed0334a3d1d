-- `expect_minima`: one open minimum a value at most.
use Rattle.std.specs.Prelude.{◌≤◌}
use Rattle.test_states.proofs.expect_minima.Given as goal

abbrev pub invariant-loop-q : goal.invariant-loop-q
invariant-loop-q l = l.count ≤ l.q
