-- `attempts_between`: 257 attempts a place at most.
use Rattle.std.specs.Prelude.{◌+◌, ◌*◌, ◌≤◌}
use Rattle.test_plain.proofs.attempts_between.Given as goal

abbrev pub invariant-loop-p : goal.invariant-loop-p
invariant-loop-p l = (l.p ≤ l.first + l.p-end) × (l.count + 257 * l.first ≤ 257 * l.p)
