-- `fingerprint_length`: 17 values at most.
use Rattle.std.specs.Prelude.{◌≤◌}
use Rattle.test_plain.proofs.fingerprint_length.Given as goal

abbrev pub invariant-loop-j : goal.invariant-loop-j
invariant-loop-j l = l.b ≤ 17
