-- `candidates`: 64 candidates a place at most.
use Rattle.std.specs.Prelude.{◌≤◌, ◌*◌}
use Rattle.test_plain.proofs.candidates.Given as goal

abbrev pub invariant-loop-p : goal.invariant-loop-p
invariant-loop-p l = l.count ≤ 64 * l.p
