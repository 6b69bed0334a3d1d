-- `candidates_at`: one candidate a pattern at most.
use Rattle.std.specs.Prelude.{◌≤◌}
use Rattle.test_plain.proofs.candidates_at.Given as goal

abbrev pub invariant-loop-j : goal.invariant-loop-j
invariant-loop-j l = l.count ≤ l.j
