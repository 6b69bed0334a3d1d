-- `read`: the input is read forward.
use Rattle.std.specs.Prelude.{◌≤◌}
use Rattle.case_input.proofs.Input.read.Given as goal

abbrev pub invariant-loop-x : goal.invariant-loop-x
invariant-loop-x g l = l.initial.self.at ≤ l.self.at
