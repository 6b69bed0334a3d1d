-- `skip`: the input is read forward.
use Rattle.std.specs.Prelude.{◌≤◌}
use Rattle.case_input.proofs.Input.skip.Given as goal

abbrev pub invariant-loop-i : goal.invariant-loop-i
invariant-loop-i l = (l.initial.self.at ≤ l.self.at) × (l.self.at ≤ l.i)
