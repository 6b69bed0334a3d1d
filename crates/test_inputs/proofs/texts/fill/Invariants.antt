-- `fill`: a seed to go on with is below the modulus.
use Rattle.std.specs.Prelude.{◌<◌}
use Rattle.test_inputs.proofs.texts.fill.Given as goal

abbrev pub invariant-loop-x : goal.invariant-loop-x
invariant-loop-x l = l.s < 2147483647
