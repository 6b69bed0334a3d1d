-- `make`: a seed to go on with is below the modulus.
use Rattle.std.specs.Prelude.{◌<◌}
use Rattle.test_sets.proofs.make.Given as goal

abbrev pub invariant-loop : goal.invariant-loop
invariant-loop l = l.s < 2147483647
