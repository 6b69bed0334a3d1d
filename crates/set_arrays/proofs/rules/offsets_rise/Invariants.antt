-- The offsets passed rise.
use Rattle.set_arrays.specs.Rules.{OffsetsRise}
use Rattle.set_arrays.proofs.rules.offsets_rise.Given as goal

abbrev pub invariant-loop-j : goal.invariant-loop-j
invariant-loop-j l = OffsetsRise l.words l.j
