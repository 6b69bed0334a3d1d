-- `longest`: a pattern's length is a word.
use Rattle.std.specs.Prelude.{◌<◌}
use Rattle.test_plain.proofs.longest.Given as goal

abbrev pub invariant-loop-j : goal.invariant-loop-j
invariant-loop-j l = l.most < 4294967296
