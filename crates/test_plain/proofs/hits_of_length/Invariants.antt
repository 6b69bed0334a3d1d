-- `hits_of_length`: what is written stays within the array.
use Rattle.std.specs.Prelude.{◌≤◌}
use Rattle.lists.proofs.Prelude.{length}
use Rattle.test_plain.proofs.hits_of_length.Given as goal

abbrev pub invariant-loop-j : goal.invariant-loop-j
invariant-loop-j l = l.to ≤ length l.out
