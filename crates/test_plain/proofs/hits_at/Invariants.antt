-- `hits_at`: what is written stays within the array.
use Rattle.std.specs.Prelude.{◌≤◌}
use Rattle.lists.proofs.Prelude.{length}
use Rattle.test_plain.proofs.hits_at.Given as goal

abbrev pub invariant-loop-n : goal.invariant-loop-n
invariant-loop-n l = l.to ≤ length l.out
