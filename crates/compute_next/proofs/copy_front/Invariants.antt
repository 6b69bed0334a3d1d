-- The first i words are those of the list, and the words from i on are as they came.
use Rattle.std.specs.Prelude.{◌≡◌, ◌++◌}
use Rattle.lists.proofs.Prelude.{length, take, drop}
use Rattle.compute_next.proofs.copy_front.Given as goal

abbrev pub invariant-loop-i : goal.invariant-loop-i
invariant-loop-i l = (length l.out ≡ length l.initial.out) × (l.out ≡ take l.i l.ds ++ drop l.i l.initial.out)
