-- `fill_rises` meets its contract: after i turns the rise stands at the first i places.
use Rattle.lists.proofs.Prelude.{length}
use Rattle.compute_rises.proofs.Rises.{Written}
use Rattle.compute_rises.proofs.fill_rises.Given as goal

abbrev pub invariant-loop-i : goal.invariant-loop-i
invariant-loop-i l = Written (λ _. l.rise) (length l.initial.rises) l.initial.rises l.rises l.i
