-- What the loop has written and the hits of the numbers from i on make the hits.
use Rattle.lists.proofs.Prelude.{drop}
use Rattle.filter_passes.specs.Passes.{place_hits}
use Rattle.filter_passes.proofs.Written.{Written}
use Rattle.filter_passes.proofs.place.write_many.Given as goal

abbrev pub invariant-loop-i : goal.invariant-loop-i
invariant-loop-i l =
    Written (λ _. l.rise) l.initial.out l.out l.initial.rises l.rises l.i (place_hits l.p l.numbers) (place_hits l.p (drop l.i l.numbers))
