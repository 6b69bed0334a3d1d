-- The loop takes the ranks one by one, lowest first; what it has written and the hits of the ranks
-- that are left make the hits.
use Rattle.bit_sets.specs.BitSets.{bits}
use Rattle.filter_passes.specs.Passes.{rank_hits}
use Rattle.filter_passes.proofs.Written.{Written}
use Rattle.filter_passes.proofs.place.write_few.Given as goal

abbrev pub invariant-loop-rest : goal.invariant-loop-rest
invariant-loop-rest l =
    Written (λ _. l.rise) l.initial.out l.out l.initial.rises l.rises l.to (rank_hits l.numbers l.p (bits l.members))
    (rank_hits l.numbers l.p (bits l.rest))

abbrev pub decreases-loop-rest : goal.decreases-loop-rest
decreases-loop-rest l = l.rest
