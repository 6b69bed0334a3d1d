-- The product is the weight of place i. The rank is the sum so far and the part of the rank from
-- place i on; so the sum never passes the rank, which is below 20!, and at the end it is the rank.
use Rattle.std.specs.Prelude.{◌≡◌, ◌+◌, ◌*◌}
use Rattle.lists.proofs.Prelude.{drop, arith, get_or, refl}
use Rattle.ranking.specs.Rank.{factorial, rank, rank_from}
use Rattle.compute_ranks.proofs.Laws.{rank_fits, rank_starts, rank_goes_on, rank_ends}
use Rattle.compute_ranks.proofs.rank_of.Goals.{In-loop-i}
use Rattle.compute_ranks.proofs.rank_of.Goals as goal

pub loop-i-init : goal.loop-i-init
unfolding factorial
loop-i-init c = record { weight = refl; sum = rank_starts c.args.ds.now c.requires.1 }

-- what is in the sum after the turn, and what is left
summed : (c : In-loop-i) →
    let ds = c.args.ds.now in
    let L = c.loop-i in
    rank ds ≡ L.sum + get_or ds L.i 0 * L.f + rank_from (L.i + 1) (drop (L.i + 1) ds)
summed c = let L = c.loop-i in rank_goes_on c.args.ds.now L.i L.sum _ _ c.loop-i-test.true L.invariant.sum refl L.invariant.weight

pub overflow_mul-sum : goal.overflow_mul-sum
overflow_mul-sum c =
    record { fits = omega (arith, summed (goal.at.overflow_mul-sum c).In-loop-i, rank_fits c.args.ds.now c.requires.0 c.requires.2) }

pub overflow_add-sum : goal.overflow_add-sum
overflow_add-sum c =
    record { fits = omega (arith, summed (goal.at.overflow_add-sum c).In-loop-i, rank_fits c.args.ds.now c.requires.0 c.requires.2) }

pub loop-i-preserved : goal.loop-i-preserved
loop-i-preserved c = record { weight = c.next_factorial-f.ensures; sum = summed (goal.at.loop-i-preserved c).In-loop-i }

pub returns : goal.returns
returns c = rank_ends c.args.ds.now c.loop-i.i c.loop-i.sum (omega arith) c.loop-i.invariant.sum
