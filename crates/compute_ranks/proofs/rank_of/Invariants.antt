-- The product is the weight of place i. The rank is the sum so far and the part of the rank from
-- place i on; so the sum never passes the rank, which is below 20!, and at the end it is the rank.
use Rattle.std.specs.Prelude.{◌≡◌, ◌+◌}
use Rattle.lists.proofs.Prelude.{drop}
use Rattle.ranking.specs.Rank.{factorial, rank, rank_from}
use Rattle.compute_ranks.proofs.rank_of.Given as goal

abbrev pub invariant-loop-i : goal.invariant-loop-i
invariant-loop-i l = record {
  weight : l.f ≡ factorial l.i;
  sum : rank l.ds ≡ l.sum + rank_from l.i (drop l.i l.ds);
}
