-- The weight is that of place i. The first i words are the first i distances of the code, and the
-- words from i on are as they came.
use Rattle.std.specs.Prelude.{◌≡◌, ◌++◌}
use Rattle.lists.proofs.Prelude.{drop}
use Rattle.ranking.specs.Rank.{factorial, unrank}
use Rattle.compute_ranks.proofs.digits_of.Given as goal

abbrev pub invariant-loop-i : goal.invariant-loop-i
invariant-loop-i l = record {
  weight : l.weight ≡ factorial l.i;
  words : l.out ≡ unrank l.i l.code ++ drop l.i l.initial.out;
}
