-- The product is the factorial of k.
use Rattle.std.specs.Prelude.{◌≡◌}
use Rattle.ranking.specs.Rank.{factorial}
use Rattle.compute_ranks.proofs.factorial_at.Given as goal

abbrev pub invariant-loop-k : goal.invariant-loop-k
invariant-loop-k l = l.product ≡ factorial l.k
