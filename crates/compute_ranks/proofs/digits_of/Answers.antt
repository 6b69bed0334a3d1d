use Rattle.lists.proofs.Prelude.{refl, tabulate}
use Rattle.ranking.specs.Rank.{factorial, unrank}
use Rattle.compute_ranks.proofs.digits_of.Goals as goal

pub loop-i-init : goal.loop-i-init
unfolding factorial unrank tabulate
loop-i-init c = record { weight = refl; words = refl }
