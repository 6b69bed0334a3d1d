-- A code is a rank where it is below the factorial of the length and its digits are realizable.
use Rattle.std.proofs.lemmas.Grind.{common_steps}
use Rattle.lists.proofs.Prelude.{arith, take_at}
use Rattle.ranking.specs.Rank.{is_rank}
use Rattle.ranking.proofs.Rank.{length-unrank}
use Rattle.pattern.proofs.is_rank.Goals as goal

pub returns-then-code-end : goal.returns-then-code-end
unfolding is_rank
returns-then-code-end c = grind (arith, common_steps)

pub returns : goal.returns
unfolding is_rank
returns c = grind (arith, common_steps, take_at, length-unrank c.args.n c.args.code)
