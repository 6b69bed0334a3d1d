-- `recent_are_good` meets its contract: the two tests are those of the definition.
use Rattle.std.proofs.Common.{rules}
use Rattle.search_model.specs.Recent.{good_recent}
use Rattle.recent_values.proofs.recent_are_good.Goals as goal

pub returns-then-unfilled_are_zero : goal.returns-then-unfilled_are_zero
unfolding good_recent
returns-then-unfilled_are_zero c = search rules

pub returns-else-unfilled_are_zero : goal.returns-else-unfilled_are_zero
unfolding good_recent
returns-else-unfilled_are_zero c = search rules
