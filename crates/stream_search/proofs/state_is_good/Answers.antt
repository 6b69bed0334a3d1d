-- `state_is_good` meets its contract: a state is good where its position and the values kept are.
use Rattle.std.proofs.Common.{rules}
use Rattle.search_model.specs.Search.{good_state}
use Rattle.stream_search.proofs.state_is_good.Goals as goal

pub returns-then-position_is_good : goal.returns-then-position_is_good
unfolding good_state
returns-then-position_is_good c = search rules

pub returns-else-position_is_good : goal.returns-else-position_is_good
unfolding good_state
returns-else-position_is_good c = search rules
