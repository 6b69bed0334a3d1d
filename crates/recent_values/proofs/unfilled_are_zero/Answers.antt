-- `unfilled_are_zero` meets its contract: before each turn the slots below i are filled or 0.
use Rattle.std.proofs.Common.{arith, rules}
use Rattle.recent_values.proofs.Checks.{fine_filled, fine_more, fine_not, fine_all}
use Rattle.recent_values.proofs.unfilled_are_zero.Goals as goal

pub loop-i-init : goal.loop-i-init
loop-i-init c = fine_filled c.args.search.now.state.recent c.args.search.now.state.taken

pub returns-then-search-i-ne0 : goal.returns-then-search-i-ne0
returns-then-search-i-ne0 c =
    fine_not c.args.search.now.state.recent c.args.search.now.state.taken c.loop-i.i (omega arith) (omega arith) (search rules)

pub loop-i-preserved : goal.loop-i-preserved
loop-i-preserved c =
    fine_more c.args.search.now.state.recent c.args.search.now.state.taken c.loop-i.i (omega arith) c.loop-i.invariant (search rules)

pub returns : goal.returns
returns c = fine_all c.args.search.now.state.recent c.args.search.now.state.taken c.loop-i.i (omega arith) c.loop-i.invariant
