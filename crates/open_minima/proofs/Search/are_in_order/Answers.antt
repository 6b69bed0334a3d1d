-- `are_in_order` meets its contract: the first i open minima have their next ones follow.
use Rattle.std.proofs.Common.{refl, sym, ◌∙◌, arith}
use Rattle.open_minima.specs.Parts.{ring_of, in_order}
use Rattle.open_minima.proofs.Ways.{in_order_not, in_order_more}
use Rattle.open_minima.proofs.Search.are_in_order.Goals as goal

pub loop-i-init : goal.loop-i-init
unfolding in_order
loop-i-init c = refl

pub returns-then-not-next_follows : goal.returns-then-not-next_follows
returns-then-not-next_follows c =
    in_order_not (ring_of c.args.self.now.state) c.args.n c.loop-i.i (omega arith) (sym c.next_follows.ensures ∙ c.if-not-next_follows.true)

pub loop-i-preserved : goal.loop-i-preserved
loop-i-preserved c =
    in_order_more (ring_of c.args.self.now.state) c.loop-i.i c.loop-i.invariant (sym c.next_follows.ensures ∙ c.if-not-next_follows.false)
