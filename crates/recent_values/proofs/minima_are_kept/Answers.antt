-- `minima_are_kept` meets its contract: before each turn the first i open minima have the values
-- kept for their places.
use Rattle.std.proofs.Common.{arith, sym, ◌∙◌}
use Rattle.open_minima.specs.Parts.{ring_of}
use Rattle.recent_values.proofs.Checks.{kept_none, kept_more, kept_not}
use Rattle.recent_values.proofs.minima_are_kept.Goals as goal

pub loop-i-init : goal.loop-i-init
loop-i-init c = kept_none (ring_of c.args.search.now.state) c.args.search.now.state.recent

pub returns-then-not-is_kept : goal.returns-then-not-is_kept
returns-then-not-is_kept c =
    kept_not (ring_of c.args.search.now.state) c.args.search.now.state.recent c.loop-i.i (omega arith) (sym c.is_kept.ensures ∙ c.if-not-is_kept.true)

pub loop-i-preserved : goal.loop-i-preserved
loop-i-preserved c =
    kept_more (ring_of c.args.search.now.state) c.args.search.now.state.recent c.loop-i.i c.loop-i.invariant
    (sym c.is_kept.ensures ∙ c.if-not-is_kept.false)
