-- `child` meets its contract: the interval from lo to hi - 1 always holds the child, if there is
-- one (`Interval`), since the labels of the children rise; of an interval of one child the last
-- comparison tells. The measure is the interval's length, which a turn halves.
use Rattle.std.specs.Prelude.{◌+◌, ◌-◌, ◌/◌, ◌<◌}
use Rattle.lists.proofs.Prelude.{◌∙◌, sym, length, arith}
use Rattle.automaton_lookup.specs.View.{patterns}
use Rattle.automaton_model.specs.Automaton.{nodes}
use Rattle.automaton_lookup.proofs.Words.{made_good}
use Rattle.automaton_lookup.proofs.ChildSearch.{search_none, search_all, search_upper, search_lower, search_found, search_missing}
use Rattle.automaton_lookup.proofs.Records.child.Goals.{Start}
use Rattle.automaton_lookup.proofs.Records.child.Goals as goal

-- the node is one of the automaton of a good set
within : (c : Start) → c.args.node < length (nodes (patterns c.args.self.now))
within c = omega (arith, c.args.self.now.begun.within, c.requires.node_lt_made.0)

pub returns-then-n-eq0 : goal.returns-then-n-eq0
returns-then-n-eq0 c =
    let m = c.args.self.now.begun in
    search_none (patterns c.args.self.now) (made_good m) m.filled c.args.node (within (goal.at.returns-then-n-eq0 c).Start) c.args.label
    (sym c.children-n.ensures ∙ c.if-n-eq0.true)

pub loop-high-init : goal.loop-high-init
loop-high-init c =
    let m = c.args.self.now.begun in
    search_all (patterns c.args.self.now) (made_good m) m.filled c.args.node (within (goal.at.loop-high-init c).Start) c.args.label _ _ (omega arith)
    (omega arith)
    (omega arith)

pub loop-high-preserved-then-label-wanted : goal.loop-high-preserved-then-label-wanted
loop-high-preserved-then-label-wanted c =
    let m = c.args.self.now.begun in
    search_upper (patterns c.args.self.now) (made_good m) m.filled c.args.node (within (goal.at.loop-high-preserved-then-label-wanted c).Start) c.args.label
    c.loop-high.low c.loop-high.high
    (c.loop-high.low + (c.loop-high.high - c.loop-high.low) / 2) c.loop-high.invariant (omega arith) (omega arith) (omega (arith, c.label.ensures))

pub loop-high-preserved : goal.loop-high-preserved
loop-high-preserved c =
    let m = c.args.self.now.begun in
    search_lower (patterns c.args.self.now) (made_good m) m.filled c.args.node (within (goal.at.loop-high-preserved c).Start) c.args.label c.loop-high.low
    c.loop-high.high
    (c.loop-high.low + (c.loop-high.high - c.loop-high.low) / 2) c.loop-high.invariant (omega arith) (omega arith) (omega (arith, c.label.ensures))

pub returns-then-label-wanted-2 : goal.returns-then-label-wanted-2
returns-then-label-wanted-2 c =
    let m = c.args.self.now.begun in
    search_found (patterns c.args.self.now) (made_good m) m.filled c.args.node (within (goal.at.returns-then-label-wanted-2 c).Start) c.args.label
    c.loop-high.low c.loop-high.high
    c.loop-high.invariant (omega (arith, c.label-2.ensures))

pub returns-else-label-wanted-2 : goal.returns-else-label-wanted-2
returns-else-label-wanted-2 c =
    let m = c.args.self.now.begun in
    search_missing (patterns c.args.self.now) (made_good m) m.filled c.args.node (within (goal.at.returns-else-label-wanted-2 c).Start) c.args.label
    c.loop-high.low c.loop-high.high
    c.loop-high.invariant (omega arith) (λ e. c.if-label-wanted-2.false (omega arith))
