-- `count_ends` meets its contract: all patterns from the first place up to i end at the node
-- (invariant), and the one at i does exactly if it is no longer than the head (`ends_more`,
-- `ends_stop`). The measure is the number of places left.
use Rattle.std.specs.Prelude.{◌≡◌}
use Rattle.lists.proofs.Prelude.{ap, length, arith}
use Rattle.automaton_lookup.specs.View.{patterns}
use Rattle.automaton_model.specs.Automaton.{head_of}
use Rattle.automaton_model.proofs.Order.{pattern_at}
use Rattle.automaton_rows.proofs.Intervals.{ends_le_begins, ends_more, ends_stop}
use Rattle.automaton_rows.proofs.Sizes.{node_some}
use Rattle.lists.proofs.Prelude.{rules}
use Rattle.automaton_records.proofs.count_ends.Goals.{After-pattern_at-pattern}
use Rattle.automaton_records.proofs.count_ends.Goals as goal

-- the pattern measured is that of place i
measured : (c : After-pattern_at-pattern) →
    length c.pattern_at-pattern.result.now ≡ length (pattern_at (patterns c.args.node.now.records) c.loop-i.i)
measured c = ap length c.pattern_at-pattern.ensures

pub pattern_at-pattern-requires : goal.pattern_at-pattern-requires
pattern_at-pattern-requires c =
    let b = node_some (patterns c.args.node.now.records) c.args.node.now.records.made c.args.node.now.number.1 in
    search rules

pub returns-then-pattern-node : goal.returns-then-pattern-node
returns-then-pattern-node c =
    let ps = patterns c.args.node.now.records in
    let q = measured (goal.at.returns-then-pattern-node c).After-pattern_at-pattern in
    let e = ends_stop ps (head_of ps c.args.node.now.records.made) c.loop-i.i (omega arith) (omega arith) (λ y. c.if-pattern-node.true (omega arith)) in
    omega arith

pub loop-i-preserved : goal.loop-i-preserved
loop-i-preserved c =
    let ps = patterns c.args.node.now.records in
    let q = measured (goal.at.loop-i-preserved c).After-pattern_at-pattern in
    let m = ends_more ps (head_of ps c.args.node.now.records.made) c.loop-i.i (omega arith) (omega arith) (omega (arith, c.if-pattern-node.false)) in
    (omega arith, omega arith)

pub returns : goal.returns
returns c =
    let ps = patterns c.args.node.now.records in
    omega (arith, ends_le_begins ps (head_of ps c.args.node.now.records.made))
