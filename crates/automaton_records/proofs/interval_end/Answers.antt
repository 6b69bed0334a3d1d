-- `interval_end` meets its contract: the place before i holds a pattern that begins with the head
-- (invariant), so the pattern at i does exactly if they share as many distances as the head has
-- (`interval_more`, `interval_stops`). The measure is the number of places left.
use Rattle.lists.proofs.Prelude.{arith}
use Rattle.automaton_lookup.specs.View.{patterns}
use Rattle.automaton_model.specs.Automaton.{head_of}
use Rattle.automaton_rows.proofs.Shared.{interval_more, interval_stops, interval_last}
use Rattle.automaton_rows.proofs.Sizes.{node_some, places_small}
use Rattle.automaton_records.proofs.interval_end.Goals as goal

pub overflow_step-i : goal.overflow_step-i
overflow_step-i c =
    let records = c.args.node.now.records in
    omega (arith, c.requires.place_value, (places_small records.set.now records.begun.is_set records.made).0)

pub loop-i-init : goal.loop-i-init
loop-i-init c =
    let b = node_some (patterns c.args.node.now.records) c.args.node.now.records.made c.args.node.now.number.1 in
    (omega arith, omega (arith, b.0))

pub returns-then-shared_at-node : goal.returns-then-shared_at-node
returns-then-shared_at-node c =
    let L = c.loop-i in
    let ps = patterns c.args.node.now.records in
    interval_stops ps (head_of ps c.args.node.now.records.made) L.i (omega (arith, L.invariant.0)) L.invariant.1
    (omega (arith, c.shared_at.ensures, c.if-shared_at-node.true))

pub loop-i-preserved : goal.loop-i-preserved
loop-i-preserved c =
    let L = c.loop-i in
    let ps = patterns c.args.node.now.records in
    let m =
    interval_more ps (head_of ps c.args.node.now.records.made) L.i (omega (arith, L.invariant.0)) L.invariant.1 (omega (arith, c.loop-i-test.true))
    (omega (arith, c.shared_at.ensures, c.if-shared_at-node.false)) in
    (omega arith, omega arith)

pub returns : goal.returns
returns c =
    let L = c.loop-i in
    let ps = patterns c.args.node.now.records in
    interval_last ps (head_of ps c.args.node.now.records.made) c.args.node.now.records.k (omega arith) (omega (arith, L.invariant.1))
