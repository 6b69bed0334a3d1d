-- `write_rises` meets its contract: what is listed at the node given is what is done so far and
-- then what is listed at the present node (`Risen`); at the root nothing is. The measure is the
-- length of the present node's head: the output link of a failure link leads to a shorter one.
use Rattle.std.specs.Prelude.{◌≡◌, ◌++◌, ◌+◌, ◌-◌, ◌≤◌, ◌<◌}
use Rattle.lists.proofs.Prelude.{◌∙◌, ap, ℕ, ℤ, length, take, drop, replicate, length-take, length-drop, w32, to_z, of_z, arith}
use Rattle.lists.proofs.Order.{back_i32}
use Rattle.lists.proofs.Tests.{positive}
use Rattle.matching.specs.Rise.{rise_over}
use Rattle.automaton_model.specs.Automaton.{head_of, ends_at}
use Rattle.automaton_model.proofs.Nodes.{node_longer}
use Rattle.automaton_lookup.specs.View.{patterns}
use Rattle.automaton_lookup.proofs.Words.{made_good}
use Rattle.compute_rises.specs.Values.{value_in}
use Rattle.stream_step.proofs.Listed.{failure_node}
use Rattle.node_rises.proofs.Rising.{Risen, rising_start, rising_room, rising_more, rising_end}
use Rattle.node_rises.proofs.write_rises.Goals.{After-output-at-in-loop-at, In-loop-at}
use Rattle.node_rises.proofs.write_rises.Goals as goal

-- what ends at the present node has room
room : (c : In-loop-at) →
    let ps = patterns c.args.automaton.now.records in
    c.loop-at.n + ends_at ps (head_of ps c.loop-at.at) ≤ length c.loop-at.rises
room c =
    let a = c.args in
    let m = a.automaton.now.records.begun in
    rising_room (patterns a.automaton.now.records) (made_good m) m.filled (value_in a.readings.now) a.place a.node
    a.rises.now c.loop-at.at c.loop-at.n c.loop-at.rises c.loop-at.invariant c.loop-at-test.true

-- what is done after one node more
more : (c : After-output-at-in-loop-at) →
    let a = c.args in
    let ps = patterns a.automaton.now.records in
    let n = c.loop-at.n in
    let k = n + c.ends-m.result - n in
    Risen ps (value_in a.readings.now) a.place a.node a.rises.now c.output-at-in-loop-at.result
    (n + c.ends-m.result) (take n c.loop-at.rises ++ (c.fill_rises.new.rises ++ drop k (drop n c.loop-at.rises)))
    × (length (head_of ps c.output-at-in-loop-at.result) < length (head_of ps c.loop-at.at))
more c =
    let a = c.args in
    let m = a.automaton.now.records.begun in
    let ps = patterns a.automaton.now.records in
    let f = value_in a.readings.now in
    let v : ℤ = to_z w32 (of_z w32 c.rise_over-rise.result) in
    let value : v ≡ rise_over f a.place (length (head_of ps c.loop-at.at)) =
    back_i32 (record { sfits = c.rise_over-rise.type_inv }) ∙ c.rise_over-rise.ensures ∙ ap (rise_over f a.place) c.depth-depth.ensures in
    let r = room (goal.at.After-output-at-in-loop-at c).In-loop-at in
    let part : length (take (c.loop-at.n + c.ends-m.result - c.loop-at.n) (drop c.loop-at.n c.loop-at.rises)) ≡ c.ends-m.result =
    simp (length-take, length-drop) (omega (arith, r, c.ends-m.ensures)) in
    rising_more ps (made_good m) m.filled f a.place a.node
    a.rises.now c.loop-at.at c.loop-at.n c.loop-at.rises c.loop-at.invariant c.loop-at-test.true c.ends-m.result v c.ends-m.ensures value
    c.failure-link.result c.output-at-in-loop-at.result c.failure-link.ensures c.output-at-in-loop-at.ensures
    (c.loop-at.n + c.ends-m.result - c.loop-at.n) c.fill_rises.new.rises (omega arith)
    (c.fill_rises.ensures ∙ ap (λ (i : ℕ). replicate i v) part)

pub loop-at-init : goal.loop-at-init
loop-at-init c =
    let a = c.args in
    let m = a.automaton.now.records.begun in
    rising_start (patterns a.automaton.now.records) (made_good m) m.filled (value_in a.readings.now) a.place a.node
    a.rises.now c.output-at.result (omega (arith, c.requires.node, a.automaton.now.whole)) c.output-at.ensures c.requires.room

pub rise_over-rise-requires : goal.rise_over-rise-requires
rise_over-rise-requires c =
    let m = c.args.automaton.now.records.begun in
    let ps = patterns c.args.automaton.now.records in
    let some = node_longer ps (made_good m) m.filled c.loop-at.at (positive c.loop-at.at c.loop-at-test.true) c.loop-at.invariant.within in (
      c.requires.start,
      c.requires.within,
      omega (arith, c.depth-depth.ensures, some),
      omega (arith, c.depth-depth.ensures, c.loop-at.invariant.depth, c.requires.depth),
    )

pub overflow_add-n : goal.overflow_add-n
overflow_add-n c = let r = room (goal.at.overflow_add-n c).In-loop-at in omega (arith, r, c.ends-m.ensures)

pub slice_bounds-fill_rises-end : goal.slice_bounds-fill_rises-end
slice_bounds-fill_rises-end c = let r = room (goal.at.slice_bounds-fill_rises-end c).In-loop-at in omega (arith, r, c.ends-m.ensures)

pub output-at-requires-in-loop-at : goal.output-at-requires-in-loop-at
output-at-requires-in-loop-at c =
    let m = c.args.automaton.now.records.begun in
    let f =
    failure_node (patterns c.args.automaton.now.records) (made_good m) m.filled c.loop-at.at c.failure-link.result c.loop-at.invariant.within
    c.loop-at-test.true c.failure-link.ensures in
    record { node_lt_made = omega (arith, f.0, c.args.automaton.now.whole) }

pub loop-at-smaller : goal.loop-at-smaller
loop-at-smaller c = (more (goal.at.loop-at-smaller c).After-output-at-in-loop-at).1

pub loop-at-preserved : goal.loop-at-preserved
loop-at-preserved c = (more (goal.at.loop-at-preserved c).After-output-at-in-loop-at).0

pub returns : goal.returns
returns c =
    let a = c.args in
    let m = a.automaton.now.records.begun in
    rising_end (patterns a.automaton.now.records) (made_good m) m.filled (value_in a.readings.now) a.place a.node
    a.rises.now c.loop-at.at c.loop-at.n c.loop-at.rises c.loop-at.invariant c.loop-at-test.false
