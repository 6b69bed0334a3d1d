-- `write_hits` meets its contract: what is listed at the node given is what is written so far and
-- then what is listed at the present node (`Written`); at the root nothing is. The measure is the
-- length of the present node's head: the output link of a failure link leads to a shorter one.
use Rattle.std.specs.Prelude.{◌++◌, ◌+◌, ◌-◌, ◌*◌, ◌≤◌, ◌<◌}
use Rattle.lists.proofs.Prelude.{refl, length, take, drop, length-take, length-drop, arith}
use Rattle.automaton_lookup.specs.View.{patterns}
use Rattle.automaton_model.specs.Automaton.{head_of, ending_at, listed}
use Rattle.automaton_lookup.proofs.Words.{made_good}
use Rattle.stream_step.proofs.Listed.{failure_node}
use Rattle.stream_step.proofs.Writing.{Written, writing_start, writing_room, writing_more, writing_end}
use Rattle.stream_step.proofs.write_hits.Goals.{After-output-at-in-loop-at, In-loop-at}
use Rattle.stream_step.proofs.write_hits.Goals as goal

-- the patterns that end at the present node have room
room : (c : In-loop-at) →
    let ps = patterns c.args.automaton.now.records in
    2 * c.loop-at.n + 2 * length (ending_at ps (head_of ps c.loop-at.at)) ≤ length c.loop-at.hits
room c =
    let m = c.args.automaton.now.records.begun in
    writing_room (patterns c.args.automaton.now.records) (made_good m) m.filled c.args.place c.args.hits.now _ c.loop-at.at c.loop-at.n c.loop-at.hits
    c.loop-at.invariant c.loop-at-test.true

-- what is written after one node more
more : (c : After-output-at-in-loop-at) →
    let ps = patterns c.args.automaton.now.records in
    let n = c.loop-at.n in
    let r = c.write_ends-n in
    Written ps c.args.place c.args.hits.now (listed ps (head_of ps c.args.node)) c.output-at-in-loop-at.result (n + r.result)
    (take (2 * n) c.loop-at.hits ++ (r.new.hits ++ drop (length c.loop-at.hits - 2 * n) (drop (2 * n) c.loop-at.hits)))
    × (length (head_of ps c.output-at-in-loop-at.result) < length (head_of ps c.loop-at.at))
more c =
    let m = c.args.automaton.now.records.begun in
    let r = c.write_ends-n in
    writing_more (patterns c.args.automaton.now.records) (made_good m) m.filled c.args.place c.args.hits.now _ c.loop-at.at c.loop-at.n c.loop-at.hits
    c.loop-at.invariant c.loop-at-test.true r.result (length c.loop-at.hits - 2 * c.loop-at.n) r.new.hits r.ensures.value refl
    r.ensures.hits_after
    c.failure-link.result c.output-at-in-loop-at.result c.failure-link.ensures c.output-at-in-loop-at.ensures

pub loop-at-init : goal.loop-at-init
loop-at-init c =
    let m = c.args.automaton.now.records.begun in
    writing_start (patterns c.args.automaton.now.records) (made_good m) m.filled c.args.place c.args.hits.now c.args.node c.output-at.result
    (omega arith)
    c.output-at.ensures c.requires.room

pub write_ends-n-requires : goal.write_ends-n-requires
write_ends-n-requires c =
    let r = room (goal.at.write_ends-n-requires c).In-loop-at in
    record { node = omega (arith, c.loop-at.invariant.within, c.args.automaton.now.whole); room = simp (length-take, length-drop) (omega arith) }

pub overflow_add-n : goal.overflow_add-n
overflow_add-n c =
    let r = room (goal.at.overflow_add-n c).In-loop-at in
    omega (arith, c.write_ends-n.ensures.value, c.loop-at.invariant.sized)

pub failure-link-requires : goal.failure-link-requires
failure-link-requires c =
    omega (arith, c.loop-at.invariant.within, c.args.automaton.now.whole)

pub output-at-requires-in-loop-at : goal.output-at-requires-in-loop-at
output-at-requires-in-loop-at c =
    let m = c.args.automaton.now.records.begun in
    let f =
    failure_node (patterns c.args.automaton.now.records) (made_good m) m.filled c.loop-at.at c.failure-link.result c.loop-at.invariant.within
    c.loop-at-test.true
    c.failure-link.ensures in
    omega (arith, f.0, c.args.automaton.now.whole)

pub loop-at-smaller : goal.loop-at-smaller
loop-at-smaller c = (more (goal.at.loop-at-smaller c).After-output-at-in-loop-at).1

pub loop-at-preserved : goal.loop-at-preserved
loop-at-preserved c = (more (goal.at.loop-at-preserved c).After-output-at-in-loop-at).0

pub returns : goal.returns
returns c =
    let m = c.args.automaton.now.records.begun in
    let end = writing_end (patterns c.args.automaton.now.records) (made_good m) m.filled c.args.place c.args.hits.now _ c.loop-at.at c.loop-at.n
    c.loop-at.hits c.loop-at.invariant c.loop-at-test.false in
    record { value = end.0; hits_after = end.1 }
