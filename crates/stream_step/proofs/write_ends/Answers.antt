-- `write_ends` meets its contract: the numbers of the order from the first place on are those of
-- the patterns that end at the node, lower number first, and after i turns the words of i of them
-- stand at the front of the array (`Ends`).
use Rattle.std.specs.Prelude.{◌+◌}
use Rattle.lists.proofs.Prelude.{length-set, arith}
use Rattle.pattern_set.proofs.Good.{good_set_parts}
use Rattle.automaton_lookup.specs.View.{patterns}
use Rattle.automaton_model.specs.Automaton.{head_of}
use Rattle.automaton_lookup.proofs.Words.{made_good}
use Rattle.stream_step.proofs.Writing.{Ends-start, Ends-more, Ends-end, number_small}
use Rattle.stream_step.proofs.write_ends.Goals as goal

pub loop-i-init : goal.loop-i-init
loop-i-init c =
    let ps = patterns c.args.automaton.now.records in
    Ends-start ps (head_of ps c.args.node) c.args.place c.args.automaton.now.records.k c.args.hits.now c.first_place-first.result c.ends-n.result
    c.args.automaton.now.records.begun.patterns c.first_place-first.ensures c.ends-n.ensures c.requires.room

pub overflow_add-first : goal.overflow_add-first
overflow_add-first c =
    let m = c.args.automaton.now.records.begun in
    omega (arith, c.loop-i.invariant.order, m.patterns, (good_set_parts (patterns c.args.automaton.now.records) (made_good m)).0)

pub overflow_cast-hits : goal.overflow_cast-hits
overflow_cast-hits c =
    let r =
    number_small (patterns c.args.automaton.now.records) (made_good c.args.automaton.now.records.begun) (c.first_place-first.result + c.loop-i.i)
    c.pattern_in_order-number.result
    (omega arith)
    c.pattern_in_order-number.ensures in
    omega arith

pub bounds-hits-i-in-loop-i : goal.bounds-hits-i-in-loop-i
bounds-hits-i-in-loop-i c = simp length-set (omega arith)

pub loop-i-preserved : goal.loop-i-preserved
loop-i-preserved c =
    let ps = patterns c.args.automaton.now.records in
    Ends-more ps (head_of ps c.args.node) c.args.place c.args.automaton.now.records.k c.args.hits.now c.first_place-first.result c.ends-n.result
    c.loop-i.i c.loop-i.hits
    c.pattern_in_order-number.result c.loop-i.invariant (omega arith) c.pattern_in_order-number.ensures

pub returns : goal.returns
returns c =
    let ps = patterns c.args.automaton.now.records in
    let end = Ends-end ps (head_of ps c.args.node) c.args.place c.args.automaton.now.records.k c.args.hits.now c.first_place-first.result c.ends-n.result
    c.loop-i.i c.loop-i.hits c.loop-i.invariant (omega arith) in
    record { value = end.0; hits_after = end.1 }
