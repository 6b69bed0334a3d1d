-- Before node n the rows and records of the nodes before it are known to be right (`Along`), so
-- that its own can be made and compared.
use Rattle.std.specs.Prelude.{◌≡◌, ◌++◌, ◌+◌, ◌-◌, ◌*◌}
use Rattle.lists.proofs.Prelude.{◌∙◌, sym, length, take, drop, arith}
use Rattle.lists.proofs.Same.{true-same}
use Rattle.automaton_model.proofs.Lengths.{length_automaton}
use Rattle.pattern_set.specs.PatternSet.{patterns_of}
use Rattle.automaton_lookup.specs.Places.{ChildNode}
use Rattle.automaton_records.specs.Words.{record_words}
use Rattle.automaton.proofs.Records.{words_of, begin_at, node_words_lem, Made-more}
use Rattle.automaton.proofs.Walk.{Along-place, Along-next}
use Rattle.automaton.proofs.checking.first_wrong.Goals.{After-make_record-made, After-next_parent-p}
use Rattle.automaton.proofs.checking.first_wrong.Goals as goal

-- the parent found is that of node n
child : (c : After-next_parent-p) → ChildNode (patterns_of c.args.set.now) c.next_parent-p.result c.loop-n.n
child c = rw (c.begun-before.ensures.set, c.begun-before.ensures.made) at c.next_parent-p.ensures

-- the row and the record made are the words of the node
made-words : (c : After-make_record-made) →
    let ps = patterns_of c.args.set.now in
    (c.make_record-made.new.row ++ record_words c.make_record-made.result.record ≡ words_of ps c.loop-n.n)
    × (16 ≡ length (words_of ps c.loop-n.n)) × (length c.make_record-made.new.row ≡ 8)
made-words c =
    node_words_lem (patterns_of c.args.set.now) c.loop-n.n _ _ c.loop-n.invariant.positive
    (rw (c.begun-before.ensures.set, c.begun-before.ensures.made) at c.make_record-made.ensures.row_after)
    (rw (c.begun-before.ensures.set, c.begun-before.ensures.made) at c.make_record-made.ensures.record_value)

pub next_place-place-requires-clause-end_value : goal.next_place-place-requires-clause-end_value
next_place-place-requires-clause-end_value c =
    rw (c.begun-before.ensures.set, c.begun-before.ensures.made)
    (Along-place c.requires.count_value c.loop-n.invariant (omega arith) c.next_parent-p.result
    (child (goal.at.next_place-place-requires-clause-end_value c).After-next_parent-p))

pub is_node-requires : goal.is_node-requires
is_node-requires c =
    let m = c.requires.along.made in
    omega (
      arith,
      m.room,
      length_automaton (patterns_of c.args.set.now),
      m.patterns,
      c.loop-n.invariant.positive,
      c.requires.count_value,
      c.loop-n-test.true,
    )

pub loop-n-preserved : goal.loop-n-preserved
loop-n-preserved c =
    let a = c.loop-n.invariant in
    let n = c.loop-n.n in
    let at = 2 * c.args.k + 16 * n - 7 in
    let w = made-words (goal.at.loop-n-preserved c).After-make_record-made in
    let e : take 16 (drop at c.args.words.now) ≡ words_of (patterns_of c.args.set.now) n =
    true-same _ _ (sym c.is_node.ensures ∙ c.if-not-is_node.false) ∙ w.0 in
    Along-next (omega (arith, c.loop-n-test.true)) (child (goal.at.loop-n-preserved c).After-next_parent-p)
    (rw (c.begun-before.ensures.set, c.begun-before.ensures.made) at c.make_record-made.ensures.end_value)
    (Made-more a.made (omega (arith, c.loop-n-test.true, c.requires.count_value)) at 16 (begin_at c.args.k n a.positive) w.1 e)
