-- `write_records` meets its contract: before node n the array has the front and the words of the
-- nodes before it, and behind them the words that it had (`Along`, `Grown`). Nodes that are passed
-- over have their words already. The measure is the number of nodes left.
use Rattle.std.specs.Prelude.{◌+◌, ◌-◌, ◌*◌, ◌≤◌, ◌<◌}
use Rattle.lists.proofs.Prelude.{sym, subst, List, ℕ, arith}
use Rattle.automaton_model.proofs.Lengths.{length_automaton, length_record}
use Rattle.pattern_set.specs.PatternSet.{patterns_of}
use Rattle.set_access.proofs.Laws.{count_le}
use Rattle.automaton_rows.proofs.Sizes.{nodes_small}
use Rattle.automaton.proofs.Records.{begin_at, Grown, Grown-start, Grown-more, Grown-on, Grown-all}
use Rattle.automaton.proofs.Walk.{root_there, Along-start, Along-next, Missing-words}
use Rattle.automaton.proofs.building.write_records.Goals.{After-store_node, After-store_record, Start}
use Rattle.automaton.proofs.building.write_records.Goals as goal

-- neither number is large
sizes : (c : Start) → (c.args.k ≤ 64) × (c.args.count ≤ 4097)
sizes c =
    (omega (arith, count_le c.args.set.now c.requires.made.is_set, c.requires.made.patterns), omega (arith, nodes_small c.args.set.now c.requires.made.is_set))

-- the record of the root is written
rooted : (c : After-store_record)
    → Grown c.args.set.now c.args.out.now c.store_record.new.out c.args.k 1
rooted c =
    let size = sym (length_record (patterns_of c.args.set.now) 0) in
    let r = Grown-more (Grown-start c.requires.made) (root_there c.requires.made) _ (2 * c.args.k + 1) 8 (omega arith) c.root_record-root.ensures size in
    subst (λ (l : List ℕ). Grown c.args.set.now c.args.out.now l c.args.k 1) (sym c.store_record.ensures) r

-- they and those of the nodes before it are written
written : (c : After-store_node) →
    Grown c.args.set.now c.store_record.new.out c.store_node.new.out c.args.k (c.in-Some.wrong.node + 1)
written c =
    let s = c.in-Some.ensures in
    let n = c.in-Some.wrong.node in
    let positive : 0 < n = omega (arith, s.1, c.loop-wrong.invariant.0.positive) in
    let v = Missing-words c.in-Some.wrong positive s.3 in
    let g = Grown-more (Grown-on c.loop-wrong.invariant.1 (Grown-start s.0) s.1) (omega (arith, s.2, c.requires.count_value)) _
    (2 * c.args.k + 16 * n - 7) 16 (begin_at c.args.k n positive) v.0 v.1 in
    subst (λ (l : List ℕ). Grown c.args.set.now c.store_record.new.out l c.args.k (n + 1)) (sym c.store_node.ensures) g

pub overflow_mul-k : goal.overflow_mul-k
overflow_mul-k c = omega (arith, sizes (goal.at.overflow_mul-k c).Start)

pub overflow_add-k : goal.overflow_add-k
overflow_add-k c = omega (arith, sizes (goal.at.overflow_add-k c).Start)

pub store_record-requires : goal.store_record-requires
store_record-requires c =
    omega (arith, c.requires.made.room, length_automaton (patterns_of c.args.set.now), root_there c.requires.made, c.requires.made.patterns)

pub loop-wrong-init : goal.loop-wrong-init
loop-wrong-init c =
    let m = (rooted (goal.at.loop-wrong-init c).After-store_record).made in
    (Along-start c.requires.count_value m, Grown-start m)

pub overflow_mul-wrong : goal.overflow_mul-wrong
overflow_mul-wrong c = omega (arith, sizes (goal.at.overflow_mul-wrong c).Start, c.in-Some.ensures.2)

pub overflow_add-k-in-Some : goal.overflow_add-k-in-Some
overflow_add-k-in-Some c = omega (arith, sizes (goal.at.overflow_add-k-in-Some c).Start, c.in-Some.ensures.2)

pub store_node-requires : goal.store_node-requires
store_node-requires c =
    let s = c.in-Some.ensures in
    omega (
      arith,
      s.0.room,
      s.0.patterns,
      s.1,
      s.2,
      c.loop-wrong.invariant.0.positive,
      c.requires.count_value,
      length_automaton (patterns_of c.args.set.now),
    )

pub loop-wrong-preserved : goal.loop-wrong-preserved
loop-wrong-preserved c =
    let s = c.in-Some.ensures in
    let g = written (goal.at.loop-wrong-preserved c).After-store_node in
    (Along-next s.2 s.3.child s.3.ends g.made, g)

pub returns : goal.returns
returns c =
    let grown = Grown-on (rooted (goal.at.returns c).After-store_record) (Grown-on c.loop-wrong.invariant.1 (Grown-start c.in_default.ensures)
    c.loop-wrong.invariant.0.part) (omega (arith, c.loop-wrong.invariant.0.positive, c.loop-wrong.invariant.0.part)) in
    Grown-all grown c.requires.count_value
