-- `make_row` meets its contract: the row of the failure link, then the children, then the distances
-- above the depth (`row_made`).
use Rattle.lists.proofs.Prelude.{subst, ℕ, arith}
use Rattle.automaton_lookup.specs.View.{patterns}
use Rattle.automaton_model.proofs.Nodes.{node_longer, failure_smaller}
use Rattle.automaton_lookup.proofs.Words.{made_good}
use Rattle.automaton_rows.specs.Rows.{Eight, word_with}
use Rattle.automaton_rows.proofs.Sizes.{depth_small}
use Rattle.automaton_rows.proofs.Rows.{row_start, row_made}
use Rattle.automaton_rows.proofs.make_row.Goals.{After-put_children-count}
use Rattle.automaton_rows.proofs.make_row.Goals as goal

-- the row with all children
put : (c : After-put_children-count) →
    let ps = patterns c.args.node.now.records in
    Eight (word_with ps c.args.node.now.records.made c.args.link c.put_children-count.result) c.put_children-count.new.row
put c =
    c.put_children-count.ensures.by_index c.args.link
    (row_start (patterns c.args.node.now.records) (made_good c.args.node.now.records.begun) c.args.node.now.records.begun.filled c.args.node.now.records.made
    c.args.node.now.number.1 c.args.link
    c.failure_row.new.row c.failure_row.ensures)

pub failure_row-requires : goal.failure_row-requires
failure_row-requires c =
    let ps = patterns c.args.node.now.records in
    let n = c.args.node.now.records.made in
    let g = made_good c.args.node.now.records.begun in
    let l = node_longer ps g c.args.node.now.records.begun.filled n c.args.node.now.number.0 c.args.node.now.number.1 in
    omega (arith, failure_smaller ps g n c.args.node.now.number.1 l, c.requires.link_value)

pub fill_above-requires : goal.fill_above-requires
fill_above-requires c =
    omega (
      arith,
      c.args.node.now.deep,
      depth_small c.args.node.now.records.set.now c.args.node.now.records.begun.is_set c.args.node.now.records.made c.args.node.now.number.1,
    )

pub returns : goal.returns
returns c =
    let ps = patterns c.args.node.now.records in
    let n = c.args.node.now.records.made in
    let e = c.put_children-count.ensures.value in
    let all = subst (λ (k : ℕ). Eight (word_with ps n c.args.link k) c.put_children-count.new.row) e (put (goal.at.returns c).After-put_children-count) in
    record {
      value = e;
      row_after = row_made ps (made_good c.args.node.now.records.begun) c.args.node.now.records.begun.filled n c.args.node.now.number.1 c.args.link
          c.args.node.now.depth
          c.put_children-count.new.row c.fill_above.new.row
          c.requires.link_value c.args.node.now.deep all c.fill_above.ensures;
    }
