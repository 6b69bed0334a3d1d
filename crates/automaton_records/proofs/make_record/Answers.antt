-- `make_record` meets its contract: each number is what the functions below ensure, of the head of
-- node n, which is its parent's and the label. All of them are small.
use Rattle.std.specs.Prelude.{◌≡◌, ◌∷◌, ◌++◌, ◌+◌, ◌≤◌}
use Rattle.lists.proofs.Prelude.{◌∙◌, ap, sym, subst, List, [], ℕ, T, length, arith}
use Rattle.automaton_lookup.specs.View.{patterns}
use Rattle.matching.specs.Matching.{is_head, failure}
use Rattle.automaton_model.specs.Automaton.{nodes, head_of, node_of, children, first_child}
use Rattle.automaton_model.proofs.Nodes.{node_head}
use Rattle.automaton_model.proofs.Children.{first_child_next, children_within}
use Rattle.automaton_model.proofs.Chains.{output_head}
use Rattle.automaton_lookup.proofs.Words.{made_good}
use Rattle.automaton_records.proofs.Parents.{Child, parent_below, child_depth, child_label}
use Rattle.automaton_records.proofs.Links.{failure_below}
use Rattle.automaton_rows.proofs.Sizes.{nodes_small, depth_small, places_small}
use Rattle.automaton_records.proofs.Records.{record_is}
use Rattle.lists.proofs.Prelude.{rules}
use Rattle.automaton_records.proofs.make_record.Goals.{After-depth-depth, After-failure_of-link, After-label_of-label, Start}
use Rattle.automaton_records.proofs.make_record.Goals as goal

-- node n is a child of the parent
child : (c : Start) → Child (patterns c.args.records.now) c.args.parent c.args.records.now.made
child c =
    record {
      good = made_good c.args.records.now.begun;
      filled = c.args.records.now.begun.filled;
      positive = c.requires.n_nonzero.0;
      within = c.requires.n_nonzero.1;
      child =
          c.requires.child_node;
    }

-- the depth is that of its head
depth-known : (c : After-depth-depth) →
    c.depth-depth.result + 1 ≡ length (head_of (patterns c.args.records.now) c.args.records.now.made)
depth-known c = omega (arith, c.depth-depth.ensures, child_depth (child (goal.at.After-depth-depth c).Start))

-- its head is the parent's and the label
head-known : (c : After-label_of-label) →
    let ps = patterns c.args.records.now in
    head_of ps c.args.records.now.made ≡ head_of ps c.args.parent ++ (c.label_of-label.result ∷ [])
head-known c = child_label (child (goal.at.After-label_of-label c).Start) c.label_of-label.result c.label_of-label.ensures

-- and the failure link is that of its head
link-known : (c : After-failure_of-link) →
    let ps = patterns c.args.records.now in
    c.failure_of-link.result ≡ node_of ps (failure ps (head_of ps c.args.records.now.made))
link-known c =
    let ps = patterns c.args.records.now in
    c.failure_of-link.ensures ∙ ap (λ (h : List ℕ). node_of ps (failure ps h)) (sym (head-known (goal.at.After-failure_of-link c).After-label_of-label))

pub depth-depth-requires : goal.depth-depth-requires
depth-depth-requires c =
    let b = parent_below (child (goal.at.depth-depth-requires c).Start) in
    search rules

pub overflow_add-depth : goal.overflow_add-depth
overflow_add-depth c =
    let d = depth-known (goal.at.overflow_add-depth c).After-depth-depth in
    let m = depth_small c.args.records.now.set.now c.args.records.now.begun.is_set c.args.records.now.made c.requires.n_nonzero.1 in
    search rules

pub invariant_of-node-clause-deep : goal.invariant_of-node-clause-deep
invariant_of-node-clause-deep c = depth-known (goal.at.invariant_of-node-clause-deep c).After-depth-depth

pub failure_of-link-requires-clause-parent_lt_made : goal.failure_of-link-requires-clause-parent_lt_made
failure_of-link-requires-clause-parent_lt_made c =
    (parent_below (child (goal.at.failure_of-link-requires-clause-parent_lt_made c).Start), c.requires.child_node.0)

pub failure_of-link-requires-clause-t : goal.failure_of-link-requires-clause-t
failure_of-link-requires-clause-t c =
    let ps = patterns c.args.records.now in
    subst (λ (h : List ℕ). T (is_head ps h)) (head-known (goal.at.failure_of-link-requires-clause-t c).After-label_of-label)
    (node_head ps c.args.records.now.made c.requires.n_nonzero.1).0

pub output_of-output-requires : goal.output_of-output-requires
output_of-output-requires c = record {
  link_value = (link-known (goal.at.output_of-output-requires c).After-failure_of-link, c.count_ends-ends.ensures);
}

pub overflow_add-place : goal.overflow_add-place
overflow_add-place c =
    let w = places_small c.args.records.now.set.now c.args.records.now.begun.is_set c.args.records.now.made in
    omega (arith, w.0, w.1, c.count_ends-ends.ensures, c.requires.place_value)

pub make_row-count-requires-clause-link_value : goal.make_row-count-requires-clause-link_value
make_row-count-requires-clause-link_value c = link-known (goal.at.make_row-count-requires-clause-link_value c).After-failure_of-link

pub make_row-count-requires-clause-first_value : goal.make_row-count-requires-clause-first_value
make_row-count-requires-clause-first_value c = (
  c.children_end-first.ensures ∙ first_child_next (patterns c.args.records.now) c.args.records.now.made c.requires.n_nonzero.0,
  c.interval_end-end.ensures,
)

-- no node has a number above 4097
few : (c : Start) → length (nodes (patterns c.args.records.now)) ≤ 4097
few c = nodes_small c.args.records.now.set.now c.args.records.now.begun.is_set

-- nor has a node's child
first-few : (c : Start) → first_child (patterns c.args.records.now) c.args.records.now.made
    + children (patterns c.args.records.now) c.args.records.now.made ≤ 4097
first-few c =
    omega (
      arith,
      few c,
      children_within (patterns c.args.records.now) (made_good c.args.records.now.begun) c.args.records.now.begun.filled c.args.records.now.made
          c.requires.n_nonzero.1,
    )

pub overflow_cast-record : goal.overflow_cast-record
overflow_cast-record c =
    let d = depth-known (goal.at.overflow_cast-record c).After-depth-depth in
    omega (arith, d, depth_small c.args.records.now.set.now c.args.records.now.begun.is_set c.args.records.now.made c.requires.n_nonzero.1)

pub overflow_cast-record-2 : goal.overflow_cast-record-2
overflow_cast-record-2 c =
    let made = c.args.records.now.begun in
    omega (
      arith,
      few (goal.at.overflow_cast-record-2 c).Start,
      c.requires.n_nonzero.1,
      failure_below (patterns c.args.records.now) (made_good made) made.filled c.args.records.now.made c.failure_of-link.result c.requires.n_nonzero.0
          c.requires.n_nonzero.1
          (link-known (goal.at.overflow_cast-record-2 c).After-failure_of-link),
    )

pub overflow_cast-record-3 : goal.overflow_cast-record-3
overflow_cast-record-3 c =
    let made = c.args.records.now.begun in
    omega (
      arith,
      few (goal.at.overflow_cast-record-3 c).Start,
      (output_head (patterns c.args.records.now) (made_good made) made.filled c.args.records.now.made c.output_of-output.result c.requires.n_nonzero.1
          c.output_of-output.ensures).0,
    )

pub overflow_cast-record-4 : goal.overflow_cast-record-4
overflow_cast-record-4 c =
    let next = first_child_next (patterns c.args.records.now) c.args.records.now.made c.requires.n_nonzero.0 in
    omega (arith, first-few (goal.at.overflow_cast-record-4 c).Start, c.children_end-first.ensures)

pub overflow_cast-record-5 : goal.overflow_cast-record-5
overflow_cast-record-5 c = omega (arith, first-few (goal.at.overflow_cast-record-5 c).Start, c.make_row-count.ensures.value)

pub overflow_cast-record-6 : goal.overflow_cast-record-6
overflow_cast-record-6 c =
    omega (
      arith,
      c.requires.place_value,
      (places_small c.args.records.now.set.now c.args.records.now.begun.is_set c.args.records.now.made).0,
    )

pub overflow_cast-record-7 : goal.overflow_cast-record-7
overflow_cast-record-7 c =
    omega (
      arith,
      c.count_ends-ends.ensures,
      (places_small c.args.records.now.set.now c.args.records.now.begun.is_set c.args.records.now.made).1,
    )

pub returns-clause-record_value : goal.returns-clause-record_value
returns-clause-record_value c =
    let ps = patterns c.args.records.now in
    let n = c.args.records.now.made in
    record_is ps n (c.depth-depth.result + 1) c.label_of-label.result c.failure_of-link.result c.output_of-output.result c.children_end-first.result
    c.make_row-count.result c.args.place c.count_ends-ends.result
    (depth-known (goal.at.returns-clause-record_value c).After-depth-depth) c.label_of-label.ensures
    (link-known (goal.at.returns-clause-record_value c).After-failure_of-link)
    c.output_of-output.ensures (c.children_end-first.ensures ∙ first_child_next ps n c.requires.n_nonzero.0)
    c.make_row-count.ensures.value c.requires.place_value c.count_ends-ends.ensures
