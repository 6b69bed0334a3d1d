-- The children of a node are nodes, so the sum is small.
use Rattle.lists.proofs.Prelude.{arith}
use Rattle.automaton_lookup.specs.View.{patterns}
use Rattle.automaton_lookup.proofs.Words.{made_good}
use Rattle.automaton_model.proofs.Children.{children_within}
use Rattle.automaton_rows.proofs.Sizes.{nodes_small}
use Rattle.automaton_records.proofs.children_end.Goals as goal

pub overflow_add-result : goal.overflow_add-result
overflow_add-result c =
    let made = c.args.records.now.begun in
    let w = children_within (patterns c.args.records.now) (made_good made) made.filled c.args.node (omega arith) in
    omega (arith, w, nodes_small c.args.records.now.set.now made.is_set, c.first_child.ensures, c.children.ensures)
