-- `next_place` meets its contract: the children's places lie side by side behind those of the
-- patterns that end at the parent (`place_first`, `place_next`).
use Rattle.lists.proofs.Prelude.{◌∙◌, arith}
use Rattle.automaton_lookup.specs.View.{patterns}
use Rattle.automaton_model.specs.Automaton.{head_of}
use Rattle.automaton_lookup.proofs.Words.{made_good}
use Rattle.automaton_lookup.proofs.Places.{ends_within}
use Rattle.automaton_records.proofs.Parents.{Child, parent_below, place_first, place_next}
use Rattle.lists.proofs.Prelude.{rules}
use Rattle.automaton_records.proofs.next_place.Goals.{Start}
use Rattle.automaton_records.proofs.next_place.Goals as goal

-- node n is a child of the parent
child : (c : Start) → Child (patterns c.args.records.now) c.args.parent c.args.records.now.made
child c =
    record {
      good = made_good c.args.records.now.begun;
      filled = c.args.records.now.begun.filled;
      positive = c.requires.n_nonzero.0;
      within = c.requires.n_nonzero.1;
      child =
          c.requires.child_node;
    }

pub first_child-requires : goal.first_child-requires
first_child-requires c =
    let b = parent_below (child (goal.at.first_child-requires c).Start) in
    search rules

pub first_place-requires : goal.first_place-requires
first_place-requires c =
    let b = parent_below (child (goal.at.first_place-requires c).Start) in
    search rules

pub ends-requires : goal.ends-requires
ends-requires c =
    let b = parent_below (child (goal.at.ends-requires c).Start) in
    search rules

pub overflow_add-result : goal.overflow_add-result
overflow_add-result c =
    let ps = patterns c.args.records.now in
    let w = ends_within ps (head_of ps c.args.parent) in
    search rules

pub returns-then-records-first_child : goal.returns-then-records-first_child
returns-then-records-first_child c =
    let e = place_first (child (goal.at.returns-then-records-first_child c).Start) (c.if-records-first_child.true ∙ c.first_child.ensures) in
    omega (arith, c.first_place.ensures, c.ends.ensures)

pub returns : goal.returns
returns c =
    let d = c.first_child.ensures in
    let f = c.if-records-first_child.false in
    c.requires.end_value (omega arith) ∙ place_next (child (goal.at.returns c).Start) (omega arith)
