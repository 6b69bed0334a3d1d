-- `next_parent` meets its contract: p is not behind the parent (invariant), and it is the parent as
-- soon as its children do not all come before n; the measure is how far it is from it.
use Rattle.std.specs.Prelude.{◌≡◌, ◌+◌, ◌<◌}
use Rattle.lists.proofs.Prelude.{ap, arith}
use Rattle.automaton_lookup.specs.View.{patterns}
use Rattle.automaton_lookup.proofs.Words.{made_good}
use Rattle.automaton_model.specs.Automaton.{children, first_child}
use Rattle.automaton_model.proofs.Children.{parent_node}
use Rattle.automaton_records.proofs.Parents.{parent_range, parent_smaller, parent_from, parent_later, parent_found}
use Rattle.lists.proofs.Prelude.{rules}
use Rattle.automaton_records.proofs.next_parent.Goals.{In-loop-p, Start}
use Rattle.automaton_records.proofs.next_parent.Goals as goal

-- the parent has the smaller number
smaller : (c : Start) → parent_node (patterns c.args.records.now) c.args.records.now.made < c.args.records.now.made
smaller c =
    parent_smaller (patterns c.args.records.now) (made_good c.args.records.now.begun) c.args.records.now.begun.filled c.args.records.now.made
    c.requires.n_nonzero.0 c.requires.n_nonzero.1

-- a node whose children all come before n is before the parent
later : (c : In-loop-p) →
    c.loop-p.p < parent_node (patterns c.args.records.now) c.args.records.now.made
later c =
    parent_later (patterns c.args.records.now) (made_good c.args.records.now.begun) c.args.records.now.begun.filled c.args.records.now.made
    c.requires.n_nonzero.0 c.requires.n_nonzero.1
    c.loop-p.p
    (omega (arith, c.children_end.ensures, c.loop-p-test.true))

pub loop-p-init : goal.loop-p-init
loop-p-init c =
    parent_from (patterns c.args.records.now) (made_good c.args.records.now.begun) c.args.records.now.begun.filled c.args.records.now.made
    c.requires.n_nonzero.0 c.requires.n_nonzero.1
    c.args.parent c.requires.parent_bound

pub children_end-requires : goal.children_end-requires
children_end-requires c =
    let b = smaller (goal.at.children_end-requires c).Start in
    search rules

pub returns : goal.returns
returns c =
    let ps = patterns c.args.records.now in
    let n = c.args.records.now.made in
    let g = made_good c.args.records.now.begun in
    let z = c.args.records.now.begun.filled in
    let q : n < first_child ps c.loop-p.p + children ps c.loop-p.p = omega (arith, c.children_end.ensures, c.loop-p-test.false) in
    let e : c.loop-p.p ≡ parent_node ps n = parent_found ps g z n c.requires.n_nonzero.0 c.requires.n_nonzero.1 c.loop-p.p c.loop-p.invariant q in
    let r = parent_range ps g z n c.requires.n_nonzero.0 c.requires.n_nonzero.1 in
    (omega (arith, ap (first_child ps) e, r.0), q)

pub overflow_add-p : goal.overflow_add-p
overflow_add-p c =
    let b = smaller (goal.at.overflow_add-p c).Start in
    search rules

pub loop-p-smaller : goal.loop-p-smaller
loop-p-smaller c =
    let m = later (goal.at.loop-p-smaller c).In-loop-p in
    omega arith

pub loop-p-preserved : goal.loop-p-preserved
loop-p-preserved c =
    let m = later (goal.at.loop-p-preserved c).In-loop-p in
    omega arith
