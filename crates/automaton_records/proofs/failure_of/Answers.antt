-- `failure_of` meets its contract: the failure link of a child is where the step with its label
-- leads from that of its parent (`link_child`); the children of the root fail to it (`link_root`).
use Rattle.std.specs.Prelude.{◌∷◌, ◌++◌, ◌<◌}
use Rattle.lists.proofs.Prelude.{◌∙◌, ap, sym, [], ℕ, length, arith}
use Rattle.automaton_lookup.specs.View.{patterns}
use Rattle.matching.specs.Matching.{failure}
use Rattle.automaton_model.specs.Automaton.{nodes, head_of, node_of}
use Rattle.automaton_model.proofs.Children.{first_child_rises}
use Rattle.automaton_lookup.proofs.Words.{made_good}
use Rattle.automaton_records.proofs.Links.{link_root, link_child, failure_below}
use Rattle.automaton_records.proofs.failure_of.Goals as goal

pub returns-then-parent-eq0 : goal.returns-then-parent-eq0
returns-then-parent-eq0 c =
    let ps = patterns c.args.records.now in
    let v = c.args.label in
    link_root ps (made_good c.args.records.now.begun) c.args.records.now.begun.filled v
    ∙ ap (λ (p : ℕ). node_of ps (failure ps (head_of ps p ++ (v ∷ [])))) (sym c.if-parent-eq0.true)

pub advance-requires : goal.advance-requires
advance-requires c =
    let ps = patterns c.args.records.now in
    let p = c.args.parent in
    let link = c.failure-link.result in
    let f = failure_below ps (made_good c.args.records.now.begun) c.args.records.now.begun.filled p link (omega (arith, c.if-parent-eq0.false))
    (omega (arith, c.args.records.now.begun.within)) c.failure-link.ensures in
    let r = first_child_rises ps link p f in
    record {
      node_lt_made = (omega arith, omega arith);
    }

pub returns : goal.returns
returns c =
    let p = c.args.parent in
    let l : 0 < p = omega (arith, c.if-parent-eq0.false) in
    let h : p < length (nodes (patterns c.args.records.now)) = omega (arith, c.args.records.now.begun.within) in
    c.advance.ensures.node
    ∙ link_child (patterns c.args.records.now) (made_good c.args.records.now.begun) c.args.records.now.begun.filled p c.args.label l h c.requires.t
    c.failure-link.result
    c.failure-link.ensures
