-- `advance` meets its contract: the step from the node given is always that from the present node,
-- with the attempts that missed so far (`Walk`), and where its row has the rest of the way the walk
-- ends. The measure is the present node's number: the failure links lead to smaller ones.
use Rattle.std.specs.Prelude.{◌≡◌, ◌+◌, ◌<◌}
use Rattle.lists.proofs.Prelude.{◌∙◌, ap, length, arith}
use Rattle.automaton_lookup.specs.View.{patterns}
use Rattle.automaton_model.specs.Automaton.{nodes}
use Rattle.automaton_lookup.specs.Made.{child_of}
use Rattle.automaton_lookup.proofs.Words.{made_good}
use Rattle.automaton_lookup.proofs.Walk.{Walk, label_for, Walk-start, Walk-children, Walk-on, Walk-end, Walk-row}
use Rattle.lists.proofs.Prelude.{rules}
use Rattle.automaton_lookup.proofs.Records.advance.Goals.{After-child-next, After-failure-at, Start}
use Rattle.automaton_lookup.proofs.Records.advance.Goals as goal

-- the node given is one of the automaton
within : (c : Start) → c.args.node < length (nodes (patterns c.args.self.now))
within c = omega (arith, c.args.self.now.begun.within, c.requires.node_lt_made.0)

-- what the look-up tells
looked : (c : After-child-next) →
    let ps = patterns c.args.self.now in
    let L = c.loop-found in
    c.child-next.result ≡ child_of ps L.at (label_for ps L.at c.args.distance)
looked c =
    c.child-next.ensures ∙ ap (child_of (patterns c.args.self.now) c.loop-found.at) c.label_for-label.ensures

-- the walk after the failure link
linked : (c : After-failure-at) →
    let L = c.loop-found in
    Walk (patterns c.args.self.now) c.args.node c.args.distance c.failure-at.result (L.missed + 1) × (c.failure-at.result < L.at)
linked c =
    let L = c.loop-found in
    let m = c.args.self.now.begun in
    Walk-on (patterns c.args.self.now) (made_good m) m.filled c.args.node c.args.distance (within (goal.at.After-failure-at c).Start) L.at L.missed
    c.child-next.result c.failure-at.result L.invariant (looked (goal.at.After-failure-at c).After-child-next) c.if-next-ne0.false c.failure-at.ensures

pub loop-found-init : goal.loop-found-init
loop-found-init c =
    let m = c.args.self.now.begun in
    Walk-start (patterns c.args.self.now) (made_good m) m.filled c.args.node c.args.distance (within (goal.at.loop-found-init c).Start)

pub near_step-found-requires : goal.near_step-found-requires
near_step-found-requires c =
    let L = c.loop-found in
    search rules

pub step_of-requires : goal.step_of-requires
step_of-requires c =
    let L = c.loop-found in
    omega (arith, L.invariant.small)

pub returns-then-label-lt8 : goal.returns-then-label-lt8
returns-then-label-lt8 c =
    let L = c.loop-found in
    let m = c.args.self.now.begun in
    let r =
    Walk-row (patterns c.args.self.now) (made_good m) m.filled c.args.node c.args.distance (within (goal.at.returns-then-label-lt8 c).Start) L.at L.missed
    c.near_step-found.result L.invariant c.label_for-label.result c.label_for-label.ensures c.near_step-found.ensures in
    record { node = c.step_of.ensures.0 ∙ r.node; attempts = c.step_of.ensures.1 ∙ r.attempts }

pub child-next-requires : goal.child-next-requires
child-next-requires c =
    let L = c.loop-found in
    let m = c.args.self.now.begun in record {
      node_lt_made = (
        omega (arith, L.invariant.within, c.requires.node_lt_made.0),
        Walk-children (patterns c.args.self.now) (made_good m) m.filled c.args.node c.args.distance (within (goal.at.child-next-requires c).Start) L.at
            L.missed
            c.args.self.now.made
            L.invariant c.requires.node_lt_made.1,
      );
    }

pub returns-then-next-ne0 : goal.returns-then-next-ne0
returns-then-next-ne0 c =
    let L = c.loop-found in
    let m = c.args.self.now.begun in
    Walk-end (patterns c.args.self.now) (made_good m) m.filled c.args.node c.args.distance (within (goal.at.returns-then-next-ne0 c).Start) L.at L.missed
    c.child-next.result L.invariant (looked (goal.at.returns-then-next-ne0 c).After-child-next) c.if-next-ne0.true

pub loop-found-smaller : goal.loop-found-smaller
loop-found-smaller c = (linked (goal.at.loop-found-smaller c).After-failure-at).1

pub loop-found-preserved : goal.loop-found-preserved
loop-found-preserved c = (linked (goal.at.loop-found-preserved c).After-failure-at).0
