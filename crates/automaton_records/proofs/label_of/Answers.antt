-- The pattern at the first place begins with the head.
use Rattle.std.specs.Prelude.{◌≡◌, ◌-◌, ◌≤◌, ◌<◌}
use Rattle.lists.proofs.Prelude.{◌∙◌, ap, List, ℕ, length, get_or, arith}
use Rattle.automaton_lookup.specs.View.{patterns}
use Rattle.automaton_model.specs.Automaton.{head_of}
use Rattle.automaton_lookup.proofs.Words.{made_good}
use Rattle.automaton_model.proofs.Nodes.{node_head, node_longer}
use Rattle.automaton_model.proofs.Order.{pattern_at}
use Rattle.automaton_lookup.specs.Places.{place_of}
use Rattle.automaton_rows.proofs.Intervals.{label_at, first_place-length}
use Rattle.automaton_records.proofs.label_of.Goals.{After-pattern_at-pattern, Start}
use Rattle.automaton_records.proofs.label_of.Goals as goal

-- the head has a distance
longer : (c : Start) → 0 < length (head_of (patterns c.args.node.now.records) c.args.node.now.records.made)
longer c =
    let made = c.args.node.now.records.begun in
    node_longer (patterns c.args.node.now.records) (made_good made) made.filled c.args.node.now.records.made c.args.node.now.number.0 c.args.node.now.number.1

-- the pattern read is that of the first place
first : (c : After-pattern_at-pattern) →
    let ps = patterns c.args.node.now.records in
    c.pattern_at-pattern.result.now ≡ pattern_at ps (place_of ps c.args.node.now.records.made)
first c = c.pattern_at-pattern.ensures ∙ ap (pattern_at (patterns c.args.node.now.records)) c.requires.place_value

pub pattern_at-pattern-requires : goal.pattern_at-pattern-requires
pattern_at-pattern-requires c =
    let ps = patterns c.args.node.now.records in
    let n = c.args.node.now.records.made in
    omega (arith, c.requires.place_value, (first_place-length ps (head_of ps n) (node_head ps n c.args.node.now.number.1).0).0)

pub overflow_sub-result : goal.overflow_sub-result
overflow_sub-result c = omega (arith, c.args.node.now.deep, longer (goal.at.overflow_sub-result c).Start)

-- and the pattern has as many as the head, or more
within : (c : After-pattern_at-pattern) → c.args.node.now.depth ≤ length c.pattern_at-pattern.result.now
within c =
    let ps = patterns c.args.node.now.records in
    let n = c.args.node.now.records.made in
    omega (arith, c.args.node.now.deep, ap length (first c), (first_place-length ps (head_of ps n) (node_head ps n c.args.node.now.number.1).0).1)

pub offset_bounds-pattern-node : goal.offset_bounds-pattern-node
offset_bounds-pattern-node c = omega (arith, within (goal.at.offset_bounds-pattern-node c).After-pattern_at-pattern)

pub bounds-pattern-node : goal.bounds-pattern-node
bounds-pattern-node c =
    omega (
      arith,
      c.args.node.now.deep,
      longer (goal.at.bounds-pattern-node c).Start,
      within (goal.at.bounds-pattern-node c).After-pattern_at-pattern,
    )

pub returns : goal.returns
returns c =
    let ps = patterns c.args.node.now.records in
    let n = c.args.node.now.records.made in
    ap (λ (l : List ℕ). get_or l (c.args.node.now.depth - 1) 0) (first (goal.at.returns c).After-pattern_at-pattern)
    ∙ label_at ps (head_of ps n) c.args.node.now.depth (node_head ps n c.args.node.now.number.1).0 (longer (goal.at.returns c).Start) c.args.node.now.deep
