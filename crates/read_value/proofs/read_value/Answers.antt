-- `read_value` meets its contract: a gap clears the open minima; of a sample the push gives the
-- distance and the open minima, and the advance the node and the attempts.
use Rattle.std.specs.Prelude.{◌<◌}
use Rattle.lists.proofs.Prelude.{◌∙◌, sym, refl, pos, length, get_or, arith}
use Rattle.automaton_model.specs.Automaton.{nodes}
use Rattle.automaton_model.proofs.Children.{children_within}
use Rattle.automaton_lookup.specs.View.{patterns}
use Rattle.automaton_lookup.proofs.Words.{made_good}
use Rattle.read_value.specs.Read.{position_at}
use Rattle.read_value.proofs.Reading.{read_gap, read_sample}
use Rattle.read_value.proofs.read_value.Goals as goal

pub returns-then-is_gap : goal.returns-then-is_gap
returns-then-is_gap c =
    let a = c.args in
    let made = c.args.automaton.now.records.begun in
    read_gap (patterns a.automaton.now.records) (made_good made) made.filled
    (position_at a.taken a.node a.first a.next a.places.now a.heights.now) (get_or a.values.now a.i (pos 0))
    a.first a.next a.places.now a.heights.now (sym c.is_gap.ensures ∙ c.if-is_gap.true) refl c.requires.are_counters.0

pub advance-a-requires : goal.advance-a-requires
advance-a-requires c =
    let ps = patterns c.args.automaton.now.records in
    let m = c.args.automaton.now.records.begun in
    let node : c.args.node < length (nodes ps) = omega (arith, c.requires.node, c.args.automaton.now.whole) in
    let r = children_within ps (made_good m) m.filled c.args.node node in
    record { node_lt_made = (c.requires.node, omega (arith, r, c.args.automaton.now.whole)) }

pub returns : goal.returns
returns c =
    let a = c.args in
    let made = c.args.automaton.now.records.begun in
    read_sample (patterns a.automaton.now.records) (made_good made) made.filled
    (position_at a.taken a.node a.first a.next a.places.now a.heights.now) (get_or a.values.now a.i (pos 0)) _ _
    c.push_minimum-p.result c.advance-a.result.node c.advance-a.result.attempts
    (sym c.is_gap.ensures ∙ c.if-is_gap.false) c.push_minimum-p.ensures c.advance-a.ensures
