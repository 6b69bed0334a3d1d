-- `step` meets its contract: the value is read, and the hits at the node that it leads to are
-- written, and the rises over them.
use Rattle.std.specs.Prelude.{◌+◌, ◌≤◌}
use Rattle.lists.proofs.Prelude.{ap, sym, subst, ℕ, pos, length, get_or, arith}
use Rattle.automaton_model.specs.Automaton.{head_of, listed}
use Rattle.automaton_lookup.specs.View.{patterns}
use Rattle.automaton_lookup.proofs.Words.{made_good}
use Rattle.compute_rises.specs.Values.{value_in}
use Rattle.stream_step.proofs.Listed.{length-listed}
use Rattle.search_model.specs.Search.{Position}
use Rattle.read_value.specs.Read.{position_at}
use Rattle.stream_call.proofs.Taking.{step_depth}
use Rattle.stream_call.proofs.Stepping.{stepped}
use Rattle.stream_call.proofs.step.Goals.{After-read_value-read, Start}
use Rattle.stream_call.proofs.step.Goals as goal

abbrev from : Start → Position
from s = let a = s.args in position_at a.taken a.node a.first a.next a.places.now a.heights.now

-- no more hits are written than there are patterns
few : (c : After-read_value-read) →
    let ps = patterns c.args.automaton.now.records in
    length (listed ps (head_of ps c.read_value-read.result.node)) ≤ length ps
few c =
    let ps = patterns c.args.automaton.now.records in
    length-listed ps (made_good c.args.automaton.now.records.begun) (head_of ps c.read_value-read.result.node)

-- the node read is not deeper than the values taken with it
deep : (c : After-read_value-read) →
    length (head_of (patterns c.args.automaton.now.records) c.read_value-read.result.node) ≤ c.args.taken + 1
deep c =
    let ps = patterns c.args.automaton.now.records in
    let made = c.args.automaton.now.records.begun in
    subst (λ (n : ℕ). length (head_of ps n) ≤ c.args.taken + 1) (sym (ap (λ (p : Position). p.node) c.read_value-read.ensures.state))
    (step_depth ps (made_good made) made.filled (from (goal.at.After-read_value-read c).Start) (get_or c.args.readings.now.values.now c.args.i (pos 0))
    c.requires.depth)

pub write_hits-n-requires : goal.write_hits-n-requires
write_hits-n-requires c =
    let r = c.read_value-read in record {
      node = omega (arith, r.ensures.node, c.args.automaton.now.whole);
      room = omega (arith, few (goal.at.write_hits-n-requires c).After-read_value-read, c.requires.room.0);
    }

pub write_rises-requires : goal.write_rises-requires
write_rises-requires c =
    let r = c.read_value-read in record {
      node = omega (arith, r.ensures.node, c.args.automaton.now.whole);
      depth = omega (arith, deep (goal.at.write_rises-requires c).After-read_value-read);
      start = c.requires.start;
      within = omega (arith, c.requires.index, c.requires.place);
      room = omega (arith, few (goal.at.write_rises-requires c).After-read_value-read, c.requires.room.1);
    }

pub returns : goal.returns
returns c =
    let a = c.args in
    stepped (patterns a.automaton.now.records) (from (goal.at.returns c).Start) (get_or a.readings.now.values.now a.i (pos 0)) _ _ _ _
    (value_in a.readings.now) a.rises.now _
    c.read_value-read.result c.write_hits-n.result c.read_value-read.ensures c.write_hits-n.ensures.value c.write_hits-n.ensures.hits_after
    c.write_rises.ensures
