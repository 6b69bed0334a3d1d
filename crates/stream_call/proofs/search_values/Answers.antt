-- `search_values` meets its contract: the values are taken from the position of the state, and
-- those taken are kept (`Leaving`).
use Rattle.lists.proofs.Prelude.{◌∙◌, arith}
use Rattle.automaton_lookup.specs.View.{patterns}
use Rattle.automaton_model.proofs.Lengths.{length-nodes}
use Rattle.set_access.proofs.Laws.{total_le}
use Rattle.search_model.specs.Search.{position_of}
use Rattle.search_model.proofs.Accepted.{Accepted, state-Accepted}
use Rattle.stream_call.proofs.Leaving.{entered-ring, entered_counters, done_is, kept_is}
use Rattle.stream_call.proofs.search_values.Goals.{Start}
use Rattle.stream_call.proofs.search_values.Goals as goal

known : (c : Start) → Accepted (patterns c.args.automaton.now.records) (position_of c.args.search.now.state)
known c = state-Accepted (patterns c.args.automaton.now.records) c.args.search.now.state c.requires.good

pub take_values-t-requires : goal.take_values-t-requires
take_values-t-requires c =
    let ps = patterns c.args.automaton.now.records in
    let st = c.args.search.now.state in
    let k = known (goal.at.take_values-t-requires c).Start in record {
      sized = c.requires.sized;
      are_counters = entered_counters ps st c.requires.good;
      taken = c.requires.taken;
      node = omega (arith, k.node, c.args.automaton.now.whole);
      depth = k.depth;
      ring = entered-ring ps st c.requires.good;
      arrays = c.requires.arrays;
    }

pub overflow_cast-search-3 : goal.overflow_cast-search-3
overflow_cast-search-3 c =
    let m = c.args.automaton.now.records.begun in
    omega (
      arith,
      c.take_values-t.ensures.node,
      length-nodes (patterns c.args.automaton.now.records),
      total_le c.args.automaton.now.records.set.now m.is_set,
    )

pub returns-clause-state : goal.returns-clause-state
returns-clause-state c =
    c.keep_values.ensures
    ∙ kept_is (patterns c.args.automaton.now.records) c.args.search.now.state c.args.values.now _ _ _ _ _ _ _ c.take_values-t.result c.take_values-t.ensures

pub returns-clause-done : goal.returns-clause-done
returns-clause-done c =
    done_is (patterns c.args.automaton.now.records) c.args.search.now.state c.args.values.now _ _ _ _ _ _ _ c.take_values-t.result c.take_values-t.ensures
