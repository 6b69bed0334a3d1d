-- `take_values` meets its contract: what is done so far and then the call from the present position
-- are the whole call (`Taking`); and the counters of the ring.
use Rattle.std.specs.Prelude.{◌+◌}
use Rattle.search_model.specs.Recent.{found_at}
use Rattle.automaton_lookup.specs.View.{patterns}
use Rattle.open_minima.specs.Pushes.{AreCounters}
use Rattle.read_value.specs.Read.{position_at}
use Rattle.stream_call.proofs.Taking.{Taking}
use Rattle.stream_call.proofs.take_values.Given as goal

abbrev pub invariant-loop-i : goal.invariant-loop-i
invariant-loop-i l = record {
  taking : Taking (patterns l.automaton.records) (position_at l.taken l.node l.first l.next l.initial.places l.initial.heights) l.values l.initial.hits
      (found_at l.taken l.recent l.values) l.initial.rises
      (position_at (l.taken + l.i) l.at l.oldest l.newest l.places l.heights) l.i l.found l.attempts l.hits l.rises;
  counters : AreCounters (l.taken + l.i) l.oldest l.newest;
}
