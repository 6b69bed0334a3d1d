-- `interval_end` meets its contract: the place before i holds a pattern that begins with the head
-- (invariant), so the pattern at i does exactly if they share as many distances as the head has
-- (`interval_more`, `interval_stops`). The measure is the number of places left.
use Rattle.std.specs.Prelude.{◌≤◌, ◌<◌}
use Rattle.automaton_lookup.specs.View.{patterns}
use Rattle.automaton_lookup.specs.Places.{end_of}
use Rattle.automaton_records.proofs.interval_end.Given as goal

abbrev pub invariant-loop-i : goal.invariant-loop-i
invariant-loop-i l = (l.place < l.i) × (l.i ≤ end_of (patterns l.node.records) l.node.records.made)
