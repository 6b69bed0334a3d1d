-- `count_ends` meets its contract: all patterns from the first place up to i end at the node
-- (invariant), and the one at i does exactly if it is no longer than the head (`ends_more`,
-- `ends_stop`). The measure is the number of places left.
use Rattle.std.specs.Prelude.{◌+◌, ◌≤◌}
use Rattle.automaton_lookup.specs.View.{patterns}
use Rattle.automaton_model.specs.Automaton.{head_of, ends_at}
use Rattle.automaton_records.proofs.count_ends.Given as goal

abbrev pub invariant-loop-i : goal.invariant-loop-i
invariant-loop-i l = (l.place ≤ l.i) × (l.i ≤ l.place + ends_at (patterns l.node.records) (head_of (patterns l.node.records) l.node.records.made))
