-- `write_rises` meets its contract: what is listed at the node given is what is done so far and
-- then what is listed at the present node (`Risen`); at the root nothing is. The measure is the
-- length of the present node's head: the output link of a failure link leads to a shorter one.
use Rattle.lists.proofs.Prelude.{length}
use Rattle.automaton_model.specs.Automaton.{head_of}
use Rattle.automaton_lookup.specs.View.{patterns}
use Rattle.compute_rises.specs.Values.{value_in}
use Rattle.node_rises.proofs.Rising.{Risen}
use Rattle.node_rises.proofs.write_rises.Given as goal

abbrev pub invariant-loop-at : goal.invariant-loop-at
invariant-loop-at l = Risen (patterns l.automaton.records) (value_in l.readings) l.place l.node l.initial.rises l.at l.n l.rises

abbrev pub decreases-loop-at : goal.decreases-loop-at
decreases-loop-at l = length (head_of (patterns l.automaton.records) l.at)
