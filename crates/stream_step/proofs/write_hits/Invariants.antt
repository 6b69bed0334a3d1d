-- `write_hits` meets its contract: what is listed at the node given is what is written so far and
-- then what is listed at the present node (`Written`); at the root nothing is. The measure is the
-- length of the present node's head: the output link of a failure link leads to a shorter one.
use Rattle.lists.proofs.Prelude.{length}
use Rattle.automaton_lookup.specs.View.{patterns}
use Rattle.automaton_model.specs.Automaton.{head_of, listed}
use Rattle.stream_step.proofs.Writing.{Written}
use Rattle.stream_step.proofs.write_hits.Given as goal

abbrev pub invariant-loop-at : goal.invariant-loop-at
invariant-loop-at l =
    Written (patterns l.automaton.records) l.place l.initial.hits (listed (patterns l.automaton.records) (head_of (patterns l.automaton.records) l.node))
    l.at l.n l.hits

abbrev pub decreases-loop-at : goal.decreases-loop-at
decreases-loop-at l = length (head_of (patterns l.automaton.records) l.at)
