-- `advance` meets its contract: the step from the node given is always that from the present node,
-- with the attempts that missed so far (`Walk`), and where its row has the rest of the way the walk
-- ends. The measure is the present node's number: the failure links lead to smaller ones.
use Rattle.automaton_lookup.specs.View.{patterns}
use Rattle.automaton_lookup.proofs.Walk.{Walk}
use Rattle.automaton_lookup.proofs.Records.advance.Given as goal

abbrev pub invariant-loop-found : goal.invariant-loop-found
invariant-loop-found l = Walk (patterns l.self) l.node l.distance l.at l.missed

abbrev pub decreases-loop-found : goal.decreases-loop-found
decreases-loop-found l = l.at
