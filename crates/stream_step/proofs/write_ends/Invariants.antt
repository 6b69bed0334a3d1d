-- `write_ends` meets its contract: the numbers of the order from the first place on are those of
-- the patterns that end at the node, lower number first, and after i turns the words of i of them
-- stand at the front of the array (`Ends`).
use Rattle.automaton_lookup.specs.View.{patterns}
use Rattle.automaton_model.specs.Automaton.{head_of}
use Rattle.stream_step.proofs.Writing.{Ends}
use Rattle.stream_step.proofs.write_ends.Given as goal

abbrev pub invariant-loop-i : goal.invariant-loop-i
invariant-loop-i l = Ends (patterns l.automaton.records) (head_of (patterns l.automaton.records) l.node) l.place l.automaton.records.k l.initial.hits
    l.first l.n l.i l.hits
