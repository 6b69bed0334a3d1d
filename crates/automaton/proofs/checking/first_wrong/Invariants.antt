-- Before node n the rows and records of the nodes before it are known to be right.
use Rattle.automaton.specs.Walk.{Along}
use Rattle.automaton.proofs.checking.first_wrong.Given as goal

abbrev pub invariant-loop-n : goal.invariant-loop-n
invariant-loop-n l = Along l.set l.words l.k l.count l.p l.e l.n
