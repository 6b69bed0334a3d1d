-- `is_eight` meets its contract: the loop keeps that the first i words are the same (`Alike`).
use Rattle.automaton.proofs.EightWords.{Alike}
use Rattle.automaton.proofs.checking.is_eight.Given as goal

abbrev pub invariant-loop-i : goal.invariant-loop-i
invariant-loop-i l = Alike l.words l.wanted l.at l.i
