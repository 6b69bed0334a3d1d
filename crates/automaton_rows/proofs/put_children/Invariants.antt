-- `put_children` meets its contract: the last of the children counted has the place before i
-- (`Counted`), and all of them are put. The place i is one of the same child, or the first of the
-- next one, as it shares more than the head with the place before, or just that. The measure is the
-- number of places left.
use Rattle.std.specs.Prelude.{◌≤◌}
use Rattle.lists.proofs.Prelude.{List, ℕ}
use Rattle.pattern_set.specs.PatternSet.{PatternSet}
use Rattle.automaton_lookup.specs.View.{patterns}
use Rattle.automaton_rows.specs.Rows.{Eight, word_with}
use Rattle.automaton_rows.proofs.Intervals.{Counted}
use Rattle.automaton_rows.proofs.put_children.Given as goal

-- the row with so many children from one with fewer
abbrev pub Puts : PatternSet → ℕ → ℕ → List ℕ → ℕ → List ℕ → Type 0
Puts ps n few before count after = (f : ℕ) → Eight (word_with ps n f few) before → Eight (word_with ps n f count) after

abbrev pub invariant-loop-i : goal.invariant-loop-i
invariant-loop-i l =
    Counted (patterns l.node.records) l.node.records.made l.count l.i × (l.count ≤ l.i) × Puts (patterns l.node.records) l.node.records.made 1 l.initial.row
    l.count l.row
