-- `next_parent` meets its contract: p is not behind the parent (invariant), and it is the parent as
-- soon as its children do not all come before n; the measure is how far it is from it.
use Rattle.std.specs.Prelude.{◌-◌, ◌≤◌}
use Rattle.automaton_lookup.specs.View.{patterns}
use Rattle.automaton_model.proofs.Children.{parent_node}
use Rattle.automaton_records.proofs.next_parent.Given as goal

abbrev pub invariant-loop-p : goal.invariant-loop-p
invariant-loop-p l = l.p ≤ parent_node (patterns l.records) l.records.made

abbrev pub decreases-loop-p : goal.decreases-loop-p
decreases-loop-p l = parent_node (patterns l.records) l.records.made - l.p
