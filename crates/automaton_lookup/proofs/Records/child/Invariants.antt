-- `child` meets its contract: the interval from lo to hi - 1 always holds the child, if there is
-- one (`Interval`), since the labels of the children rise; of an interval of one child the last
-- comparison tells. The measure is the interval's length, which a turn halves.
use Rattle.std.specs.Prelude.{◌-◌}
use Rattle.automaton_lookup.specs.View.{patterns}
use Rattle.automaton_lookup.proofs.ChildSearch.{Interval}
use Rattle.automaton_lookup.proofs.Records.child.Given as goal

abbrev pub invariant-loop-high : goal.invariant-loop-high
invariant-loop-high l = Interval (patterns l.self) l.node l.label l.low l.high

abbrev pub decreases-loop-high : goal.decreases-loop-high
decreases-loop-high l = l.high - l.low
