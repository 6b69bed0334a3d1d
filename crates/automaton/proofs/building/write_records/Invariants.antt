-- `write_records` meets its contract: before node n the array has the front and the words of the
-- nodes before it, and behind them the words that it had (`Along`, `Grown`). Nodes that are passed
-- over have their words already. The measure is the number of nodes left.
use Rattle.std.specs.Prelude.{◌-◌}
use Rattle.automaton.specs.Walk.{Along}
use Rattle.automaton.proofs.Records.{Grown}
use Rattle.automaton.proofs.building.write_records.Given as goal

abbrev pub invariant-loop-wrong : goal.invariant-loop-wrong
invariant-loop-wrong l = Along l.set l.out l.k l.count l.parent l.end l.n × Grown l.set l.initial.out l.out l.k l.n

abbrev pub decreases-loop-wrong : goal.decreases-loop-wrong
decreases-loop-wrong l = l.count - l.n
