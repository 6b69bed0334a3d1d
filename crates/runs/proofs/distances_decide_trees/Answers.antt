-- The demand is proved in Demands.antt.
use Rattle.runs.proofs.Demands.{demand2}
use Rattle.runs.proofs.distances_decide_trees.Goals as goal

pub returns : goal.returns
returns c = demand2
