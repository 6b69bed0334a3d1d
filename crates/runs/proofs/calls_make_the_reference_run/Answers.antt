-- The demand is proved in Demands.antt.
use Rattle.runs.proofs.Demands.{demand3}
use Rattle.runs.proofs.calls_make_the_reference_run.Goals as goal

pub returns : goal.returns
returns c = demand3
