-- The cases are proved in Worked.antt.
use Rattle.worked_cases.proofs.Worked.{worked}
use Rattle.worked_cases.proofs.worked_cases_hold.Goals as goal

pub returns : goal.returns
returns c = worked
