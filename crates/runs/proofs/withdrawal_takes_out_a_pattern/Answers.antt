-- The theorem is proved in Withdrawing.antt.
use Rattle.runs.proofs.Withdrawing.{withdrawal_theorem}
use Rattle.runs.proofs.withdrawal_takes_out_a_pattern.Goals as goal

pub returns : goal.returns
returns c = withdrawal_theorem
