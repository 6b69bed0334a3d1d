-- The theorem is proved in FirstHit.antt.
use Rattle.runs.proofs.FirstHit.{first_hit}
use Rattle.runs.proofs.first_hit_reads_no_further.Goals as goal

pub returns : goal.returns
returns c = first_hit
