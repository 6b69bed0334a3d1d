-- A good array holds its patterns.
use Rattle.set_access.proofs.Laws.{holds}
use Rattle.set_access.proofs.Patterns.of.Goals as goal

pub invariant_of-result : goal.invariant_of-result
invariant_of-result c = holds c.args.words.now c.requires
