-- All bits are shifted up by d in two steps, the second by one: so a distance 0 shifts them away.
use Rattle.compute_realization.proofs.OpenBits.{not_nearer_is}
use Rattle.compute_realization.proofs.not_nearer.Goals as goal

pub returns : goal.returns
returns c = λ j h. not_nearer_is c.args.d j c.requires h
