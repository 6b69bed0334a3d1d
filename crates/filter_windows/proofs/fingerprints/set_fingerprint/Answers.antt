-- A mask of b - 1 ones keeps the lowest bits, which are the fingerprint of the last b values.
use Rattle.filter_windows.proofs.Rolling.{masked}
use Rattle.filter_windows.proofs.fingerprints.set_fingerprint.Goals as goal

pub returns-clause-value : goal.returns-clause-value
returns-clause-value c = λ text e. masked c.args.bits c.args.b text c.requires.0 c.requires.1 e
