-- The bit of the first place is 0, and that of a later one is asked for.
use Rattle.lists.proofs.Prelude.{arith}
use Rattle.filter_windows.proofs.Rolling.{new_bit_first}
use Rattle.filter_windows.proofs.fingerprints.new_bit.Goals as goal

pub returns-then-p-eq0 : goal.returns-then-p-eq0
returns-then-p-eq0 c = (new_bit_first c.args.text.now c.args.p c.if-p-eq0.true, omega arith)
