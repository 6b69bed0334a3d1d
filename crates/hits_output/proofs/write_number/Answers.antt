-- No digit is still to be written.
use Rattle.hits_output.proofs.Digits.{spell_end}
use Rattle.hits_output.proofs.write_number.Goals as goal

pub returns-clause-out_after : goal.returns-clause-out_after
returns-clause-out_after c = spell_end c.loop-i.rest c.loop-i.i c.loop-i.out _ c.loop-i-test.false c.loop-i.invariant
