-- A part that is no number, or for which there is no room; and no part left.
use Rattle.lists.proofs.Prelude.{arith}
use Rattle.hits_input.proofs.Lines.{fill_bad, fill_full, fill_end}
use Rattle.hits_input.proofs.read_line.Goals as goal

pub returns-in_err-number : goal.returns-in_err-number
returns-in_err-number c =
    rw c.from_residual.ensures (fill_bad c.loop-part.invariant c.in-Some.ensures.steps c.loop-part.out c.in_err-number.ensures)

pub returns-then-count-out : goal.returns-then-count-out
returns-then-count-out c =
    fill_full c.loop-part.invariant c.in-Some.ensures.steps c.loop-part.out (omega (arith, c.if-count-out.true, c.loop-part.auto.out))

pub returns : goal.returns
returns c = fill_end c.loop-part.invariant c.in-None.ensures.steps.0
