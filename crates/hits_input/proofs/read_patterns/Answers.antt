-- The patterns of the lines that are taken lie in the arrays.
use Rattle.std.proofs.Common.{rules}
use Rattle.lists.proofs.Prelude.{arith}
use Rattle.hits_input.proofs.Inputs.{lines_start, lines_over, lines_empty, lines_bad, lines_room, lines_more}
use Rattle.hits_input.proofs.read_patterns.Goals as goal

pub loop-line-init : goal.loop-line-init
loop-line-init c = (tt, tt, lines_start _ _ _ (search rules) (search rules))

pub returns-then-is_empty : goal.returns-then-is_empty
returns-then-is_empty c = lines_empty c.loop-line.invariant.2 c.in-Some.ensures.steps (search rules)

pub returns-in_err-filled : goal.returns-in_err-filled
returns-in_err-filled c =
    rw c.from_residual.ensures
    (lines_bad c.loop-line.invariant.2 c.in-Some.ensures.steps (search rules) c.read_line.new.out c.in_err-filled.ensures)

pub overflow_add-filled : goal.overflow_add-filled
overflow_add-filled c =
    record { fits = omega (arith, lines_room c.loop-line.invariant.2 c.in-Some.ensures.steps (search rules) _ _ c.read_line.auto.out c.in_ok-filled.ensures) }

pub overflow_cast-ends : goal.overflow_cast-ends
overflow_cast-ends c =
    record { fits = omega (arith, lines_room c.loop-line.invariant.2 c.in-Some.ensures.steps (search rules) _ _ c.read_line.auto.out c.in_ok-filled.ensures) }

pub bounds-ends-count : goal.bounds-ends-count
bounds-ends-count c = omega (arith, lines_room c.loop-line.invariant.2 c.in-Some.ensures.steps (search rules) _ _ c.read_line.auto.out c.in_ok-filled.ensures)

pub loop-line-preserved : goal.loop-line-preserved
loop-line-preserved c =
    (tt, tt, lines_more c.loop-line.invariant.2 c.in-Some.ensures.steps (search rules) _ _ c.read_line.auto.out c.in_ok-filled.ensures)

pub returns : goal.returns
returns c = lines_over c.loop-line.invariant.2 (search rules)
