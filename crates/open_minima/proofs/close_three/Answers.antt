-- `close_three` meets its contract: as many of the three newest open minima are closed as fail the
-- test before the first that holds (`three_closed`).
use Rattle.lists.proofs.Prelude.{pos, get_or, arith}
use Rattle.open_minima.proofs.Pushing.{failed_few, three_closed}
use Rattle.open_minima.proofs.close_three.Goals as goal

pub overflow_sub-result : goal.overflow_sub-result
overflow_sub-result c =
    let l = failed_few c.not_above-a.result c.not_above-b.result c.not_above-c.result _ c.failed_first.ensures in
    omega (arith, l, c.if-next-start-lt3.false)

pub returns : goal.returns
returns c =
    let a = c.args in
    three_closed a.start a.next a.heights.now (get_or a.values.now a.i (pos 0)) (omega (arith, c.if-next-start-lt3.false)) c.failed_first.result
    (rw (c.not_above-a.ensures, c.not_above-b.ensures, c.not_above-c.ensures) at c.failed_first.ensures)
