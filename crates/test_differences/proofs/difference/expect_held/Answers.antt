-- `expect_held` meets its contract: a place that holds another number, one more, and the end.
-- Nothing is told exactly if all hold the number.
use Rattle.lists.proofs.Prelude.{◌∙◌, sym}
use Rattle.test_differences.proofs.Items.{held_stop, held_more, held_end}
use Rattle.test_differences.proofs.Nothing.{held_told}
use Rattle.test_differences.proofs.difference.expect_held.Goals as goal

pub returns-then-is_some : goal.returns-then-is_some
returns-then-is_some g c =
    let told =
    held_stop g.T.Number.value _ _ _ _ _ _ _ c.loop-i.invariant c.loop-i-test.true c.index-got-i.is
    c.expect_at-d.ensures (sym c.is_some.ensures ∙ c.if-is_some.true) in
    record { told = told; nothing = held_told g.T.Number.value _ _ _ _ _ told }

pub loop-i-preserved : goal.loop-i-preserved
loop-i-preserved g c =
    held_more g.T.Number.value _ _ _ _ _ _ _ c.loop-i.invariant c.loop-i-test.true c.index-got-i.is
    c.expect_at-d.ensures (sym c.is_some.ensures ∙ c.if-is_some.false)

pub returns : goal.returns
returns g c =
    let told = held_end g.T.Number.value _ _ _ _ _ c.loop-i.invariant c.loop-i-test.false in
    record { told = told; nothing = held_told g.T.Number.value _ _ _ _ _ told }
