-- `expect_items` meets its contract: a place behind the numbers expected, one that holds another
-- number, one more, and the end. Nothing is told exactly if the numbers are the first of those
-- expected.
use mir.Syntax.{w128}
use Rattle.lists.proofs.Prelude.{◌∙◌, sym, ap, pos, to_z-of_z}
use Rattle.test_differences.specs.Difference.{differs}
use Rattle.test_differences.proofs.Items.{items_over, items_stop, items_more, items_end}
use Rattle.test_differences.proofs.Nothing.{items_told}
use Rattle.test_differences.proofs.difference.expect_items.Goals as goal

pub returns-then-i-expected : goal.returns-then-i-expected
returns-then-i-expected g c =
    let told =
    c.differ.ensures
    ∙ ap (differs c.args.part c.loop-i.i (pos 0)) (to_z-of_z w128 c.wide.result (record { sfits = c.wide.type_inv }) ∙ c.wide.ensures)
    ∙ items_over g.T.Number.value _ _ _ _ _ _ c.loop-i.invariant c.if-i-expected.true c.loop-i-test.true c.index-got-i.is in
    record { told = told; nothing = items_told g.T.Number.value _ _ _ _ _ told }

pub returns-then-is_some : goal.returns-then-is_some
returns-then-is_some g c =
    let told =
    items_stop g.T.Number.value _ _ _ _ _ _ _ _ c.loop-i.invariant c.if-i-expected.false c.index-expected-i.is
    c.loop-i-test.true c.index-got-i-in-loop-i.is c.expect_at-d.ensures (sym c.is_some.ensures ∙ c.if-is_some.true) in
    record { told = told; nothing = items_told g.T.Number.value _ _ _ _ _ told }

pub loop-i-preserved : goal.loop-i-preserved
loop-i-preserved g c =
    items_more g.T.Number.value _ _ _ _ _ _ _ _ c.loop-i.invariant c.if-i-expected.false c.index-expected-i.is
    c.loop-i-test.true c.index-got-i-in-loop-i.is c.expect_at-d.ensures (sym c.is_some.ensures ∙ c.if-is_some.false)

pub returns : goal.returns
returns g c =
    let told = items_end g.T.Number.value _ _ _ _ _ c.loop-i.invariant c.loop-i-test.false in
    record { told = told; nothing = items_told g.T.Number.value _ _ _ _ _ told }
