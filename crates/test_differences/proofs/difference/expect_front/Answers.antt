-- `expect_front` meets its contract: an array that ends too soon, a place that holds another
-- number, one more, and what is behind them. Nothing is told exactly if all are as expected.
use mir.Syntax.{w128}
use Rattle.lists.proofs.Prelude.{◌∙◌, sym, ap, refl, pos, arith, to_z-of_z}
use Rattle.test_differences.specs.Difference.{differs}
use Rattle.test_differences.proofs.Items.{front_short, front_stop, front_more, front_end}
use Rattle.test_differences.proofs.Nothing.{front_told}
use Rattle.test_differences.proofs.difference.expect_front.Goals as goal

pub returns-then-i-got : goal.returns-then-i-got
returns-then-i-got g c =
    let told =
    c.differ.ensures
    ∙ ap (λ x. differs c.args.part c.loop-i.i x (pos 0)) (to_z-of_z w128 c.wide.result (record { sfits = c.wide.type_inv }) ∙ c.wide.ensures)
    ∙ front_short g.T.Number.value _ _ _ _ _ _ _ c.loop-i.invariant c.loop-i-test.true c.index-expected-i.is c.if-i-got.true in
    record { told = told; nothing = front_told g.T.Number.value _ _ _ _ _ _ told }

pub returns-then-is_some : goal.returns-then-is_some
returns-then-is_some g c =
    let told =
    front_stop g.T.Number.value _ _ _ _ _ _ _ _ _ c.loop-i.invariant c.loop-i-test.true c.index-expected-i-in-loop-i.is
    c.if-i-got.false c.index-got-i.is c.expect_at-d.ensures (sym c.is_some.ensures ∙ c.if-is_some.true) in
    record { told = told; nothing = front_told g.T.Number.value _ _ _ _ _ _ told }

pub loop-i-preserved : goal.loop-i-preserved
loop-i-preserved g c =
    front_more g.T.Number.value _ _ _ _ _ _ _ _ _ c.loop-i.invariant c.loop-i-test.true c.index-expected-i-in-loop-i.is
    c.if-i-got.false c.index-got-i.is c.expect_at-d.ensures (sym c.is_some.ensures ∙ c.if-is_some.false)

pub returns : goal.returns
returns g c =
    let told =
    c.expect_held.ensures.told
    ∙ front_end g.T.Number.value _ _ _ _ c.loop-i.i _ _ c.loop-i.invariant (omega (arith, c.loop-i-test.false, c.loop-i.auto.i-end)) refl in
    record { told = told; nothing = front_told g.T.Number.value _ _ _ _ _ _ told }
