-- `keep` meets its contract: before each turn the open minima from the counter `at` on are above
-- the value, so what is kept is what is kept of those before it; `close_three` has closed some of
-- them. The measure is their number.
use Rattle.std.specs.Prelude.{◌-◌}
use Rattle.lists.proofs.Prelude.{◌∙◌, sym, pos, get_or, arith}
use Rattle.open_minima.proofs.Pushing.{kept_from, newest_place, kept_found, kept_closed, kept_none}
use Rattle.open_minima.proofs.keep.Goals as goal

pub loop-at-init : goal.loop-at-init
loop-at-init c =
    let a = c.args in
    let r = c.close_three-at.ensures in (
      r.0,
      r.1,
      kept_from a.start a.next a.places.now a.heights.now (get_or a.values.now a.i (pos 0)) a.taken c.close_three-at.result r.2,
    )

pub overflow_sub-result : goal.overflow_sub-result
overflow_sub-result c =
    let L = c.loop-at in
    let a = c.args in
    let p = newest_place a.start a.next a.places.now a.heights.now (get_or a.values.now a.i (pos 0)) a.taken L.at
    c.loop-at-test.true in
    omega (arith, p, c.requires.by_index (L.at - a.start - 1) (omega (arith, L.invariant.1, c.loop-at-test.true)))

pub returns-then-not_above : goal.returns-then-not_above
returns-then-not_above c =
    let L = c.loop-at in
    let a = c.args in
    kept_found a.start a.next a.places.now a.heights.now (get_or a.values.now a.i (pos 0)) a.taken L.at
    c.loop-at-test.true L.invariant.2 (sym c.not_above.ensures ∙ c.if-not_above.true)

pub loop-at-preserved : goal.loop-at-preserved
loop-at-preserved c =
    let L = c.loop-at in
    let a = c.args in (
      omega arith,
      omega arith,
      kept_closed a.start a.next a.places.now a.heights.now (get_or a.values.now a.i (pos 0)) a.taken L.at
          c.loop-at-test.true L.invariant.2 (sym c.not_above.ensures ∙ c.if-not_above.false),
    )

pub returns : goal.returns
returns c =
    let L = c.loop-at in
    let a = c.args in
    kept_none a.start a.next a.places.now a.heights.now (get_or a.values.now a.i (pos 0)) a.taken L.at
    L.invariant.0 c.loop-at-test.false L.invariant.2
