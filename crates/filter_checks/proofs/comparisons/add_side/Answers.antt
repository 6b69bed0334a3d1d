-- The word of place i is written where its comparison is left to the check.
use Rattle.lists.proofs.Prelude.{◌∙◌, sym, arith}
use Rattle.filter_checks.specs.Sides.{is_right}
use Rattle.filter_checks.proofs.Words.{side_start, side_fits, side_put, side_pass, side_counted, side_written}
use Rattle.filter_checks.proofs.comparisons.add_side.Goals.{then-is_asked, else-is_asked}
use Rattle.filter_checks.proofs.comparisons.add_side.Goals as goal

pub loop-i-init : goal.loop-i-init
loop-i-init c = let a = c.args in side_start (is_right a.side) a.from a.parents.now a.out.now

pub bounds-out-count : goal.bounds-out-count
bounds-out-count c =
    let L = c.loop-i in
    let a = c.args in
    omega (
      arith,
      side_fits (is_right a.side) a.from a.parents.now a.out.now L.out L.i L.count L.invariant c.loop-i-test.true c.requires.parents_in_bounds
          (sym c.is_asked.ensures ∙ c.if-is_asked.true),
      L.auto.out,
    )

pub loop-i-preserved : goal.loop-i-preserved
loop-i-preserved c =
    let L = c.loop-i in
    let a = c.args in
    elim c.if-is_asked.branch [
      | then-is_asked w ↦ rw (w.count-is, w.out-is) (side_put (is_right a.side) a.from a.parents.now a.out.now L.out L.i L.count L.invariant
          c.loop-i-test.true c.requires.parents_in_bounds (sym c.is_asked.ensures ∙ w.if-is_asked.true))
      | else-is_asked w ↦ rw (w.count-is, w.out-is) (side_pass (is_right a.side) a.from a.parents.now a.out.now L.out L.i L.count L.invariant
          (sym c.is_asked.ensures ∙ w.if-is_asked.false))
    ]

pub returns-clause-value : goal.returns-clause-value
returns-clause-value c =
    let L = c.loop-i in
    let a = c.args in
    side_counted (is_right a.side) a.from a.parents.now a.out.now L.out L.i L.count L.invariant (omega (arith, c.loop-i-test.false, L.auto.i-end))

pub returns-clause-out_after : goal.returns-clause-out_after
returns-clause-out_after c =
    let L = c.loop-i in
    let a = c.args in
    side_written (is_right a.side) a.from a.parents.now a.out.now L.out L.i L.count L.invariant (omega (arith, c.loop-i-test.false, L.auto.i-end))
