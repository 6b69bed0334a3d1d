-- The loop keeps that the values from place p on are samples.
use Rattle.std.specs.Prelude.{◌≡◌, ◌+◌, ◌-◌}
use Rattle.lists.proofs.Prelude.{◌∙◌, sym, arith}
use Rattle.filter_windows.proofs.Samples.{Samples-more, samples_gap, samples_full, samples_known}
use Rattle.filter_windows.proofs.last_gap.begin_before.Goals as goal

pub returns-then-first-last-gt256 : goal.returns-then-first-last-gt256
returns-then-first-last-gt256 c =
    let p = c.loop-last.last in
    let e : p - 1 + 1 ≡ p = omega arith in
    rw e (samples_full c.args.text.now p c.args.first (omega arith) (omega arith) c.loop-last.invariant.1 (omega arith))

pub returns-then-is_gap : goal.returns-then-is_gap
returns-then-is_gap c =
    let p = c.loop-last.last in
    let e : p - 1 + 1 ≡ p = omega arith in
    rw e (samples_gap c.args.text.now p c.args.first (omega arith) (omega arith) c.loop-last.invariant.1 (omega arith)
    (sym c.is_gap.ensures ∙ c.if-is_gap.true))

pub loop-last-preserved : goal.loop-last-preserved
loop-last-preserved c = (
  omega arith,
  Samples-more c.args.text.now c.loop-last.last c.args.first (omega arith) (omega arith) c.loop-last.invariant.1 (omega arith)
      (sym c.is_gap.ensures ∙ c.if-is_gap.false),
)

pub returns : goal.returns
returns c =
    samples_known c.args.text.now c.loop-last.last c.args.first (omega arith) (omega arith) c.loop-last.invariant.1 c.args.done c.args.begin
    (omega (arith, c.loop-last.invariant.0, c.loop-last-test.false)) c.requires.2
