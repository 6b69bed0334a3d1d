-- The loop keeps where it stands, and that the places behind it have no candidates: at a gap there
-- are none.
use Rattle.std.specs.Prelude.{◌+◌}
use Rattle.lists.proofs.Prelude.{sym, subst, ℕ, suc, add-one, arith}
use Rattle.pattern_set.proofs.IsSet.{set_good}
use Rattle.filter_windows.specs.Looks.{Since}
use Rattle.filter_windows.specs.Patterns.{patterns}
use Rattle.filter_windows.proofs.Samples.{Since-gap}
use Rattle.filter_passes.specs.Passes.{NoneFrom}
use Rattle.filter_passes.proofs.Places.{gap_candidates}
use Rattle.filter_passes.proofs.Scan.{none_on, none_more}
use Rattle.filter_passes.proofs.scanning.next_stop.Goals.{Else-look-ne0}
use Rattle.filter_passes.proofs.scanning.next_stop.Goals as goal

-- behind a gap the samples begin
gap : (c : Else-look-ne0) → Since c.args.text.now (suc c.in_ok-look.look.place) (c.in_ok-look.look.place + 1)
gap c =
    let p = c.in_ok-look.look.place in
    Since-gap c.args.text.now p (p + 1) c.in_ok-look.ensures.2 (c.in_ok-look.ensures.4 c.if-look-ne0.false) (add-one p)

pub behind-at-requires : goal.behind-at-requires
behind-at-requires c =
    let h = c.in_ok-look.ensures in
    record { place_in_bounds = (h.2, h.0.1 h.2, gap c) }

pub returns-then-look-ne0 : goal.returns-then-look-ne0
returns-then-look-ne0 c =
    let L = c.loop-at in
    let a = c.args in
    let h = c.in_ok-look.ensures in (
      h.0,
      omega (arith, L.invariant.1, h.1),
      h.2,
      none_on (patterns a.tables.now.tables.now) a.text.now a.from.place L.at.place c.in_ok-look.look.place L.invariant.2 h.3,
      (h.5 c.if-look-ne0.true).0,
      c.candidates_among-candidates.ensures,
    )

pub loop-at-preserved : goal.loop-at-preserved
loop-at-preserved c =
    let L = c.loop-at in
    let a = c.args in
    let t = a.tables.now.tables.now in
    let ps = patterns t in
    let look = c.in_ok-look.look in
    let h = c.in_ok-look.ensures in
    let b = c.behind-at.ensures in (
      b.stands,
      omega (arith, L.invariant.1, h.1, b.place_value),
      subst (λ (n : ℕ). NoneFrom ps a.text.now a.from.place n) (sym b.place_value)
          (none_more ps a.text.now a.from.place look.place (none_on ps a.text.now a.from.place L.at.place look.place L.invariant.2 h.3)
          (gap_candidates ps a.text.now look.place (set_good t.windows.set.now t.windows.good) h.2 (h.4 c.if-look-ne0.false))),
    )

pub returns : goal.returns
returns c = λ i h k. c.loop-at.invariant.2 i h (omega (arith, k, c.loop-at-test.false))
