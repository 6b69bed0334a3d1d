-- The loop keeps where it stands, and that the places behind it have no candidates.
use Rattle.std.specs.Prelude.{◌+◌, ◌-◌, ◌<◌}
use Rattle.lists.proofs.Prelude.{◌∙◌, sym, refl, subst, ℕ, suc, take, add-one, mod-eq_of_lt, arith}
use Rattle.pattern_set.proofs.IsSet.{set_good}
use Rattle.filter_plan.specs.Plan.{text_fingerprint}
use Rattle.filter_windows.specs.Looks.{Since, Alike}
use Rattle.filter_windows.specs.Patterns.{patterns}
use Rattle.filter_windows.proofs.Samples.{Since-sample}
use Rattle.filter_windows.proofs.Lookups.{own_fingerprint_lt, Looked-none, Looked-candidates}
use Rattle.filter_passes.specs.Passes.{NoneFrom}
use Rattle.filter_passes.proofs.Scan.{none_more}
use Rattle.filter_passes.proofs.scanning.next_look.Goals.{After-alike_at-alike, Else-alike-ne0}
use Rattle.filter_passes.proofs.scanning.next_look.Goals as goal

-- at a sample the samples begin where they did, and the patterns that have the set fingerprint are
-- looked up
looked : (c : After-alike_at-alike) →
    let t = c.args.tables.now in
    let q = c.loop-place.place in
    Since c.args.text.now (suc q) c.args.from.begin
    × Alike t.low.now t.high.now (text_fingerprint t.span (take (suc q) c.args.text.now)) c.alike_at-alike.result
looked c =
    let i = c.loop-place.invariant in
    let q = c.loop-place.place in
    let text = c.args.text.now in
    (Since-sample text q c.args.from.begin i.0 (sym c.is_gap.ensures ∙ c.if-is_gap.false) i.1.2, c.alike_at-alike.ensures (take (suc q) text) (i.1.1 i.0))

-- the place has no candidates
passed : (c : Else-alike-ne0) →
    let q = c.loop-place.place + 1 in
    Since c.args.text.now q c.args.from.begin × NoneFrom (patterns c.args.tables.now.tables.now) c.args.text.now c.args.from.place q
passed c =
    let i = c.loop-place.invariant in
    let q = c.loop-place.place in
    let t = c.args.tables.now in
    let ps = patterns t.tables.now in
    let text = c.args.text.now in
    let here = looked (goal.at.Else-alike-ne0 c).After-alike_at-alike in
    let n = suc q - c.args.from.begin in
    let fingerprint = text_fingerprint t.span (take (suc q) text) in
    let none =
    Looked-candidates ps text q c.args.from.begin n (set_good t.tables.now.windows.set.now t.tables.now.windows.good) i.0 here.0 refl t.low.now t.high.now
    t.tables.now.windows.fits.now fingerprint t.span 0 t.filled t.span_is refl
    (Looked-none t.low.now t.high.now t.tables.now.windows.fits.now fingerprint n c.alike_at-alike.result here.1 c.if-alike-ne0.false) in
    (subst (λ (m : ℕ). Since text m c.args.from.begin) (sym (add-one q)) here.0, none_more ps text c.args.from.place q i.3 none)

pub loop-place-init : goal.loop-place-init
loop-place-init c =
    let from = c.args.from in
    let h = c.requires.place_in_bounds in
    let own = h.1.1 h.0 in
    let small : from.own < 65536 = omega (arith, own, own_fingerprint_lt (take (suc from.place) c.args.text.now)) in (
      h.0,
      (h.1.0, (λ _. mod-eq_of_lt small ∙ own), h.1.2),
      omega arith,
      (λ i h k. absurd (let z : ⊥ = omega arith in z)),
    )

pub loop-place-preserved : goal.loop-place-preserved
loop-place-preserved c =
    let on = passed (goal.at.loop-place-preserved c).Else-alike-ne0 in
    let h = c.loop-place.invariant.2 in
    (omega arith, (omega arith, (λ _. c.bits_next-bits.ensures), on.0), omega arith, on.1)

pub returns-then-alike-ne0 : goal.returns-then-alike-ne0
returns-then-alike-ne0 c =
    let i = c.loop-place.invariant in
    let here = looked (goal.at.returns-then-alike-ne0 c).After-alike_at-alike in
    (i.1, i.2, i.0, i.3, (λ e. absurd (c.if-alike-ne0.true e)), (λ _. here))

pub returns-then-text-place : goal.returns-then-text-place
returns-then-text-place c =
    let on = passed (goal.at.returns-then-text-place c).Else-alike-ne0 in
    λ i h k. on.1 i h (omega (arith, k, c.if-text-place.true))
