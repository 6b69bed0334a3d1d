-- `expect_after` meets its contract: it goes on only where as many values are taken as expected.
use Rattle.std.specs.Prelude.{◌≡◌}
use Rattle.std.specs.Option.{is_some}
use Rattle.lists.proofs.Prelude.{◌∙◌, ap, sym, refl, true, false, true≢false, pos, eqb-true, Option, None, Some}
use Rattle.test_differences.specs.declared.difference.Part.{Part}
use Rattle.test_differences.specs.declared.difference.Difference.{Difference}
use Rattle.test_differences.specs.Difference.{is_nothing}
use Rattle.test_differences.proofs.Nothing.{nothing_compared}
use Rattle.test_states.proofs.expect_after.Goals as goal

nothing_left : (d : Option Difference) → is_some d ≡ false → is_nothing d ≡ true
nothing_left None h = refl
nothing_left (Some d) h = absurd (true≢false h)

pub returns : goal.returns
returns c =
    let taken = c.args.taken in
    let got = c.args.state.taken in
    let nothing = nothing_left _ (sym c.is_some.ensures ∙ c.if-is_some.false) in
    let told = sym (nothing_compared Part.Taken 0 (pos taken) (pos got)) ∙ ap is_nothing (sym c.expect-count.ensures) ∙ nothing in
    λ h. sym (eqb-true taken got told)
