-- `expect_same` meets its contract: what its calls tell, and that this is nothing exactly if the
-- states are the same.
use Rattle.std.specs.Prelude.{◌≡◌}
use Rattle.std.specs.Option.{option_or}
use Rattle.lists.proofs.Prelude.{◌∙◌, ap, ap₂, sym, subst, true}
use Rattle.answers.specs.declared.SearchState.{SearchState}
use Rattle.test_differences.specs.Difference.{is_nothing}
use Rattle.test_states.specs.States.{compared_states}
use Rattle.test_states.proofs.Same.{Sized, states_same, states_refl}
use Rattle.lists.proofs.Prelude.{rules}
use Rattle.test_states.proofs.expect_same.Goals.{Start}
use Rattle.test_states.proofs.expect_same.Goals as goal

-- the arrays of the states have 256 places
expected-sized : (s : Start) → Sized s.args.expected
expected-sized s =
    let g = s.well_formed.0 in
    record { places = search (rules, g); values = search (rules, g); recent = search (rules, g) }

got-sized : (s : Start) → Sized s.args.got
got-sized s =
    let g = s.well_formed.1.0 in
    record { places = search (rules, g); values = search (rules, g); recent = search (rules, g) }

pub returns : goal.returns
returns c =
    let a = c.args.expected in
    let b = c.args.got in
    let told = c.or.ensures ∙ ap₂ option_or c.expect_numbers.ensures c.expect_slots.ensures in (
      told,
      λ h. states_same a b (expected-sized (goal.at.returns c).Start) (got-sized (goal.at.returns c).Start) (sym (ap is_nothing told) ∙ h),
      λ e. ap is_nothing told ∙ subst (λ (s : SearchState). is_nothing (compared_states a s) ≡ true) e (states_refl a),
    )
