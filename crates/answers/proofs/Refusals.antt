-- THE NUMBER OF A REFUSAL: from it the refusal can be read back, and it is not 0. The one place of
-- the laws that lists the refusals.
use Rattle.std.specs.Prelude.{◌≡◌, ◌∷◌, ◌<◌}
use Rattle.lists.proofs.Prelude.{◌∙◌, ap, sym, refl, Option, None, Some, same_Some, List, [], ℕ, zero, suc, get_or, arith}
use Rattle.answers.specs.declared.Refusal.{Refusal}
use Rattle.answers.specs.Told.{number}

-- by number; 0 is none
unfoldable pub refusals : List (Option Refusal)
refusals =
    None
    ∷ Some Refusal.Empty
    ∷ Some Refusal.TooLong
    ∷ Some Refusal.CodeTooLong
    ∷ Some Refusal.NotRealizable
    ∷ Some Refusal.BrokenSet
    ∷ Some Refusal.SetFull
    ∷ Some Refusal.OtherAutomaton
    ∷ Some Refusal.BrokenState
    ∷ Some Refusal.TextTooLong
    ∷ Some Refusal.ArrayTooShort
    ∷ Some Refusal.ListTooLong
    ∷ Some Refusal.CatalogueTooLong
    ∷ Some Refusal.HoldsGap
    ∷ Some Refusal.NoSuchPattern
    ∷ Some Refusal.OneValue
    ∷ []

back : (r : Refusal) → get_or refusals (number r) None ≡ Some r
unfolding refusals
back Refusal.Empty = refl
back Refusal.TooLong = refl
back Refusal.CodeTooLong = refl
back Refusal.NotRealizable = refl
back Refusal.BrokenSet = refl
back Refusal.SetFull = refl
back Refusal.OtherAutomaton = refl
back Refusal.BrokenState = refl
back Refusal.TextTooLong = refl
back Refusal.ArrayTooShort = refl
back Refusal.ListTooLong = refl
back Refusal.CatalogueTooLong = refl
back Refusal.HoldsGap = refl
back Refusal.NoSuchPattern = refl
back Refusal.OneValue = refl

pub number_injective : (r s : Refusal) → number r ≡ number s → r ≡ s
number_injective r s e = same_Some r s (sym (back r) ∙ ap (λ (n : ℕ). get_or refusals n None) e ∙ back s)

pub number_positive : (r : Refusal) → 0 < number r
unfolding refusals
number_positive r = go (number r) (back r)
  where
    go : (n : ℕ) → get_or refusals n None ≡ Some r → 0 < n
    go zero e = absurd (let z : ◌≡◌ {A = ℕ} 0 1 = cc in let y : ⊥ = omega arith in y)
    go (suc n) e = omega arith

-- the refusal of a number
or_empty : Option Refusal → Refusal
or_empty None = Refusal.Empty
or_empty (Some r) = r

pub refusal_of : ℕ → Refusal
refusal_of n = or_empty (get_or refusals n None)

pub number_refusal : (r : Refusal) → refusal_of (number r) ≡ r
unfolding refusal_of or_empty
number_refusal r = ap or_empty (back r)
