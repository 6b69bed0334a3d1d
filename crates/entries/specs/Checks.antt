-- A check of some of a call's conditions, whose answer `?` takes on.
use Rattle.std.specs.Prelude.{◌≡◌, Result, Ok, Err}
use Rattle.answers.specs.declared.Refusal.{Refusal}
use Rattle.answers.specs.Told.{number}
use Rattle.entries.specs.Entries.{Conditions, first_met}

-- none of the conditions is met, and the answer is as P says; or it is the first one met
abbrev pub Checks : {A : Type 0} → Conditions → (A → Type 0) → Result A Refusal → Type 0
Checks cs P (Ok a) = (first_met cs ≡ 0) × P a
Checks cs P (Err r) = first_met cs ≡ number r
