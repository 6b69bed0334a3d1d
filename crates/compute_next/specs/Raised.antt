-- A greater distance at a place, where it is known what is open there.
use Rattle.std.specs.Prelude.{◌≡◌, ◌≤◌, ◌<◌, Option, None, Some}
use Rattle.lists.specs.Prelude.{true, List, ℕ, eqb, any}

-- e is the least of the open places' distances that is above d
pub record IsLeastAbove (os : List ℕ) (d e : ℕ) : Type 0 where
  pub above : d < e
  pub listed : any (eqb e) os ≡ true
  pub least : (f : ℕ) → d < f → any (eqb f) os ≡ true → e ≤ f

-- none of the open places' distances is above d
abbrev pub NoneAbove : List ℕ → ℕ → Type 0
NoneAbove os d = (f : ℕ) → d < f → any (eqb f) os ≡ true → ⊥

-- the least of the open places' distances that is above d, if there is one
abbrev pub IsRaised : List ℕ → ℕ → Option ℕ → Type 0
IsRaised os d None = NoneAbove os d
IsRaised os d (Some e) = IsLeastAbove os d e
