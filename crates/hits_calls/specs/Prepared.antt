-- What the calls leave that make the set and its automaton, by the entries' definitions one after
-- the other.
use Rattle.std.specs.Prelude.{◌∷◌, ◌-◌, Result, Ok, Err}
use Rattle.lists.specs.Prelude.{List, [], ℕ, ℤ, take, drop}
use Rattle.answers.specs.declared.Refusal.{Refusal}
use Rattle.answers.specs.Told.{number}
use Rattle.entries.specs.Entries.{first_met, unless, after, empty_set_entry, add_entry, build_entry}

-- the number of a refusal, and 0 for none
abbrev pub refused_of : {A : Type 0} → Result A Refusal → ℕ
refused_of (Ok a) = 0
refused_of (Err r) = number r

-- the patterns whose values lie one after the other from a place on, each up to its end
unfoldable pub parts_of : ℕ → List ℕ → List ℤ → List (List ℤ)
parts_of from [] values = []
parts_of from (end ∷ ends) values = take (end - from) (drop from values) ∷ parts_of end ends values

-- the patterns are added one after the other, up to the first that is refused: the number of its
-- refusal, or 0, and the set array then
unfoldable pub add_all : List (List ℤ) → List ℕ → ℕ × List ℕ
add_all [] ws = (0, ws)
add_all (xs ∷ xss) ws =
    let r = first_met (add_entry ws xs).conditions in
    unless r (add_all xss (after (add_entry ws xs) ws)) (r, ws)

-- the same with the empty set before them
unfoldable pub make_set : List (List ℤ) → List ℕ → ℕ × List ℕ
make_set xss ws =
    let r = first_met (empty_set_entry ws).conditions in
    unless r (add_all xss (after (empty_set_entry ws) ws)) (r, ws)

-- and with the automaton behind them: the number of the first refusal, or 0, and the automaton's
-- array
unfoldable pub make_both : List (List ℤ) → List ℕ → List ℕ → ℕ × List ℕ
make_both xss ws automaton =
    let s = make_set xss ws in
    let r = first_met (build_entry s.1 automaton).conditions in
    unless s.0 (r, after (build_entry s.1 automaton) automaton) (s.0, automaton)
