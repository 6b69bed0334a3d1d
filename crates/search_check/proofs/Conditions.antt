-- The conditions of a search over a set that may be searched: the automaton decides.
use Rattle.std.specs.Prelude.{◌≡◌, ◌∷◌}
use Rattle.lists.proofs.Prelude.{◌∙◌, refl, true, false, not, List, [], ℕ, T, begins}
use Rattle.answers.specs.declared.Refusal.{Refusal}
use Rattle.answers.specs.Told.{number}
use Rattle.answers.proofs.Refusals.{number_positive}
use Rattle.pattern_set.specs.PatternSet.{IsSet, patterns_of, may_search}
use Rattle.automaton_model.specs.Automaton.{automaton_words}
use Rattle.entries.specs.Entries.{Conditions, first_met, set_conditions, search_conditions}
use Rattle.entries.proofs.Refusals.{met_before}
use Rattle.entries.proofs.Searchable.{set_unmet, set_accepted}

module _ (ws automaton : List ℕ) where
  abbrev from_seven : Conditions
  from_seven = (7, not (begins automaton (automaton_words (patterns_of ws)))) ∷ []

  -- a set that may not be searched
  pub unsearchable : (r : Refusal) → first_met (set_conditions ws) ≡ number r → first_met (search_conditions ws automaton) ≡ number r
  unsearchable r e = met_before (set_conditions ws) from_seven (number r) (number_positive r) e

  module _ (s : IsSet ws) (t : T (may_search (patterns_of ws))) where
    from_seven_lem : first_met (search_conditions ws automaton) ≡ first_met from_seven
    from_seven_lem = set_accepted ws from_seven (set_unmet ws s t)

    pub other : begins automaton (automaton_words (patterns_of ws)) ≡ false → first_met (search_conditions ws automaton) ≡ 7
    other a = from_seven_lem ∙ (rw a refl)

    pub none : begins automaton (automaton_words (patterns_of ws)) ≡ true → first_met (search_conditions ws automaton) ≡ 0
    none a = from_seven_lem ∙ (rw a refl)
