-- What is known of an accepted call of the stream search.
use Rattle.std.specs.Prelude.{◌≡◌, ◌||◌, ◌∷◌, ◌+◌, ◌*◌, ◌≤◌}
use Rattle.lists.proofs.Prelude.{◌∙◌, sym, false, not, List, [], ℕ, ℤ, ltb, length, ltb-false, begins}
use Rattle.lists.proofs.Tests.{none_left}
use Rattle.answers.specs.declared.SearchState.{SearchState}
use Rattle.pattern_set.specs.PatternSet.{IsSet, patterns_of}
use Rattle.automaton_model.specs.Automaton.{automaton_words}
use Rattle.search_model.specs.Search.{good_state}
use Rattle.entries.specs.Entries.{Conditions, first_met, set_conditions, search_conditions, is_short, stream_conditions}
use Rattle.entries.proofs.Refusals.{first_unmet, unmet_before}
use Rattle.entries.proofs.Searchable.{set_given, search_accepted}

module _ (ws automaton : List ℕ) (st : SearchState) (xs : List ℤ) (out : List ℕ) (rises : List ℤ) where
  -- the conditions behind those of set and automaton: the last, the last two, and all
  abbrev from_ten : Conditions
  from_ten = (10, ltb (length out) (2 * length (patterns_of ws)) || is_short out rises) ∷ []

  abbrev from_nine : Conditions
  from_nine = (9, ltb 1048576 (st.taken + length xs)) ∷ from_ten

  abbrev pub from_eight : Conditions
  from_eight = (8, not (good_state (patterns_of ws) st)) ∷ from_nine

  module _ (e : first_met (stream_conditions ws automaton st xs out rises) ≡ 0) where
    checked : first_met (search_conditions ws automaton) ≡ 0
    unfolding stream_conditions
    checked = unmet_before (search_conditions ws automaton) from_eight e

    -- an accepted call is lent a set array
    pub accepted_set : IsSet ws
    accepted_set = (set_given ws (unmet_before (set_conditions ws) ((7, not (begins automaton (automaton_words (patterns_of ws)))) ∷ []) checked)).0

    arrays : ltb (length out) (2 * length (patterns_of ws)) || is_short out rises ≡ false
    unfolding stream_conditions
    arrays =
        let r8 = (first_unmet 7 (not (good_state (patterns_of ws) st)) from_nine (sym (search_accepted ws automaton from_eight checked) ∙ e)).1 in
        let r9 = (first_unmet 8 (ltb 1048576 (st.taken + length xs)) from_ten r8).1 in
        (first_unmet 9 (ltb (length out) (2 * length (patterns_of ws)) || is_short out rises) [] r9).0

    -- and has two words a pattern
    pub accepted_room : 2 * length (patterns_of ws) ≤ length out
    accepted_room =
        ltb-false (length out) (2 * length (patterns_of ws)) (none_left (ltb (length out) (2 * length (patterns_of ws))) (is_short out rises) arrays)
