-- THE ENTRIES, for each way through them: the refusals of the builder, what it tells and leaves,
-- and the tests of the check.
use Rattle.std.specs.Prelude.{◌≡◌, ◌∷◌, ◌++◌, ◌+◌, ◌-◌, ◌*◌, ◌≤◌, ◌<◌}
use Rattle.lists.proofs.Prelude.{◌∙◌, ap, sym, refl, ap₂, false, List, [], flatten, ℕ, ltb, length, get_or}
use Rattle.lists.proofs.Prelude.{take, drop, length-take, take-take, arith, lt-ltb, le-ltb, begins, same}
use Rattle.lists.proofs.Parts.{get_or_front}
use Rattle.lists.proofs.Same.{same-false, false-same}
use Rattle.pattern_set.specs.PatternSet.{PatternSet, patterns_of, IsSet}
use Rattle.answers.specs.declared.Refusal.{Refusal}
use Rattle.answers.specs.Told.{number}
use Rattle.answers.proofs.Refusals.{number_positive}
use Rattle.entries.specs.Entries.{Conditions, first_met, told, after, set_conditions, build_entry}
use Rattle.entries.proofs.Refusals.{met_before, refused, accepted}
use Rattle.entries.proofs.Searchable.{set_accepted}
use Rattle.automaton_model.specs.Automaton.{nodes, automaton_words}
use Rattle.automaton_model.proofs.Lengths.{length_automaton}
use Rattle.automaton_lookup.specs.Made.{Made}
use Rattle.automaton_lookup.proofs.Words.{made_count, words-Made}

-- ---- build_automaton

module _ (ws out : List ℕ) where
  -- the words that the array must have
  abbrev room : ℕ
  room = 16 * (1 + length (flatten (patterns_of ws)))

  abbrev short : Conditions
  short = (10, ltb (length out) room) ∷ []

  -- the call tells so, and leaves so in the array
  abbrev Answers : ℕ × (ℕ × ℕ) → List ℕ → Type 0
  Answers t vs = (t ≡ told (0, 0) (build_entry ws out)) × (vs ≡ after (build_entry ws out) out)

  -- a set that may not be searched
  pub build_refused : (r : Refusal) → first_met (set_conditions ws) ≡ number r → Answers (number r, (0, 0)) out
  build_refused r e = refused (0, 0) (build_entry ws out) r out (met_before (set_conditions ws) short (number r) (number_positive r) e)

  module _ (s : first_met (set_conditions ws) ≡ 0) where
    pub build_short : length out < room → Answers (10, (0, 0)) out
    build_short h = refused (0, 0) (build_entry ws out) Refusal.ArrayTooShort out (set_accepted ws short s ∙ rw (lt-ltb (length out) room h) refl)

    pub build_done : room ≤ length out → (n w : ℕ) (vs : List ℕ) → n ≡ length (nodes (patterns_of ws)) → w ≡ length (automaton_words (patterns_of ws))
        → vs ≡ automaton_words (patterns_of ws) ++ drop (length (automaton_words (patterns_of ws))) out → Answers (0, (n, w)) vs
    build_done h n w vs p q e =
        accepted (0, 0) (build_entry ws out) (n, w) out vs (set_accepted ws short s ∙ rw (le-ltb (length out) room h) refl)
        (ap₂ (λ (a b : ℕ). (a, b)) p q) e

-- ---- is_automaton

pub words_short : (ps : PatternSet) (words : List ℕ) → length words < length (automaton_words ps) → begins words (automaton_words ps) ≡ false
words_short ps words h =
    let w = automaton_words ps in
    same-false (take (length w) words) w (λ q. omega (arith, ap length q, length-take (length w) words))

module _ (ws words : List ℕ) (good : IsSet ws) (some : 0 < length (patterns_of ws)) (k : ℕ) (e : k ≡ length (patterns_of ws)) where
  pub front_differs : same (take (2 * k + 1) words) (take (2 * k + 1) (automaton_words (patterns_of ws))) ≡ false
      → begins words (automaton_words (patterns_of ws)) ≡ false
  front_differs f =
      let w = automaton_words (patterns_of ws) in
      same-false (take (length w) words) w
      (λ q. false-same (take (2 * k + 1) words) (take (2 * k + 1) w) f
      (sym (take-take (2 * k + 1) (length w) words (omega (arith, length_automaton (patterns_of ws)))) ∙ ap (take (2 * k + 1)) q))

  -- the words have the front
  module _ (front : take (2 * k + 1) words ≡ take (2 * k + 1) (automaton_words (patterns_of ws))) where
    pub front_fits : 2 * k + 1 ≤ length words
    front_fits =
        omega
        (arith, ap length front, length-take (2 * k + 1) words, length-take (2 * k + 1) (automaton_words (patterns_of ws)), length_automaton (patterns_of ws))

    pub front_count : get_or words (2 * k) 0 ≡ length (nodes (patterns_of ws))
    front_count =
        let w = automaton_words (patterns_of ws) in
        get_or_front (2 * k + 1) words w 0 (2 * k) front (omega arith) ∙ made_count (words-Made ws k 0 good e some (omega arith))

    pub front-Made : length (automaton_words (patterns_of ws)) ≤ length words → Made ws words k 0
    front-Made h =
        let s : 2 * k + 1 + (16 * 0 - 8) ≡ 2 * k + 1 = omega arith in
        record {
          is_set = good;
          patterns = e;
          filled = some;
          within = omega arith;
          begun = ap (λ (n : ℕ). take n words) s ∙ front ∙ ap (λ (n : ℕ). take n (automaton_words (patterns_of ws))) (sym s);
          room = h;
        }
