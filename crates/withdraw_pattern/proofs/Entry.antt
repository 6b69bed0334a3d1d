-- What the entry tells, and what it leaves in the array, by the tests that it made.
use Rattle.std.specs.Prelude.{◌≡◌, ◌++◌, ◌≤◌, ◌<◌}
use Rattle.lists.proofs.Prelude.{◌∙◌, ap, refl, ap₂, false, List, flatten, ℕ, length, get_or, length-append, arith, le-leb}
use Rattle.lists.proofs.Same.{begins_iff}
use Rattle.answers.specs.declared.Refusal.{Refusal}
use Rattle.pattern_set.specs.PatternSet.{set_words, is_set, IsSet, patterns_of, without}
use Rattle.pattern_set.proofs.Words.{length-set_words, words_count, words_one}
use Rattle.entries.specs.Entries.{told, after, withdraw_entry}
use Rattle.entries.proofs.Refusals.{refused, tells}
use Rattle.entries.proofs.Sets.{withdraw_accepted, withdraw-Holds}

module _ (ws : List ℕ) (j : ℕ) where
  -- the call is refused by the number r
  abbrev Refuses : ℕ → Type 0
  Refuses r = (◌≡◌ {A = ℕ × (ℕ × ℕ)} (r, (0, 0)) (told (0, 0) (withdraw_entry ws j))) × (ws ≡ after (withdraw_entry ws j) ws)

  pub withdraw_broken : is_set ws ≡ false → Refuses 5
  withdraw_broken h = refused (0, 0) (withdraw_entry ws j) Refusal.BrokenSet ws (rw h refl)

  pub withdraw_none : IsSet ws → length (patterns_of ws) ≤ j → Refuses 14
  withdraw_none s h = refused (0, 0) (withdraw_entry ws j) Refusal.NoSuchPattern ws (rw (s, le-leb (length (patterns_of ws)) j h) refl)

  -- the array afterwards
  module _ (s : IsSet ws) (h : j < length (patterns_of ws)) (vs : List ℕ) (e : vs ≡ after (withdraw_entry ws j) ws) where
    words : (rest : List ℕ) × (vs ≡ set_words (without j (patterns_of ws)) ++ rest)
    words =
        let held = withdraw-Holds ws j (withdraw_accepted ws j s h) in
        let r = (begins_iff (after (withdraw_entry ws j) ws) (set_words (without j (patterns_of ws)))).0 held.front in
        (r.0, e ∙ r.1)

    -- it has at least the three words of an empty set
    pub smaller_long : 3 ≤ length vs
    smaller_long =
        let qs = without j (patterns_of ws) in
        omega (arith, ap length words.1, length-append (set_words qs) words.0, length-set_words qs)

    pub withdraw_done : (k n : ℕ) → k ≡ get_or vs 0 0 → n ≡ get_or vs 1 0
        → (◌≡◌ {A = ℕ × (ℕ × ℕ)} (0, (k, n)) (told (0, 0) (withdraw_entry ws j))) × (vs ≡ after (withdraw_entry ws j) ws)
    withdraw_done k n p q =
        let qs = without j (patterns_of ws) in
        let first : k ≡ length qs = p ∙ ap (λ (l : List ℕ). get_or l 0 0) words.1 ∙ words_count qs words.0 in
        let second : n ≡ length (flatten qs) = q ∙ ap (λ (l : List ℕ). get_or l 1 0) words.1 ∙ words_one qs words.0 in
        (tells (0, 0) (withdraw_entry ws j) (k, n) (withdraw_accepted ws j s h) (ap₂ (λ (i l : ℕ). (i, l)) first second), e)
