-- Sets that are to be searched: what an entry knows once the array is checked, which of the first
-- conditions is met, and that none is exactly if the set may be searched.
use Rattle.std.specs.Prelude.{◌≡◌, ◌↔◌, ◌&&◌, ◌∷◌, ◌++◌}
use Rattle.lists.proofs.Prelude.{◌∙◌, ap, sym, refl, Bool, true, false, not, List, [], flatten, ℕ, eqb, T, length, arith}
use Rattle.lists.proofs.Prelude.{eq-eqb, ne_eqb, not-false, eqb-false, begins}
use Rattle.lists.proofs.Tests.{positive}
use Rattle.pattern_set.specs.PatternSet.{is_set, IsSet, patterns_of, holds_one_value, may_search}
use Rattle.pattern_set.proofs.IsSet.{set_good}
use Rattle.pattern_set.proofs.MaySearch.{may_search_parts, may_search_is}
use Rattle.automaton_model.specs.Automaton.{automaton_words}
use Rattle.answers.specs.declared.Refusal.{Refusal}
use Rattle.answers.specs.Told.{number}
use Rattle.answers.proofs.Refusals.{number_positive}
use Rattle.entries.specs.Entries.{Conditions, first_met, told, check_entry, set_conditions, search_conditions}
use Rattle.entries.proofs.Refusals.{told_by, unmet, first_unmet, unmet_before}

module _ (ws : List ℕ) where
  abbrev patterns : ℕ
  patterns = length (patterns_of ws)

  abbrev distances : ℕ
  distances = length (flatten (patterns_of ws))

  -- what the check tells by whether the array is a set array
  abbrev tells : Bool → ℕ × (ℕ × ℕ)
  tells b = told_by (first_met ((5, not b) ∷ [])) patterns distances

  -- a refused array is no set array
  pub check_refused : (r : Refusal) → ◌≡◌ {A = ℕ × (ℕ × ℕ)} (number r, (0, 0)) (told (0, 0) (check_entry ws)) → is_set ws ≡ false
  check_refused r e = go (is_set ws) e
    where
      go : (b : Bool) → ◌≡◌ {A = ℕ × (ℕ × ℕ)} (number r, (0, 0)) (tells b) → b ≡ false
      go false e = refl
      go true e = absurd (let y : ⊥ = omega (arith, number_positive r, ap (λ (t : ℕ × (ℕ × ℕ)). t.0) e) in y)

  -- an array that is not refused holds a set of so many patterns and distances
  pub check_good : (k n : ℕ) → ◌≡◌ {A = ℕ × (ℕ × ℕ)} (0, (k, n)) (told (0, 0) (check_entry ws)) → IsSet ws × (k ≡ patterns) × (n ≡ distances)
  check_good k n e = go (is_set ws) e
    where
      go : (b : Bool) → ◌≡◌ {A = ℕ × (ℕ × ℕ)} (0, (k, n)) (tells b) → (b ≡ true) × (k ≡ patterns) × (n ≡ distances)
      go false e = absurd (let z : ◌≡◌ {A = ℕ} 0 5 = ap (λ (t : ℕ × (ℕ × ℕ)). t.0) e in let y : ⊥ = omega arith in y)
      go true e = (refl, ap (λ (t : ℕ × (ℕ × ℕ)). t.1.0) e, ap (λ (t : ℕ × (ℕ × ℕ)). t.1.1) e)

  -- ---- the first condition that is met

  pub set_broken : is_set ws ≡ false → first_met (set_conditions ws) ≡ 5
  set_broken e = rw e refl

  pub set_empty : IsSet ws → patterns ≡ 0 → first_met (set_conditions ws) ≡ 1
  set_empty e z = rw (e, eq-eqb patterns 0 z) refl

  pub set_one_value : IsSet ws → (patterns ≡ 0 → ⊥) → holds_one_value (patterns_of ws) ≡ true → first_met (set_conditions ws) ≡ 15
  set_one_value e z o = rw (e, ne_eqb patterns 0 z, o) refl

  -- none is met where the set may be searched
  pub set_unmet : IsSet ws → T (may_search (patterns_of ws)) → first_met (set_conditions ws) ≡ 0
  set_unmet e t =
      let p = may_search_parts (patterns_of ws) t in
      rw (e, ne_eqb patterns 0 (λ z. let y : ⊥ = omega (arith, p.1) in y), p.2) refl

  -- and only there
  pub set_given : first_met (set_conditions ws) ≡ 0 → IsSet ws × T (may_search (patterns_of ws))
  set_given e =
      let a : Conditions = (15, holds_one_value (patterns_of ws)) ∷ [] in
      let b : Conditions = (5, not (is_set ws)) ∷ a in
      let r1 = first_unmet 0 (is_set ws && eqb patterns 0) b e in
      let r5 = first_unmet 4 (not (is_set ws)) a r1.1 in
      let r15 = first_unmet 14 (holds_one_value (patterns_of ws)) [] r5.1 in
      let s : IsSet ws = not-false (is_set ws) r5.0 in
      let some : (patterns ≡ 0 → ⊥) = eqb-false patterns 0 (ap (λ (b : Bool). b && eqb patterns 0) (sym s) ∙ r1.0) in
      (s, may_search_is (patterns_of ws) (set_good ws s) (positive patterns some) r15.0)

  pub searched_iff : (first_met (set_conditions ws) ≡ 0) ↔ (IsSet ws × T (may_search (patterns_of ws)))
  searched_iff = (set_given, λ p. set_unmet p.0 p.1)

  -- where none is, the conditions behind decide
  pub set_accepted : (cs : Conditions) → first_met (set_conditions ws) ≡ 0 → first_met (set_conditions ws ++ cs) ≡ first_met cs
  set_accepted cs e = go (is_set ws && eqb patterns 0) (not (is_set ws)) (holds_one_value (patterns_of ws)) e
    where
      go : (a b c : Bool) → first_met ((1, a) ∷ (5, b) ∷ (15, c) ∷ []) ≡ 0 → first_met ((1, a) ∷ (5, b) ∷ (15, c) ∷ cs) ≡ first_met cs
      go true b c e = absurd (let y : ⊥ = omega arith in y)
      go false true c e = absurd (let y : ⊥ = omega arith in y)
      go false false true e = absurd (let y : ⊥ = omega arith in y)
      go false false false e = refl

-- ---- the conditions of a search

-- where set and automaton are not refused, the conditions behind decide
pub search_accepted : (ws automaton : List ℕ) (cs : Conditions) → first_met (search_conditions ws automaton) ≡ 0
    → first_met (search_conditions ws automaton ++ cs) ≡ first_met cs
search_accepted ws automaton cs e =
    let other = not (begins automaton (automaton_words (patterns_of ws))) in
    let s = unmet_before (set_conditions ws) ((7, other) ∷ []) e in
    let b = (first_unmet 6 other [] (sym (set_accepted ws ((7, other) ∷ []) s) ∙ e)).0 in
    set_accepted ws ((7, other) ∷ cs) s ∙ unmet 7 other cs b
