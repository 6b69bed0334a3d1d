-- When a filter search is accepted.
use Rattle.std.specs.Prelude.{◌≡◌, ◌∷◌, ◌*◌, ◌≤◌}
use Rattle.lists.proofs.Prelude.{◌∙◌, sym, refl, List, [], ℕ, ℤ, T, ltb, length, le-ltb, ltb-false}
use Rattle.pattern_set.specs.PatternSet.{IsSet, patterns_of, may_search}
use Rattle.matching.specs.Matching.{hits}
use Rattle.entries.specs.Entries.{Conditions, first_met, set_conditions, is_short, filter_conditions}
use Rattle.entries.proofs.Refusals.{first_unmet, unmet_before}
use Rattle.entries.proofs.Searchable.{set_unmet, set_given, set_accepted}

module _ (ws : List ℕ) (text : List ℤ) (out : List ℕ) (rises : List ℤ) where
  abbrev words : ℕ
  words = 2 * length (hits (patterns_of ws) text)

  -- the conditions behind those of the set: the last, the last two, and all
  abbrev from_eleven : Conditions
  from_eleven = (11, ltb (length out) words) ∷ []

  abbrev from_ten : Conditions
  from_ten = (10, is_short out rises) ∷ from_eleven

  abbrev pub from_nine : Conditions
  from_nine = (9, ltb 1048576 (length text)) ∷ from_ten

  -- what an accepted one is given: a set that may be searched, a text that does not go past the
  -- limit, a second array that is long enough, and two words a hit
  pub filter_given : first_met (filter_conditions ws text out rises) ≡ 0
      → T (may_search (patterns_of ws)) × (length text ≤ 1048576) × (length out ≤ 2 * length rises) × (words ≤ length out)
  filter_given e =
      let s = unmet_before (set_conditions ws) from_nine e in
      let r9 = first_unmet 8 (ltb 1048576 (length text)) from_ten (sym (set_accepted ws from_nine s) ∙ e) in
      let r10 = first_unmet 9 (is_short out rises) from_eleven r9.1 in
      let r11 = (first_unmet 10 (ltb (length out) words) [] r10.1).0 in (
        (set_given ws s).1,
        ltb-false 1048576 (length text) r9.0,
        ltb-false (2 * length rises) (length out) r10.0,
        ltb-false (length out) words r11,
      )

  -- and so one is accepted
  pub filter_accepted : IsSet ws → T (may_search (patterns_of ws)) → length text ≤ 1048576 → length out ≤ 2 * length rises → words ≤ length out
      → first_met (filter_conditions ws text out rises) ≡ 0
  filter_accepted s t l n r =
      set_accepted ws from_nine (set_unmet ws s t)
      ∙ rw (le-ltb 1048576 (length text) l, le-ltb (2 * length rises) (length out) n, le-ltb (length out) words r) refl
