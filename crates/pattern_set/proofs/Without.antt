-- A set without one of its patterns: its sizes, that it is good where the set was, and its patterns
-- by the new numbers; and that it is the set before, where that pattern is the last.
use Rattle.std.specs.Prelude.{◌≡◌, ◌⊎◌, ◌∷◌, ◌++◌, ◌+◌, ◌-◌, ◌<◌, ◌≤◌}
use Rattle.lists.proofs.Prelude.{◌∙◌, ap, sym, subst, ap₂, inl, inr, List, [], append-nil, Memᴰ, Memᴰ-append_cases, flatten, ℕ}
use Rattle.lists.proofs.Prelude.{suc, T, length, get_or, take, drop, length-append, split_at, take-append_seam, drop_of_length-le, arith}
use Rattle.lists.proofs.Prelude.{Memᴰ-append_left, Memᴰ-append_right, Memᴰ-tail, length-take-le, get_or-take, get_or-drop, get_or-append-add}
use Rattle.lists.proofs.Prelude.{get_or-append}
use Rattle.lists.proofs.Parts.{length_snoc}
use Rattle.lists.proofs.Members.{all-mem, mem-all}
use Rattle.lists.proofs.Rows.{flatten-append}
use Rattle.pattern_set.specs.PatternSet.{PatternSet, set_words, good_pattern, good_set, without}
use Rattle.pattern_set.proofs.Words.{length-set_words}
use Rattle.pattern_set.proofs.Good.{good_set_parts, good_set_is}

module _ (ps : PatternSet) (j : ℕ) (h : j < length ps) where
  abbrev before : PatternSet
  before = take j ps

  abbrev behind : PatternSet
  behind = drop (suc j) ps

  -- the set is the patterns before, pattern j, and those behind
  pub around : ps ≡ before ++ (get_or ps j [] ∷ behind)
  around = split_at ps j [] h

  -- the set has one pattern more
  pub length-without : length ps ≡ suc (length (without j ps))
  unfolding without
  length-without =
      let e : length (before ++ (get_or ps j [] ∷ behind)) ≡ suc (length (before ++ behind)) = simp length-append (omega arith) in
      ap length around ∙ e

  -- and its distances more
  pub distances_without : length (flatten ps) ≡ length (flatten (without j ps)) + length (get_or ps j [])
  unfolding without flatten
  distances_without =
      let e : length (flatten (before ++ (get_or ps j [] ∷ behind))) ≡ length (flatten (before ++ behind)) + length (get_or ps j []) =
      rw (flatten-append, flatten-append) (simp length-append (omega arith)) in
      ap (λ (qs : PatternSet). length (flatten qs)) around ∙ e

  -- the words that are no longer used: an offset, and those distances
  pub words_without : length (set_words ps) - length (set_words (without j ps)) ≡ 1 + length (get_or ps j [])
  words_without = omega (arith, length-set_words ps, length-set_words (without j ps), length-without, distances_without)

  pub good_without : T (good_set ps) → T (good_set (without j ps))
  unfolding without
  good_without g =
      let b = good_set_parts ps g in
      let kept : (p : List ℕ) → Memᴰ p (before ++ behind) → Memᴰ p ps =
      λ p m. subst (λ (qs : PatternSet). Memᴰ p qs) (sym around) (go p (Memᴰ-append_cases before m)) in
      good_set_is (without j ps) (omega (arith, length-without, b.0)) (omega (arith, distances_without, b.1))
      (mem-all good_pattern (without j ps) (λ p m. all-mem good_pattern ps b.2 p (kept p m)))
    where
      go : (p : List ℕ) → Memᴰ p before ⊎ Memᴰ p behind → Memᴰ p (before ++ (get_or ps j [] ∷ behind))
      go p (inl m) = Memᴰ-append_left (get_or ps j [] ∷ behind) m
      go p (inr m) = Memᴰ-append_right before (Memᴰ-tail m)

  -- lower numbers stay, higher ones move down by one
  pub lower_pattern : (i : ℕ) → i < j → get_or (without j ps) i [] ≡ get_or ps i []
  unfolding without
  lower_pattern i l = get_or-append before behind [] i (omega (arith, length-take-le j ps (omega arith))) ∙ get_or-take j ps i [] l

  pub higher_pattern : (i : ℕ) → j ≤ i → get_or (without j ps) i [] ≡ get_or ps (suc i) []
  unfolding without
  higher_pattern i l =
      let n : length before ≡ j = length-take-le j ps (omega arith) in
      let e : i ≡ length before + (i - j) = omega (arith, n) in
      let k : suc j + (i - j) ≡ suc i = omega arith in
      ap (λ (m : ℕ). get_or (before ++ behind) m []) e
      ∙ get_or-append-add before behind (i - j) []
      ∙ get_or-drop (suc j) ps (i - j) []
      ∙ ap (λ (m : ℕ). get_or ps m []) k

-- without the last pattern it is the set before
pub without_last : (ps : PatternSet) (p : List ℕ) → without (length ps) (ps ++ (p ∷ [])) ≡ ps
unfolding without
without_last ps p =
    let more = ps ++ (p ∷ []) in
    ap₂ (λ (l r : PatternSet). l ++ r) (take-append_seam ps (p ∷ [])) (drop_of_length-le more {i = suc (length ps)} (omega (arith, length_snoc ps p)))
    ∙ append-nil ps
