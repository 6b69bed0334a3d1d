-- THE LAW OF WITHDRAWING: what the steps leave in a good array, one after the other, up to the
-- entry's result.
use Rattle.std.specs.Prelude.{◌≡◌, ◌∷◌, ◌++◌, ◌+◌, ◌-◌, ◌≤◌, ◌<◌}
use Rattle.lists.proofs.Prelude.{◌∙◌, ap, subst, List, [], map, flatten, ℕ, suc, length, get_or, take, drop, set, replicate}
use Rattle.lists.proofs.Prelude.{length-append, length-drop, length-take-le, length-replicate, get_or-set_other, take-take, arith}
use Rattle.lists.proofs.Rows.{flatten-append, length-flatten-take}
use Rattle.pattern_set.specs.PatternSet.{PatternSet, set_words, patterns_of, without}
use Rattle.pattern_set.proofs.Words.{length-set_words}
use Rattle.pattern_set.proofs.Without.{around, length-without, distances_without, words_without}
use Rattle.set_access.proofs.Laws.{words_and_rest, set_fits, offset_next, word_offset}
use Rattle.entries.specs.Entries.{after, withdraw_entry}
use Rattle.entries.proofs.Refusals.{left_accepted}
use Rattle.entries.proofs.Sets.{withdraw_accepted}
use Rattle.withdraw_pattern.specs.Replaced.{replaced}
use Rattle.withdraw_pattern.proofs.Replacing.{Over, length-Over, replaced_behind}
use Rattle.withdraw_pattern.proofs.Removing.{counted, lowered, joined, length-lowered, length-joined, count_less, lower, join, close}
use Rattle.withdraw_pattern.proofs.Sizes.{Sizes, bounds}

module _ {ws : List ℕ} {j k n o m : ℕ} (s : Sizes ws j k n o m) where
  abbrev ps : PatternSet
  ps = patterns_of ws

  abbrev b : PatternSet
  b = take j ps

  abbrev a : PatternSet
  a = drop (suc j) ps

  abbrev p : List ℕ
  p = get_or ps j []

  abbrev rest : List ℕ
  rest = (words_and_rest ws s.good).0

  is : ws ≡ set_words (b ++ (p ∷ a)) ++ rest
  is = (words_and_rest ws s.good).1 ∙ ap (λ (qs : PatternSet). set_words qs ++ rest) (around ps j s.below)

  -- ---- lengths

  length-b : length b ≡ j
  length-b = length-take-le j ps (omega (arith, s.below))

  length-a : suc (j + length a) ≡ k
  length-a = omega (arith, length-drop (suc j) ps, s.below, s.patterns)

  total : length (flatten ps) ≡ length (flatten b) + m + length (flatten a)
  unfolding flatten
  total =
      ap (λ (qs : PatternSet). length (flatten qs)) (around ps j s.below)
      ∙ ap length (flatten-append b (p ∷ a))
      ∙ length-append (flatten b) (p ++ flatten a)
      ∙ (omega (arith, length-append p (flatten a), s.long))

  -- ---- the steps

  -- the counts are stored
  abbrev Counted : List ℕ → Type 0
  Counted vs = Over (counted b a) ws vs

  -- the offsets are lowered and moved down
  abbrev pub Lowered : List ℕ → Type 0
  Lowered vs = Over (lowered b a) ws vs

  -- the distances before the pattern are moved down
  abbrev pub Joined : List ℕ → Type 0
  Joined vs = Over (joined b a) ws vs

  -- and those behind it
  abbrev pub Closed : List ℕ → Type 0
  Closed vs = Over (set_words (without j ps)) ws vs

  -- the words that are no longer used are cleared
  abbrev pub Cleared : List ℕ → Type 0
  Cleared vs = Over (set_words (without j ps) ++ replicate (1 + m) 0) ws vs

  pub is-Counted : Counted (set (set ws 0 (k - 1)) 1 (n - m))
  is-Counted = count_less b a p ws rest is (k - 1) (n - m) (omega (arith, length-b, length-a))
      (omega (arith, length-append (flatten b) (flatten a), total, s.distances, s.patterns, s.patterns))

  -- the offsets behind are at least m
  pub offsets_ge : (i : ℕ) → i < k - j → m ≤ get_or (set (set ws 0 (k - 1)) 1 (n - m)) (2 + j + 1 + i) 0
  offsets_ge i h =
      let g = s.good in
      let q : 2 + j + 1 + i ≡ 2 + (suc j + i) = omega arith in
      let word : get_or (set (set ws 0 (k - 1)) 1 (n - m)) (2 + j + 1 + i) 0 ≡ length (flatten (take (suc j + i) ps)) =
      get_or-set_other (set ws 0 (k - 1)) 1 (2 + j + 1 + i) (n - m) 0 (λ e. omega arith)
      ∙ get_or-set_other ws 0 (2 + j + 1 + i) (k - 1) 0 (λ e. omega arith)
      ∙ ap (λ (n : ℕ). get_or ws n 0) q
      ∙ word_offset ws g (suc j + i) (omega (arith, s.patterns)) in
      let front : length (flatten (take (suc j) ps)) ≤ length (flatten (take (suc j + i) ps)) =
      subst (λ (qs : PatternSet). length (flatten qs) ≤ length (flatten (take (suc j + i) ps))) (take-take (suc j) (suc j + i) ps (omega arith))
      (length-flatten-take (take (suc j + i) ps) (suc j)) in
      omega (arith, word, front, offset_next ws g j s.below, s.long)

  pub is-Lowered : (vs : List ℕ) → Counted vs → Lowered (replaced (2 + j) (map (λ w. w - m) (take (k - j) (drop (2 + j + 1) vs))) vs)
  is-Lowered vs e = lower b a p ws rest is vs (2 + j) (k - j) m (omega (arith, length-b)) (omega (arith, length-a)) s.long e

  pub Lowered-length : (vs : List ℕ) → Lowered vs → length vs ≡ length ws
  Lowered-length vs e = length-Over (lowered b a) ws vs (omega (arith, length-lowered b a, length-b, length-a, bounds s)) e

  pub is-Joined : (vs : List ℕ) → Lowered vs → Joined (replaced (2 + k) (take (3 + k + o - 3 - k) (drop (2 + k + 1) vs)) vs)
  is-Joined vs e = join b a p ws rest is vs (2 + k) (3 + k + o - 3 - k) (omega (arith, length-b, length-a)) (omega (arith, s.begins, s.patterns)) e

  pub Joined-length : (vs : List ℕ) → Joined vs → length vs ≡ length ws
  Joined-length vs e = length-Over (joined b a) ws vs (omega (arith, length-joined b a, length-b, length-a, total, s.distances, s.patterns, bounds s)) e

  pub is-Closed : (vs : List ℕ) → Joined vs → Closed (replaced (3 + k + o - 1) (take (3 + k + n - (3 + k + o) - m) (drop (3 + k + o - 1 + (1 + m)) vs)) vs)
  unfolding without
  is-Closed vs e =
      close b a p ws rest is vs (3 + k + o - 1) (1 + m) (3 + k + n - (3 + k + o) - m) (omega (arith, s.begins, s.patterns, length-b, length-a))
      (omega (arith, s.long)) (omega (arith, total, s.distances, s.patterns, s.begins)) e

  pub Closed-length : (vs : List ℕ) → Closed vs → length vs ≡ length ws
  Closed-length vs e =
      let qs = without j ps in
      let l = length-set_words qs in
      length-Over (set_words qs) ws vs
      (omega (arith, l, length-without ps j s.below, distances_without ps j s.below, set_fits ws s.good)) e

  pub is-Cleared : (vs : List ℕ) → Closed vs → Cleared (replaced (3 + k + n - 1 - m) (replicate (1 + m) 0) vs)
  is-Cleared vs e =
      let qs = without j ps in
      replaced_behind (set_words qs) (replicate (1 + m) 0) ws vs (3 + k + n - 1 - m)
      (omega (arith, length-set_words qs, s.distances, s.patterns, length-without ps j s.below, distances_without ps j s.below, s.long)) e

  unused : 1 + m ≡ length (set_words ps) - length (set_words (without j ps))
  unused = omega (arith, words_without ps j s.below, s.long)

  pub Cleared-length : (vs : List ℕ) → Cleared vs → length vs ≡ length ws
  Cleared-length vs e =
      let qs = without j ps in
      let zeros : List ℕ = replicate (1 + m) 0 in
      let l : length zeros ≡ 1 + m = length-replicate (1 + m) 0 in
      length-Over (set_words qs ++ zeros) ws vs
      (omega (arith, length-append (set_words qs) zeros, l, unused, length-set_words qs, length-set_words ps, set_fits ws s.good)) e

  pub Cleared-after : (vs : List ℕ) → Cleared vs → vs ≡ after (withdraw_entry ws j) ws
  Cleared-after vs e =
      let qs = without j ps in
      e
      ∙ ap (λ (n : ℕ). set_words qs ++ replicate n 0 ++ drop (length (set_words qs ++ replicate n 0)) ws) unused
      ∙ left_accepted (0, 0) (withdraw_entry ws j) ws (withdraw_accepted ws j s.good s.below)
