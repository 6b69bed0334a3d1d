-- What the entries tell, and what they leave in the array, by the tests that they made.
use Rattle.std.specs.Prelude.{◌≡◌, ◌||◌, ◌∷◌, ◌++◌, ◌+◌, ◌≤◌, ◌<◌}
use Rattle.lists.proofs.Prelude.{◌∙◌, ap, sym, refl, ap₂, Bool, true, false, List, [], flatten, ℕ, suc, ℤ}
use Rattle.lists.proofs.Prelude.{leb, ltb, length, get_or, arith, eq-eqb, ne_eqb, lt-ltb, le-ltb, leb-false, ltb-false}
use Rattle.lists.proofs.Tests.{none_left, none_right}
use Rattle.gaps.specs.Gaps.{holds_gap}
use Rattle.cartesian.specs.Cartesian.{distances}
use Rattle.pattern_set.specs.PatternSet.{PatternSet, set_words, has_one_value, patterns_in, patterns_of, is_set}
use Rattle.pattern_set.proofs.IsSet.{patterns_of_in}
use Rattle.entries.specs.Entries.{first_met, told, after, check_entry, add_entry}
use Rattle.entries.proofs.Refusals.{told_by, left_by}
use Rattle.set_arrays.specs.Moved.{with_set}
use Rattle.set_arrays.proofs.SetRules.{length_patterns, length_distances as distances-in, set-Follows}

-- ---- check_set

pub check_broken : (ws : List ℕ) → is_set ws ≡ false → ◌≡◌ {A = ℕ × (ℕ × ℕ)} (5, (0, 0)) (told (0, 0) (check_entry ws))
check_broken ws h = rw h refl

pub check_holds : (ws : List ℕ) (k n : ℕ) → is_set ws ≡ true → k ≡ get_or ws 0 0 → n ≡ get_or ws 1 0
    → ◌≡◌ {A = ℕ × (ℕ × ℕ)} (0, (k, n)) (told (0, 0) (check_entry ws))
check_holds ws k n h p q =
    let f = set-Follows ws h in
    rw (h, patterns_of_in ws h) (ap₂ (λ (a b : ℕ). (0, (a, b))) (p ∙ sym (length_patterns ws f)) (q ∙ sym (distances-in ws f)))

-- ---- is_full

-- a set that is not full has room
pub not_full : (k n m : ℕ) → leb 64 k || ltb 4096 (n + m) ≡ false → (k < 64) × (n + m ≤ 4096)
not_full k n m f = (leb-false 64 k (none_left (leb 64 k) (ltb 4096 (n + m)) f), ltb-false 4096 (n + m) (none_right (leb 64 k) (ltb 4096 (n + m)) f))

-- ---- add_pattern

-- the call is refused by the number r
abbrev Refuses : List ℕ → List ℤ → ℕ → Type 0
Refuses ws xs r = (◌≡◌ {A = ℕ × (ℕ × ℕ)} (r, (0, 0)) (told (0, 0) (add_entry ws xs))) × (ws ≡ after (add_entry ws xs) ws)

refused : (ws : List ℕ) (xs : List ℤ) (r : ℕ) → first_met (add_entry ws xs).conditions ≡ suc r → Refuses ws xs (suc r)
refused ws xs r e =
    let ps = patterns_of ws in (
      ap (λ (a : ℕ). told_by a (length ps + 1) (length (flatten ps) + length xs)) (sym e),
      ap (λ (a : ℕ). left_by a (set_words (ps ++ (distances xs ∷ []))) ws) (sym e),
    )

pub add_empty : (ws : List ℕ) (xs : List ℤ) → length xs ≡ 0 → Refuses ws xs 1
add_empty ws xs h = refused ws xs 0 (rw (eq-eqb (length xs) 0 h) refl)

pub add_long : (ws : List ℕ) (xs : List ℤ) → (length xs ≡ 0 → ⊥) → 256 < length xs → Refuses ws xs 2
add_long ws xs z h = refused ws xs 1 (rw (ne_eqb (length xs) 0 z, lt-ltb 256 (length xs) h) refl)

pub add_gap : (ws : List ℕ) (xs : List ℤ) → (length xs ≡ 0 → ⊥) → length xs ≤ 256 → holds_gap xs ≡ true → Refuses ws xs 13
add_gap ws xs z h o = refused ws xs 12 (rw (ne_eqb (length xs) 0 z, le-ltb 256 (length xs) h, o) refl)

pub add_broken : (ws : List ℕ) (xs : List ℤ) → (length xs ≡ 0 → ⊥) → length xs ≤ 256 → holds_gap xs ≡ false → is_set ws ≡ false → Refuses ws xs 5
add_broken ws xs z h o b = refused ws xs 4 (rw (ne_eqb (length xs) 0 z, le-ltb 256 (length xs) h, o, b) refl)

-- the pattern and the set are in order, and the set has k patterns and n distances
pub record InOrder (ws : List ℕ) (xs : List ℤ) (k n : ℕ) : Type 0 where
  pub some : length xs ≡ 0 → ⊥
  pub short : length xs ≤ 256
  pub whole : holds_gap xs ≡ false
  pub good : is_set ws ≡ true
  pub patterns : k ≡ get_or ws 0 0
  pub distance_count : n ≡ get_or ws 1 0

-- then the counts decide
module _ {ws : List ℕ} {xs : List ℤ} {k n : ℕ} (o : InOrder ws xs k n) where
  abbrev is_full : ℕ → ℕ → Bool
  is_full a b = leb 64 a || ltb 4096 (b + length xs)

  abbrev left : ℕ → ℕ → ℕ
  left a b = first_met ((6, is_full a b) ∷ (15, has_one_value xs) ∷ (10, ltb (length ws) (4 + a + (b + length xs))) ∷ [])

  patterns_in_lem : length (patterns_in ws) ≡ k
  patterns_in_lem = length_patterns ws (set-Follows ws o.good) ∙ sym o.patterns

  sum_in : length (flatten (patterns_in ws)) ≡ n
  sum_in = distances-in ws (set-Follows ws o.good) ∙ sym o.distance_count

  counts : first_met (add_entry ws xs).conditions ≡ left k n
  counts =
      rw (ne_eqb (length xs) 0 o.some, le-ltb 256 (length xs) o.short, o.whole, o.good, patterns_of_in ws o.good) (ap₂ left patterns_in_lem sum_in)

  pub add_full : is_full k n ≡ true → Refuses ws xs 6
  add_full f = refused ws xs 5 (counts ∙ rw f refl)

  pub add_one_value : is_full k n ≡ false → length xs ≡ 1 → Refuses ws xs 15
  add_one_value f m = refused ws xs 14 (counts ∙ rw (f, eq-eqb (length xs) 1 m) refl)

  pub add_short : is_full k n ≡ false → (length xs ≡ 1 → ⊥) → length ws < 4 + k + n + length xs → Refuses ws xs 10
  add_short f m s = refused ws xs 9 (counts ∙ rw (f, ne_eqb (length xs) 1 m, lt-ltb (length ws) (4 + k + (n + length xs)) (omega arith)) refl)

  pub add_done : {vs : List ℕ} → is_full k n ≡ false → (length xs ≡ 1 → ⊥) → 4 + k + n + length xs ≤ length ws
      → vs ≡ with_set (patterns_of ws ++ (distances xs ∷ [])) ws
      → (◌≡◌ {A = ℕ × (ℕ × ℕ)} (0, (k + 1, n + length xs)) (told (0, 0) (add_entry ws xs))) × (vs ≡ after (add_entry ws xs) ws)
  add_done {vs} f m s e =
      let ps = patterns_in ws in
      let is : patterns_of ws ≡ ps = patterns_of_in ws o.good in
      let accepted : first_met (add_entry ws xs).conditions ≡ 0 =
      counts ∙ rw (f, ne_eqb (length xs) 1 m, le-ltb (length ws) (4 + k + (n + length xs)) (omega arith)) refl in (
        ap₂ (λ (i j : ℕ). (0, (i + 1, j + length xs))) (sym patterns_in_lem) (sym sum_in)
            ∙ ap (λ (qs : PatternSet). told_by 0 (length qs + 1) (length (flatten qs) + length xs)) (sym is)
            ∙ ap (λ (i : ℕ). told_by i (length (patterns_of ws) + 1) (length (flatten (patterns_of ws)) + length xs)) (sym accepted),
        e ∙ ap (λ (i : ℕ). left_by i (set_words (patterns_of ws ++ (distances xs ∷ []))) ws) (sym accepted),
      )
