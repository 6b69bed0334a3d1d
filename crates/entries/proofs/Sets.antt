-- What is known of an accepted add and of an accepted withdrawal: what the array held, and that it
-- holds the new set afterwards.
use Rattle.std.specs.Prelude.{◌≡◌, ◌||◌, ◌∷◌, ◌++◌, ◌+◌, ◌-◌, ◌≤◌, ◌<◌}
use Rattle.lists.proofs.Prelude.{◌∙◌, sym, refl, not, List, [], append_assoc, flatten, ℕ}
use Rattle.lists.proofs.Prelude.{ℤ, T, eqb, leb, ltb, length, drop, replicate, arith, lt-leb, not-false, leb-false, ltb-false, eqb-false, begins}
use Rattle.lists.proofs.Tests.{none_left, none_right}
use Rattle.lists.proofs.Same.{begins_iff}
use Rattle.gaps.specs.Gaps.{holds_gap}
use Rattle.cartesian.specs.Cartesian.{distances}
use Rattle.cartesian.proofs.Seek.{length-distances}
use Rattle.realization.specs.Realization.{Realizable}
use Rattle.realization.proofs.Realizable.{realizable_iff}
use Rattle.pattern_set.specs.PatternSet.{PatternSet, set_words, good_pattern, good_set, has_one_value, is_set, IsSet, patterns_of, without}
use Rattle.pattern_set.proofs.IsSet.{set_good, begins_set}
use Rattle.pattern_set.proofs.Good.{good_pattern_is, good_more}
use Rattle.pattern_set.proofs.Without.{good_without}
use Rattle.entries.specs.Entries.{Conditions, first_met, after, add_entry, withdraw_entry}
use Rattle.entries.proofs.Refusals.{first_unmet, left_accepted}

-- the array begins with the words of the set: it is a set array, and has these patterns
pub record Holds (vs : List ℕ) (qs : PatternSet) : Type 0 where
  pub front : T (begins vs (set_words qs))
  pub good : IsSet vs
  pub patterns : patterns_of vs ≡ qs

holds : (vs rest : List ℕ) (qs : PatternSet) → T (good_set qs) → set_words qs ++ rest ≡ vs → Holds vs qs
holds vs rest qs g e =
    let b = (begins_iff vs (set_words qs)).1 (rest, sym e) in
    let r = begins_set vs qs g b in
    record { front = b; good = r.0; patterns = r.1 }

-- ---- adding

-- what an accepted add is given: a set array, and values that make a pattern for which it has room
pub record Addable (ws : List ℕ) (xs : List ℤ) : Type 0 where
  pub set : IsSet ws
  pub some : 0 < length xs
  pub short : length xs ≤ 256
  pub few : length (patterns_of ws) < 64
  pub within : length (flatten (patterns_of ws)) + length xs ≤ 4096

module _ (ws : List ℕ) (xs : List ℤ) (e : first_met (add_entry ws xs).conditions ≡ 0) where
  abbrev ps : PatternSet
  ps = patterns_of ws

  -- the distances of the set and of the values
  abbrev n : ℕ
  n = length (flatten ps) + length xs

  pub add_given : Addable ws xs
  add_given =
      let a : Conditions = (10, ltb (length ws) (4 + length ps + n)) ∷ [] in
      let b : Conditions = (6, leb 64 (length ps) || ltb 4096 n) ∷ (15, has_one_value xs) ∷ a in
      let c : Conditions = (5, not (is_set ws)) ∷ b in
      let d : Conditions = (13, holds_gap xs) ∷ c in
      let f : Conditions = (2, ltb 256 (length xs)) ∷ d in
      let r1 = first_unmet 0 (eqb (length xs) 0) f e in
      let r2 = first_unmet 1 (ltb 256 (length xs)) d r1.1 in
      let r13 = first_unmet 12 (holds_gap xs) c r2.1 in
      let r5 = first_unmet 4 (not (is_set ws)) b r13.1 in
      let r6 = (first_unmet 5 (leb 64 (length ps) || ltb 4096 n) ((15, has_one_value xs) ∷ a) r5.1).0 in
      record {
        set = not-false (is_set ws) r5.0;
        some = omega (arith, eqb-false (length xs) 0 r1.0);
        short = ltb-false 256 (length xs) r2.0;
        few = leb-false 64 (length ps) (none_left (leb 64 (length ps)) (ltb 4096 n) r6);
        within = ltb-false 4096 n (none_right (leb 64 (length ps)) (ltb 4096 n) r6);
      }

  -- the values' distances are a good pattern
  good_added : T (good_pattern (distances xs))
  unfolding Realizable
  good_added =
      let d = length-distances xs in
      good_pattern_is (distances xs) (omega (arith, d, add_given.some)) (omega (arith, d, add_given.short)) ((realizable_iff (distances xs)).1 (xs, refl))

  -- afterwards the array holds the set with that pattern as its last
  pub add-Holds : Holds (after (add_entry ws xs) ws) (patterns_of ws ++ (distances xs ∷ []))
  add-Holds =
      let qs = ps ++ (distances xs ∷ []) in
      let g = good_more ps (distances xs) (set_good ws add_given.set) good_added add_given.few (omega (arith, length-distances xs, add_given.within)) in
      holds (after (add_entry ws xs) ws) (drop (length (set_words qs)) ws) qs g (left_accepted (0, 0) (add_entry ws xs) ws e)

-- ---- withdrawing

module _ (ws : List ℕ) (j : ℕ) where
  -- an accepted withdrawal is given a set array and the number of one of its patterns
  pub withdraw_given : first_met (withdraw_entry ws j).conditions ≡ 0 → IsSet ws × (j < length (patterns_of ws))
  withdraw_given e =
      let k = length (patterns_of ws) in
      let r5 = first_unmet 4 (not (is_set ws)) ((14, leb k j) ∷ []) e in
      (not-false (is_set ws) r5.0, leb-false k j (first_unmet 13 (leb k j) [] r5.1).0)

  -- and one that is given these is accepted
  pub withdraw_accepted : IsSet ws → j < length (patterns_of ws) → first_met (withdraw_entry ws j).conditions ≡ 0
  withdraw_accepted s h = rw (s, lt-leb (length (patterns_of ws)) j h) refl

  -- afterwards the array holds the set of the other patterns
  pub withdraw-Holds : first_met (withdraw_entry ws j).conditions ≡ 0 → Holds (after (withdraw_entry ws j) ws) (without j (patterns_of ws))
  withdraw-Holds e =
      let g = withdraw_given e in
      let E = withdraw_entry ws j in
      let qs = without j (patterns_of ws) in
      let zeros : List ℕ = replicate (length (set_words (patterns_of ws)) - length (set_words qs)) 0 in
      let rest = drop (length E.result) ws in
      holds (after E ws) (zeros ++ rest) qs (good_without (patterns_of ws) j g.1 (set_good ws g.0))
      (sym (append_assoc (set_words qs) zeros rest) ∙ left_accepted (0, 0) E ws e)
