-- What is known of a set array that is good: it begins with the words of its patterns, so that each
-- pattern lies between two of the offsets, and each pattern is good.
use Rattle.std.specs.Prelude.{◌≡◌, ◌++◌, ◌+◌, ◌-◌, ◌≤◌, ◌<◌}
use Rattle.lists.proofs.Prelude.{◌∙◌, ap, sym, refl, ap₂, List, [], flatten, ℕ, suc, T, length, get_or, take, drop, length-append}
use Rattle.lists.proofs.Prelude.{get_or-eq_default, get_or-take, get_or-drop, add-one, dec_lt, arith}
use Rattle.lists.proofs.Members.{get_or-mem, all-mem}
use Rattle.lists.proofs.Rows.{length-flatten-suc, length-flatten-take}
use Rattle.lists.proofs.Same.{begins_iff}
use Rattle.lists.proofs.Tables.{get_or-tabulate}
use Rattle.cartesian.specs.Cartesian.{distances}
use Rattle.cartesian.proofs.Seek.{get_or-distances, distance_le}
use Rattle.realization.specs.Realization.{realizable, least_realization}
use Rattle.realization.proofs.LeastRealization.{least_distances, length_least}
use Rattle.pattern_set.specs.PatternSet.{PatternSet, set_words, good_pattern, pattern_in, patterns_in, patterns_of, IsSet}
use Rattle.set_access.specs.Holds.{Holds}
use Rattle.pattern_set.proofs.Words.{length-set_words, patterns_in_words, words_count, words_offset, words_one}
use Rattle.pattern_set.proofs.IsSet.{set_good, set_begins}
use Rattle.pattern_set.proofs.Good.{good_pattern_parts, good_set_parts}

-- a distance of a realizable list is at most its place; behind the list `get_or` gives 0
pub realizable-le_place : (ds : List ℕ) → T (realizable ds) → (i : ℕ) → get_or ds i 0 ≤ i
realizable-le_place ds r i = go (dec_lt i (length ds))
  where
    go : Dec (i < length ds) → get_or ds i 0 ≤ i
    go (yes h) =
        let xs = least_realization ds in
        let e : get_or (distances xs) i 0 ≡ get_or ds i 0 = ap (λ (v : List ℕ). get_or v i 0) (least_distances ds r) in
        omega (arith, e, get_or-distances xs 0 i (rw (length_least ds r) h), distance_le xs i)
    go (no f) = let e : get_or ds i 0 ≡ 0 = get_or-eq_default ds 0 {n = i} (omega arith) in omega arith

-- ---- of a good array

module _ (ws : List ℕ) (good : IsSet ws) where
  -- the array is the words of its set, and a rest
  pub words_and_rest : (rest : List ℕ) × (ws ≡ set_words (patterns_of ws) ++ rest)
  words_and_rest = (begins_iff ws (set_words (patterns_of ws))).0 (set_begins ws good)

  -- ---- sizes

  pub count_le : length (patterns_of ws) ≤ 64
  count_le = (good_set_parts (patterns_of ws) (set_good ws good)).0

  pub total_le : length (flatten (patterns_of ws)) ≤ 4096
  total_le = (good_set_parts (patterns_of ws) (set_good ws good)).1

  -- the words of the set lie in the array
  pub set_fits : 3 + length (patterns_of ws) + length (flatten (patterns_of ws)) ≤ length ws
  set_fits =
      let r = words_and_rest in
      omega (arith, ap length r.1, length-append (set_words (patterns_of ws)) r.0, length-set_words (patterns_of ws))

  -- the patterns before pattern j
  pub offset_le : (j : ℕ) → length (flatten (take j (patterns_of ws))) ≤ length (flatten (patterns_of ws))
  offset_le j = length-flatten-take (patterns_of ws) j

  pub offset_small : (j : ℕ) → length (flatten (take j (patterns_of ws))) ≤ 4096
  offset_small j = omega (arith, offset_le j, total_le)

  -- and with it
  pub offset_next : (j : ℕ) → j < length (patterns_of ws)
      → length (flatten (take (suc j) (patterns_of ws))) ≡ length (flatten (take j (patterns_of ws))) + length (get_or (patterns_of ws) j [])
  offset_next j h = length-flatten-suc (patterns_of ws) j h

  -- the next pattern starts where pattern j ends
  pub next_start : (j a e : ℕ) → j < length (patterns_of ws)
      → a ≡ 3 + length (patterns_of ws) + length (flatten (take j (patterns_of ws)))
      → e ≡ 3 + length (patterns_of ws) + length (flatten (take (j + 1) (patterns_of ws)))
      → e ≡ a + length (get_or (patterns_of ws) j [])
  next_start j a e h p q = omega (arith, p, offset_next j h, rw add-one at q)

  -- pattern j lies in the array
  pub pattern_fits : (j : ℕ) → j < length (patterns_of ws)
      → 3 + length (patterns_of ws) + length (flatten (take j (patterns_of ws))) + length (get_or (patterns_of ws) j []) ≤ length ws
  pattern_fits j h = omega (arith, set_fits, offset_next j h, offset_le (suc j))

  -- ---- the words

  pub word_count : get_or ws 0 0 ≡ length (patterns_of ws)
  word_count = let r = words_and_rest in ap (λ (l : List ℕ). get_or l 0 0) r.1 ∙ words_count (patterns_of ws) r.0

  pub word_total : get_or ws 1 0 ≡ length (flatten (patterns_of ws))
  word_total = let r = words_and_rest in ap (λ (l : List ℕ). get_or l 1 0) r.1 ∙ words_one (patterns_of ws) r.0

  pub word_offset : (j : ℕ) → j ≤ length (patterns_of ws) → get_or ws (2 + j) 0 ≡ length (flatten (take j (patterns_of ws)))
  word_offset j h = let r = words_and_rest in ap (λ (l : List ℕ). get_or l (2 + j) 0) r.1 ∙ words_offset (patterns_of ws) r.0 j h

  patterns_in_is : patterns_in ws ≡ patterns_of ws
  patterns_in_is = let r = words_and_rest in ap patterns_in r.1 ∙ patterns_in_words (patterns_of ws) r.0

  -- pattern j is what lies from its offset up to the next one
  pattern_in_is : (j : ℕ) → j < length (patterns_of ws) → pattern_in ws j ≡ get_or (patterns_of ws) j []
  pattern_in_is j h =
      sym (get_or-tabulate (get_or ws 0 0) (pattern_in ws) [] j (rw word_count h)) ∙ ap (λ (l : PatternSet). get_or l j []) patterns_in_is

  pub pattern_part : (j : ℕ) → j < length (patterns_of ws)
      → take (length (get_or (patterns_of ws) j [])) (drop (3 + length (patterns_of ws) + length (flatten (take j (patterns_of ws)))) ws) ≡ get_or
      (patterns_of ws) j []
  unfolding pattern_in
  pattern_part j h =
      let p = length (get_or (patterns_of ws) j []) in
      let a = length (flatten (take j (patterns_of ws))) in
      let s : get_or ws (2 + j) 0 ≡ a = word_offset j (omega arith) in
      let three : 2 + suc j ≡ 3 + j = omega arith in
      let e : get_or ws (3 + j) 0 - get_or ws (2 + j) 0 ≡ p = omega (arith, s, offset_next j h, rw three at (word_offset (suc j) h)) in
      sym (ap₂ (λ (n b : ℕ). take n (drop b ws)) e (ap₂ (λ (k o : ℕ). 3 + k + o) word_count s)) ∙ pattern_in_is j h

  -- the same of the words from the start of pattern j to the start of the next one
  pub pattern_between : (j a e : ℕ) → j < length (patterns_of ws)
      → a ≡ 3 + length (patterns_of ws) + length (flatten (take j (patterns_of ws)))
      → e ≡ 3 + length (patterns_of ws) + length (flatten (take (j + 1) (patterns_of ws)))
      → take (e - a) (drop a ws) ≡ get_or (patterns_of ws) j []
  pattern_between j a e h p q =
      let n : e - a ≡ length (get_or (patterns_of ws) j []) = omega (arith, next_start j a e h p q) in
      rw (n, p) (pattern_part j h)

  -- place i of pattern j
  pub distance_word : (j i : ℕ) → j < length (patterns_of ws) → i < length (get_or (patterns_of ws) j [])
      → get_or ws (3 + length (patterns_of ws) + length (flatten (take j (patterns_of ws))) + i) 0 ≡ get_or (get_or (patterns_of ws) j []) i 0
  distance_word j i h l =
      let a = 3 + length (patterns_of ws) + length (flatten (take j (patterns_of ws))) in
      sym (get_or-take (length (get_or (patterns_of ws) j [])) (drop a ws) i 0 l ∙ get_or-drop a ws i 0) ∙ ap (λ (l : List ℕ). get_or l i 0) (pattern_part j h)

  -- ---- the patterns

  pub good_pattern_lem : (j : ℕ) → j < length (patterns_of ws) → T (good_pattern (get_or (patterns_of ws) j []))
  good_pattern_lem j h =
      let ps = patterns_of ws in
      all-mem good_pattern ps (good_set_parts ps (set_good ws good)).2 (get_or ps j []) (get_or-mem ps j [] h)

  pub pattern_ge : (j : ℕ) → j < length (patterns_of ws) → 1 ≤ length (get_or (patterns_of ws) j [])
  pattern_ge j h = (good_pattern_parts (get_or (patterns_of ws) j []) (good_pattern_lem j h)).0

  pub pattern_le : (j : ℕ) → j < length (patterns_of ws) → length (get_or (patterns_of ws) j []) ≤ 256
  pattern_le j h = (good_pattern_parts (get_or (patterns_of ws) j []) (good_pattern_lem j h)).1

  pub pattern_realizable : (j : ℕ) → j < length (patterns_of ws) → T (realizable (get_or (patterns_of ws) j []))
  pattern_realizable j h = (good_pattern_parts (get_or (patterns_of ws) j []) (good_pattern_lem j h)).2

-- all that a view of the patterns rests on
pub holds : (ws : List ℕ) → IsSet ws → Holds ws (patterns_of ws)
holds ws good = record {
  good = good;
  few = count_le ws good;
  small = total_le ws good;
  fits = set_fits ws good;
  count = word_count ws good;
  total = word_total ws good;
  offset = word_offset ws good;
  within = offset_le ws good;
  rises = λ j h. omega (arith, offset_next ws good j h, ap (λ n. length (flatten (take n (patterns_of ws)))) (add-one j));
  part = λ j h. pattern_between ws good j _ _ h refl refl;
  each = good_pattern_lem ws good;
}
