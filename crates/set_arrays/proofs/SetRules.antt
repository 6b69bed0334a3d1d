-- THE LAW OF THE RULES: an array begins with a good set's words exactly if its words follow the
-- rules. One way, the lists between the offsets, put end to end, are the array's distances, and
-- their lengths add up to the offsets; the other way, the offsets of a good set are the lengths of
-- its first patterns.
use Rattle.std.specs.Prelude.{◌≡◌, ◌∷◌, ◌++◌, ◌+◌, ◌-◌, ◌≤◌, ◌<◌, IsTrue}
use Rattle.lists.proofs.Prelude.{◌∙◌, ap, sym, refl, subst, ap₂, Bool, true, false, List, [], append-nil, append_assoc, flatten, ℕ, zero}
use Rattle.lists.proofs.Prelude.{suc, T, length, get_or, take, drop, length-append, length-drop, take-append-drop}
use Rattle.lists.proofs.Prelude.{length-take-le, get_or-take, get_or-drop, drop-drop, ext_get_or, take-add, take-length, add-one, arith, tabulate, begins}
use Rattle.lists.proofs.Same.{begins_iff}
use Rattle.lists.proofs.Tests.{clash}
use Rattle.lists.proofs.Tables.{length-tabulate, take-tabulate}
use Rattle.lists.proofs.Members.{all-get_or, mem-all, mem_table}
use Rattle.lists.proofs.Rows.{flatten-tabulate, length-flatten-suc, flatten-nil, flatten_none}
use Rattle.realization.specs.Realization.{realizable}
use Rattle.set_arrays.specs.Rules.{OffsetsRise, HasOffsets, ListsRealizable}
use Rattle.pattern_set.specs.PatternSet.{PatternSet, offsets, set_words, good_pattern, good_set, pattern_in, patterns_in, is_set, patterns_of}
use Rattle.pattern_set.proofs.Words.{length-offsets, length-set_words, get_or-offsets, words_count, words_one, words_offset, pattern_in_words}
use Rattle.pattern_set.proofs.IsSet.{begins_set, set_good, set_begins}
use Rattle.pattern_set.proofs.Good.{good_pattern_parts, good_set_parts, good_pattern_is, good_set_is}

-- the rules, as facts about an array's words
pub record Follows (ws : List ℕ) : Type 0 where
  pub offsets : HasOffsets ws
  pub lists : ListsRealizable ws (get_or ws 0 0)

-- then none is above the last one
pub offset_le : (ws : List ℕ) (k : ℕ) → OffsetsRise ws k → (i j : ℕ) → i + j ≡ k → get_or ws (2 + i) 0 ≤ get_or ws (2 + k) 0
offset_le ws k rise i zero e = let q : i ≡ k = omega arith in rw q (omega arith)
offset_le ws k rise i (suc j) e =
    let ih : get_or ws (2 + suc i) 0 ≤ get_or ws (2 + k) 0 = offset_le ws k rise (suc i) j (omega arith) in
    let q : 3 + i ≡ 2 + suc i = omega arith in
    let r = rise i (omega arith) in
    omega (arith, r.0, ap (λ (a : ℕ). get_or ws a 0) q)

module _ (ws : List ℕ) (h : HasOffsets ws) where
  -- the lists lie between the first and the last offset
  pub list_within : (j : ℕ) → j < get_or ws 0 0 → get_or ws (3 + j) 0 ≤ get_or ws 1 0
  list_within j l =
      let q : 2 + suc j ≡ 3 + j = omega arith in
      omega (arith, offset_le ws (get_or ws 0 0) h.rise (suc j) (get_or ws 0 0 - suc j) (omega arith), h.last, ap (λ (n : ℕ). get_or ws n 0) q)

-- the words between two offsets are the list
pub list_is : (ws : List ℕ) (j : ℕ)
    → take (3 + get_or ws 0 0 + get_or ws (3 + j) 0 - (3 + get_or ws 0 0 + get_or ws (2 + j) 0)) (drop (3 + get_or ws 0 0 + get_or ws (2 + j) 0) ws) ≡
    pattern_in ws j
unfolding pattern_in
list_is ws j =
    let e : 3 + get_or ws 0 0 + get_or ws (3 + j) 0 - (3 + get_or ws 0 0 + get_or ws (2 + j) 0) ≡ get_or ws (3 + j) 0 - get_or ws (2 + j) 0 = omega arith in
    ap (λ (n : ℕ). take n (drop (3 + get_or ws 0 0 + get_or ws (2 + j) 0) ws)) e

first_two : (ws : List ℕ) → 2 ≤ length ws → ws ≡ get_or ws 0 0 ∷ get_or ws 1 0 ∷ drop 2 ws
first_two [] h = absurd (let z : ⊥ = omega arith in z)
first_two (a ∷ []) h = absurd (let z : ⊥ = omega arith in z)
first_two (a ∷ b ∷ ws) h = refl

set_words_is : (ps : PatternSet) → set_words ps ≡ length ps ∷ length (flatten ps) ∷ (offsets 0 ps ++ flatten ps)
unfolding set_words
set_words_is ps = refl

module _ (ws : List ℕ) (f : Follows ws) where
  abbrev behind : List ℕ
  behind = drop (3 + get_or ws 0 0) ws

  offset_in : (j : ℕ) → j ≤ get_or ws 0 0 → get_or ws (2 + j) 0 ≤ get_or ws 1 0
  offset_in j h = omega (arith, offset_le ws (get_or ws 0 0) f.offsets.rise j (get_or ws 0 0 - j) (omega arith), f.offsets.last)

  length-behind : length behind ≡ length ws - (3 + get_or ws 0 0)
  length-behind = length-drop (3 + get_or ws 0 0) ws

  length_front : (j : ℕ) → j ≤ get_or ws 0 0 → length (take (get_or ws (2 + j) 0) behind) ≡ get_or ws (2 + j) 0
  length_front j h = length-take-le (get_or ws (2 + j) 0) behind (omega (arith, length-behind, offset_in j h, f.offsets.sizes.2))

  pattern_in-behind : (j : ℕ) → pattern_in ws j ≡ take (get_or ws (3 + j) 0 - get_or ws (2 + j) 0) (drop (get_or ws (2 + j) 0) behind)
  unfolding pattern_in
  pattern_in-behind j = ap (take (get_or ws (3 + j) 0 - get_or ws (2 + j) 0)) (sym (drop-drop (get_or ws (2 + j) 0) (3 + get_or ws 0 0) ws))

  -- the first j lists, end to end, are the words up to offset j
  flatten_first : (j : ℕ) → j ≤ get_or ws 0 0 → flatten (tabulate j (pattern_in ws)) ≡ take (get_or ws (2 + j) 0) behind
  flatten_first zero h = flatten_none (pattern_in ws) ∙ ap (λ (n : ℕ). take n behind) (sym f.offsets.first)
  flatten_first (suc j) h =
      let a = get_or ws (2 + j) 0 in
      let e = get_or ws (3 + j) 0 in
      let q : 2 + suc j ≡ 3 + j = omega arith in
      let s : a + (e - a) ≡ e = omega (arith, (f.offsets.rise j (omega arith)).0) in
      flatten-tabulate j (pattern_in ws)
      ∙ ap₂ (λ (l r : List ℕ). l ++ r) (flatten_first j (omega arith)) (pattern_in-behind j)
      ∙ sym (take-add a (e - a) behind)
      ∙ ap (λ (n : ℕ). take n behind) (s ∙ ap (λ (n : ℕ). get_or ws n 0) (sym q))

  length_first : (j : ℕ) → j ≤ get_or ws 0 0 → length (flatten (tabulate j (pattern_in ws))) ≡ get_or ws (2 + j) 0
  length_first j h = ap length (flatten_first j h) ∙ length_front j h

  pub length_patterns : length (patterns_in ws) ≡ get_or ws 0 0
  length_patterns = length-tabulate (get_or ws 0 0) (pattern_in ws)

  pub length_distances : length (flatten (patterns_in ws)) ≡ get_or ws 1 0
  length_distances = length_first (get_or ws 0 0) (omega arith) ∙ f.offsets.last

  length_pattern : (j : ℕ) → j < get_or ws 0 0 → length (pattern_in ws j) ≡ get_or ws (3 + j) 0 - get_or ws (2 + j) 0
  length_pattern j h =
      let a = get_or ws (2 + j) 0 in
      let e = get_or ws (3 + j) 0 in
      let q : 2 + suc j ≡ 3 + j = omega arith in
      let i = offset_in (suc j) (omega arith) in
      ap length (pattern_in-behind j) ∙ length-take-le (e - a) (drop a behind)
      (simp length-drop (omega (arith, f.offsets.sizes.2, i, ap (λ (n : ℕ). get_or ws n 0) q, (f.offsets.rise j h).0)))

  offsets_are : offsets 0 (patterns_in ws) ≡ take (get_or ws 0 0 + 1) (drop 2 ws)
  offsets_are =
      let k = get_or ws 0 0 in
      let ps = patterns_in ws in
      let h : length (offsets 0 ps) ≡ k + 1 = length-offsets 0 ps ∙ ap suc length_patterns ∙ sym (add-one k) in
      ext_get_or 0 (offsets 0 ps) (take (k + 1) (drop 2 ws))
      (h ∙ sym (length-take-le (k + 1) (drop 2 ws) (simp length-drop (omega (arith, f.offsets.sizes.2)))))
      (λ i l.
      let q : i ≤ k = omega (arith, h) in
      let u : get_or (offsets 0 ps) i 0 ≡ length (flatten (take i ps)) =
      ap (λ (z : List ℕ). get_or z i 0) (sym (append-nil (offsets 0 ps))) ∙ get_or-offsets 0 ps [] i (omega (arith, length_patterns)) ∙ (omega arith) in
      u
      ∙ ap (λ (z : PatternSet). length (flatten z)) (take-tabulate i k (pattern_in ws) q)
      ∙ length_first i q
      ∙ sym (get_or-take (k + 1) (drop 2 ws) i 0 (omega arith) ∙ get_or-drop 2 ws i 0))

  good_at : (j : ℕ) → j < get_or ws 0 0 → T (good_pattern (pattern_in ws j))
  good_at j h =
      let r = f.offsets.rise j h in
      good_pattern_is (pattern_in ws j) (omega (arith, length_pattern j h, r.0)) (omega (arith, length_pattern j h, r.1)) (f.lists j h)

  good : T (good_set (patterns_in ws))
  good =
      good_set_is (patterns_in ws) (omega (arith, length_patterns, f.offsets.sizes.0)) (omega (arith, length_distances, f.offsets.sizes.1))
      (mem-all good_pattern (patterns_in ws)
      (λ p m. let r = mem_table (get_or ws 0 0) (pattern_in ws) [] p m in subst (λ (z : List ℕ). T (good_pattern z)) (sym r.2) (good_at r.0 r.1)))

  words_are : ws ≡ set_words (patterns_in ws) ++ drop (3 + get_or ws 0 0 + get_or ws 1 0) ws
  words_are =
      let k = get_or ws 0 0 in
      let n = get_or ws 1 0 in
      let rest = drop (3 + k + n) ws in
      let q : 2 + (k + 1) ≡ 3 + k = omega arith in
      let d : drop 2 ws ≡ take (k + 1) (drop 2 ws) ++ behind =
      sym (take-append-drop (k + 1) (drop 2 ws))
      ∙ ap (λ (l : List ℕ). take (k + 1) (drop 2 ws) ++ l) (drop-drop (k + 1) 2 ws ∙ ap (λ (a : ℕ). drop a ws) q) in
      let b : behind ≡ take n behind ++ rest =
      sym (take-append-drop n behind) ∙ ap (λ (l : List ℕ). take n behind ++ l) (drop-drop n (3 + k) ws) in
      let fl : flatten (patterns_in ws) ≡ take n behind = flatten_first k (omega arith) ∙ ap (λ (a : ℕ). take a behind) f.offsets.last in
      first_two ws (omega (arith, f.offsets.sizes.2))
      ∙ ap (λ (l : List ℕ). k ∷ n ∷ l)
      (d ∙ ap (λ (l : List ℕ). take (k + 1) (drop 2 ws) ++ l) b ∙ sym (append_assoc (take (k + 1) (drop 2 ws)) (take n behind) rest))
      ∙ ap₂ (λ (os fs : List ℕ). k ∷ n ∷ ((os ++ fs) ++ rest)) (sym offsets_are) (sym fl)
      ∙ ap₂ (λ (x y : ℕ). x ∷ y ∷ ((offsets 0 (patterns_in ws) ++ flatten (patterns_in ws)) ++ rest)) (sym length_patterns) (sym length_distances)
      ∙ ap (λ (l : List ℕ). l ++ rest) (sym (set_words_is (patterns_in ws)))

  follows_begins : T (begins ws (set_words (patterns_in ws)))
  follows_begins = (begins_iff ws (set_words (patterns_in ws))).1 (drop (3 + get_or ws 0 0 + get_or ws 1 0) ws, words_are)

-- ---- the other way

module _ (ps : PatternSet) (rest : List ℕ) (g : T (good_set ps)) where
  abbrev words : List ℕ
  words = set_words ps ++ rest

  one_good : (j : ℕ) → j < length ps → (1 ≤ length (get_or ps j [])) × (length (get_or ps j []) ≤ 256) × T (realizable (get_or ps j []))
  one_good j h = good_pattern_parts (get_or ps j []) (all-get_or good_pattern ps [] j (good_set_parts ps g).2 h)

  words_rise : OffsetsRise words (length ps)
  words_rise j h =
      let a = words_offset ps rest j (omega arith) in
      let q : 2 + suc j ≡ 3 + j = omega arith in
      let e : get_or words (3 + j) 0 ≡ length (flatten (take j ps)) + length (get_or ps j []) =
      ap (λ (n : ℕ). get_or words n 0) (sym q) ∙ words_offset ps rest (suc j) h ∙ length-flatten-suc ps j h in
      let r = one_good j h in
      (omega (arith, a, e, r.0), omega (arith, a, e, r.1))

  words_follow : Follows words
  words_follow =
      let b = good_set_parts ps g in
      let k = words_count ps rest in
      let n = words_one ps rest in
      record {
        offsets = record {
          sizes = (omega (arith, k, b.0), omega (arith, n, b.1), rw (length-append, length-set_words, k, n) (omega arith));
          first = words_offset ps rest 0 (omega arith) ∙ ap length flatten-nil;
          rise = λ j h. words_rise j (omega (arith, k));
          last =
              ap (λ (a : ℕ). get_or words (2 + a) 0) k
              ∙ words_offset ps rest (length ps) (omega arith)
              ∙ ap (λ (z : PatternSet). length (flatten z)) (take-length ps)
              ∙ sym n;
        };
        lists = λ j h. rw (pattern_in_words ps rest j (omega (arith, k))) (one_good j (omega (arith, k))).2;
      }

-- an array is a set array where its words follow the rules, and none where they cannot
pub is_set_lem : (ws : List ℕ) → Follows ws → true ≡ is_set ws
is_set_lem ws f = sym (begins_set ws (patterns_in ws) (good ws f) (follows_begins ws f)).0

-- and back
pub set-Follows : (ws : List ℕ) → is_set ws ≡ true → Follows ws
set-Follows ws t =
    let r = (begins_iff ws (set_words (patterns_of ws))).0 (set_begins ws t) in
    subst (λ (z : List ℕ). Follows z) (sym r.1) (words_follow (patterns_of ws) r.0 (set_good ws t))

pub no_set : (ws : List ℕ) → (Follows ws → ⊥) → false ≡ is_set ws
no_set ws f = go (is_set ws) refl
  where
    go : (b : Bool) → is_set ws ≡ b → false ≡ is_set ws
    go false e = sym e
    go true e = absurd (f (set-Follows ws e))

-- the answer that says of the rules whether they are followed
pub is_set_when : (ws : List ℕ) (b : Bool) → (IsTrue b → Follows ws) → (Follows ws → IsTrue b) → b ≡ is_set ws
is_set_when ws true h k = is_set_lem ws (h refl)
is_set_when ws false h k = no_set ws (λ f. clash (k f) refl)
