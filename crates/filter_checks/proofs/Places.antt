-- WHERE THE WORDS LIE: those of a pattern are no more than its distances, so they lie where these
-- lie among all distances, and writing those of the next pattern leaves them as they are.
use Rattle.std.specs.Prelude.{◌≡◌, ◌++◌, ◌+◌, ◌-◌, ◌*◌, ◌≤◌, ◌<◌}
use Rattle.lists.proofs.Prelude.{◌∙◌, ap, sym, refl, subst, ap₂, List, [], append-nil, flatten, ℕ, suc, min, T, length}
use Rattle.lists.proofs.Prelude.{get_or}
use Rattle.lists.proofs.Prelude.{take, drop, length-append, length-take, length-drop, length-take-le, drop_of_length-le, take_all, take_at, drop_at}
use Rattle.lists.proofs.Prelude.{take-append-drop}
use Rattle.lists.proofs.Prelude.{take-append-le, drop-append-le, take-take, get_or-take, get_or-drop, drop-drop, add-zero, dec_lt, arith}
use Rattle.lists.proofs.Parts.{drop_front}
use Rattle.lists.proofs.Rows.{length-flatten-suc, length-flatten-take}
use Rattle.lists.proofs.Tables.{get_or-tabulate}
use Rattle.realization.specs.Realization.{realizable, least_realization}
use Rattle.realization.proofs.LeastRealization.{least_distances, length_least}
use Rattle.global_parents.specs.GlobalParents.{global_parent, global_parents}
use Rattle.global_parents.proofs.Parents.{length-global_parents}
use Rattle.global_parents.proofs.Passes.{root_parent}
use Rattle.pattern_set.specs.PatternSet.{PatternSet, good_set, patterns_of, IsSet}
use Rattle.set_access.proofs.Laws.{pattern_ge, pattern_le, pattern_realizable}
use Rattle.lists.proofs.Tests.{true-T}
use Rattle.lists.proofs.Prelude.{true}
use Rattle.filter_plan.proofs.HitOrder.{good_number}
use Rattle.filter_checks.specs.Comparisons.{left_words, right_words, comparison_words, with_comparisons, Comparisons}
use Rattle.filter_checks.proofs.Words.{words_most}

-- ---- the words of one pattern

abbrev pub pattern_words : PatternSet → ℕ → List ℕ
pattern_words ps j = comparison_words (global_parents (get_or ps j []))

-- no more than its distances
pub pattern_words_lem : (p : List ℕ) → T (realizable p) → 1 ≤ length p → length (comparison_words (global_parents p)) ≤ length p
unfolding global_parents
pattern_words_lem p r h =
    let n = length_least p r in
    let i = root_parent (least_realization p) (omega (arith, n)) in
    let k : i.0 < length p = omega (arith, n, i.1) in
    let root : global_parent p i.0 ≡ i.0 = ap (λ (l : List ℕ). global_parent l i.0) (sym (least_distances p r)) ∙ i.2 in
    let l = length-global_parents p in
    let most = words_most (global_parents p) i.0 (omega (arith, k, l)) (get_or-tabulate (length p) (global_parent p) 0 i.0 k ∙ root) in
    omega (arith, most, l)

-- what is known of a slice that is pattern j
pub known : (ws : List ℕ) (good : IsSet ws) (j : ℕ) (xs : List ℕ) → xs ≡ get_or (patterns_of ws) j [] → j < length (patterns_of ws)
    → (realizable xs ≡ true) × (1 ≤ length xs) × (length xs ≤ 256) × (length (comparison_words (global_parents xs)) ≤ length xs)
known ws good j xs e h =
    let p = get_or (patterns_of ws) j [] in
    let r = pattern_realizable ws good j h in
    rw e (true-T (realizable p) r, pattern_ge ws good j h, pattern_le ws good j h, pattern_words_lem p r (pattern_ge ws good j h))

-- the words of a side are fewer than 256
pub left_few : (ws : List ℕ) (good : IsSet ws) (j : ℕ) → j < length (patterns_of ws)
    → length (left_words (global_parents (get_or (patterns_of ws) j []))) < 256
left_few ws good j h =
    let gs = global_parents (get_or (patterns_of ws) j []) in
    let k = known ws good j _ refl h in
    omega (arith, k.2, k.3, length-append (left_words gs) (right_words gs))

-- the front of the array in which the parents of d are
pub parents_front : (p d y old : List ℕ) (n : ℕ) → d ≡ p → n ≡ length p → y ≡ global_parents d ++ drop (length d) old → take n y ≡ global_parents p
parents_front p d y old n e h q =
    ap (λ (v : List ℕ). take n v) (q ∙ ap (λ (v : List ℕ). global_parents v ++ drop (length v) old) e)
    ∙ take_at (global_parents p) (drop (length p) old) n (length-global_parents p ∙ sym h)

-- the words of pattern j, written over a part that goes to the end of the array
pub words_placed : (ps : PatternSet) (j : ℕ) (w parents y : List ℕ) (at k : ℕ) → parents ≡ global_parents (get_or ps j []) → at ≡ length (flatten (take j ps))
    → k ≡ length w - at → y ≡ comparison_words parents ++ drop (length (comparison_words parents)) (take k (drop at w))
    → take at w ++ (y ++ drop k (drop at w)) ≡ with_comparisons ps j w
unfolding with_comparisons
words_placed ps j w parents y at k e a h q =
    let len : length (drop at w) ≤ k = simp length-drop (omega arith) in
    rw (drop_of_length-le (drop at w) {i = k} len, append-nil y, q, take_all k (drop at w) len, e, a) refl

-- ---- the words of all patterns

-- a part of the front is a part of the whole
part_kept : (a b c : ℕ) (out rest : List ℕ) → b + a ≤ c → c ≤ length out → take a (drop b (take c out ++ rest)) ≡ take a (drop b out)
part_kept a b c out rest h l =
    let n : length (take c out) ≡ c = length-take-le c out l in
    let m : a ≤ length (drop b (take c out)) = simp length-drop (omega (arith, n)) in
    let part : (r : List ℕ) → take a (drop b (take c out ++ r)) ≡ take a (drop b (take c out)) =
    (λ r. ap (take a) (drop-append-le b (take c out) r (omega (arith, n))) ∙ take-append-le a (drop b (take c out)) r m) in
    part rest ∙ sym (part (drop c out)) ∙ ap (λ (v : List ℕ). take a (drop b v)) (take-append-drop c out)

offset_mono : (ps : PatternSet) (i j : ℕ) → i ≤ j → length (flatten (take i ps)) ≤ length (flatten (take j ps))
offset_mono ps i j h =
    subst (λ (v : PatternSet). length (flatten v) ≤ length (flatten (take j ps)))
    (take-take i j ps h) (length-flatten-take (take j ps) i)

-- those of the patterns below n
abbrev pub ComparisonsBelow : PatternSet → ℕ → List ℕ → Type 0
ComparisonsBelow ps n out = (j : ℕ) → j < n → take (length (pattern_words ps j)) (drop (length (flatten (take j ps))) out) ≡ pattern_words ps j

module _ (ps : PatternSet) (good : T (good_set ps)) where
  -- the words of pattern j end no later than its distances
  words_end : (j : ℕ) → j < length ps → length (flatten (take j ps)) + length (pattern_words ps j) ≤ length (flatten (take (suc j) ps))
  words_end j h =
      let g = good_number ps j good h in
      omega (arith, length-flatten-suc ps j h, pattern_words_lem (get_or ps j []) g.2 g.0)

  module _ (out : List ℕ) (room : length (flatten ps) ≤ length out) (j : ℕ) (h : j < length ps) where
    abbrev at : ℕ
    at = length (flatten (take j ps))

    before : at ≤ length out
    before = omega (arith, length-flatten-take ps j, room)

    pub comparisons_more : ComparisonsBelow ps j out → ComparisonsBelow ps (j + 1) (with_comparisons ps j out)
    unfolding with_comparisons
    comparisons_more f i k = go (dec_lt i j)
      where
        words : List ℕ
        words = pattern_words ps j

        rest : List ℕ
        rest = words ++ drop (length words) (drop at out)

        go : Dec (i < j) → take (length (pattern_words ps i)) (drop (length (flatten (take i ps))) (take at out ++ rest)) ≡ pattern_words ps i
        go (yes l) =
            part_kept (length (pattern_words ps i)) (length (flatten (take i ps))) at out rest
            (omega (arith, words_end i (omega (arith, l, h)), offset_mono ps (suc i) j l)) before
            ∙ f i l
        go (no l) =
            let e : i ≡ j = omega arith in
            rw e
            (ap (take (length words)) (drop_at (take at out) rest at (length-take-le at out before))
            ∙ take_at words (drop (length words) (drop at out)) (length words) refl)

    pub comparisons_length : length (with_comparisons ps j out) ≡ length out
    unfolding with_comparisons
    comparisons_length =
        let words = pattern_words ps j in
        let n : length (take at out) ≡ at = length-take-le at out before in
        let w = words_end j h in
        let o = length-flatten-take ps (suc j) in
        length-append (take at out) (words ++ drop (length words) (drop at out))
        ∙ ap₂ (λ (x y : ℕ). x + y) n (length-append words (drop (length words) (drop at out))
        ∙ ap (λ (x : ℕ). length words + x) (length-drop (length words) (drop at out) ∙ ap (λ (x : ℕ). x - length words) (length-drop at out)))
        ∙ sums at (length words) (length out) (omega (arith, w, o, room))
      where
        sums : (a b c : ℕ) → a + b ≤ c → a + (b + (c - a - b)) ≡ c
        sums a b c h = omega arith

-- ---- the words of one pattern, read

module _ (ps : PatternSet) (out : List ℕ) (holds : Comparisons ps out) (j : ℕ) (h : j < length ps) where
  abbrev L : List ℕ
  L = left_words (global_parents (get_or ps j []))

  abbrev R : List ℕ
  R = right_words (global_parents (get_or ps j []))

  abbrev from : ℕ
  from = length (flatten (take j ps))

  -- they lie in the array
  pub words_fit : from + (1 + length L + length R) ≤ length out
  words_fit =
      let n = length-append L R in
      let e : min (length (pattern_words ps j)) (length out - from) ≡ length (pattern_words ps j) =
      sym (length-take (length (pattern_words ps j)) (drop from out) ∙ ap (min (length (pattern_words ps j))) (length-drop from out)) ∙ ap length (holds j h) in
      fit from (length (L ++ R)) (length L) (length R) (length out) e n
    where
      fit : (a m l r n : ℕ) → min (suc m) (n - a) ≡ suc m → m ≡ l + r → a + (1 + l + r) ≤ n
      fit a m l r n e f = omega arith

  -- the first tells how many there are
  pub count_word : get_or out from 0 ≡ length L + 256 * length R
  count_word =
      ap (λ (n : ℕ). get_or out n 0) (sym (add-zero from))
      ∙ sym (get_or-drop from out 0 0)
      ∙ sym (get_or-take (length (pattern_words ps j)) (drop from out) 0 0 (omega arith))
      ∙ ap (λ (v : List ℕ). get_or v 0 0) (holds j h)

  behind : take (length (L ++ R)) (drop (from + 1) out) ≡ L ++ R
  behind =
      let e : 1 + length (L ++ R) ≡ suc (length (L ++ R)) = omega arith in
      let one : 1 ≤ length (drop from out) = rw length-drop (omega (arith, words_fit)) in
      ap (take (length (L ++ R))) (sym (drop-drop 1 from out))
      ∙ sym (drop_front 1 (length (L ++ R)) (drop from out) one)
      ∙ ap (λ (n : ℕ). drop 1 (take n (drop from out))) e
      ∙ ap (drop 1) (holds j h)

  -- then come those with parents to the left, and those with parents to the right
  pub left_part : (a n : ℕ) → a ≡ from + 1 → n ≡ length L → take n (drop a out) ≡ L
  left_part a n ea en =
      ap₂ (λ (x y : ℕ). take y (drop x out)) ea en
      ∙ sym (take-take (length L) (length (L ++ R)) (drop (from + 1) out) (omega (arith, length-append L R)))
      ∙ ap (take (length L)) behind
      ∙ take_at L R (length L) refl

  pub right_part : (a n : ℕ) → a ≡ from + 1 + length L → n ≡ length R → take n (drop a out) ≡ R
  right_part a n ea en =
      ap₂ (λ (x y : ℕ). take y (drop x out)) ea en
      ∙ ap (take (length R)) (sym (drop-drop (length L) (from + 1) out))
      ∙ sym (drop_front (length L) (length R) (drop (from + 1) out) (rw length-drop (omega (arith, words_fit))))
      ∙ ap (λ (m : ℕ). drop (length L) (take m (drop (from + 1) out))) (sym (length-append L R))
      ∙ ap (drop (length L)) behind
      ∙ drop_at L R (length L) refl
