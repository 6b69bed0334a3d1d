-- The longest suffix of a text that has the tree of some head, and the longest one that has it also
-- with the next value behind it: the latter, with that value, is the longest such suffix of the
-- longer text.
use Rattle.std.specs.Prelude.{◌≡◌, ◌&&◌, ◌∷◌, ◌++◌, ◌≤◌, ◌<◌}
use Rattle.lists.proofs.Prelude.{sym, subst, Bool, true, false, List, [], ℕ, zero, suc, ℤ, T, length, take, length-take}
use Rattle.lists.proofs.Prelude.{arith, last_of}
use Rattle.lists.proofs.Tests.{and_split, and_join}
use Rattle.lists.proofs.Members.{any-mem}
use Rattle.lists.proofs.Parts.{last_of_snoc, length_snoc}
use Rattle.lists.proofs.LastBelow.{greatest-le, greatest_passes, greatest_none, greatest_is, greatest_most}
use Rattle.gaps.specs.Gaps.{is_gap}
use Rattle.pattern_set.specs.PatternSet.{PatternSet, good_set}
use Rattle.matching.specs.Matching.{has_tree, head_tree}
use Rattle.matching.proofs.Sizes.{has_tree-length}
use Rattle.pattern_set.proofs.Good.{good_pattern_lem}
use Rattle.runs.specs.ReferenceRun.{longest_extended, longest_head}
use Rattle.runs.proofs.Suffixes.{head_tree_shorter, empty_suffix, one_suffix, gap_suffix}

-- has the suffix of m values the tree of some head
abbrev pub head_suffix : PatternSet → List ℤ → ℕ → Bool
head_suffix ps text m = head_tree ps (last_of m text)

-- and also with the value behind it
abbrev pub extended_suffix : PatternSet → List ℤ → ℤ → ℕ → Bool
extended_suffix ps text x m = head_tree ps (last_of m text) && head_tree ps (last_of m text ++ (x ∷ []))

-- ---- the longest suffix that has the tree of some head

pub longest_head-le : (ps : PatternSet) (text : List ℤ) → longest_head ps text ≤ length text
unfolding longest_head
longest_head-le ps text = greatest-le (head_suffix ps text) (length text)

pub longest_head_head : (ps : PatternSet) (text : List ℤ) → 0 < length ps → T (head_tree ps (last_of (longest_head ps text) text))
unfolding longest_head
longest_head_head ps text z = greatest_passes (head_suffix ps text) (length text) (empty_suffix ps text z)

-- no longer one has
pub longest_head_none : (ps : PatternSet) (text : List ℤ) (j : ℕ) → longest_head ps text < j → j ≤ length text → T (head_tree ps (last_of j text)) → ⊥
unfolding longest_head
longest_head_none ps text j = greatest_none (head_suffix ps text) (length text) j

-- heads are heads of patterns
pub head_tree-length : (ps : PatternSet) (w : List ℤ) → T (good_set ps) → T (head_tree ps w) → length w ≤ 256
unfolding head_tree
head_tree-length ps w g t =
    let r = any-mem (λ p. has_tree w (take (length w) p)) ps t in
    let e = has_tree-length w (take (length w) r.0) r.2 in
    let l = length-take (length w) r.0 in
    let b = good_pattern_lem ps r.0 g r.1 in
    omega (arith, e, l, b.1)

-- ---- the longest one that has it also with a sample behind it

pub longest_extended_short : (ps : PatternSet) (text : List ℤ) (x : ℤ) → longest_extended ps text x ≤ length text
unfolding longest_extended
longest_extended_short ps text x = greatest-le (extended_suffix ps text x) (length text)

pub longest_extended_passes : (ps : PatternSet) (text : List ℤ) (x : ℤ) → is_gap x ≡ false → T (good_set ps) → 0 < length ps
    → T (extended_suffix ps text x (longest_extended ps text x))
unfolding longest_extended
longest_extended_passes ps text x o g z =
    greatest_passes (extended_suffix ps text x) (length text)
    (and_join (head_tree ps (last_of 0 text)) (head_tree ps (last_of 0 text ++ (x ∷ []))) (empty_suffix ps text z) (one_suffix ps text x o g z))

pub longest_extended_none : (ps : PatternSet) (text : List ℤ) (x : ℤ) (j : ℕ) → longest_extended ps text x < j → j ≤ length text
    → T (extended_suffix ps text x j) → ⊥
unfolding longest_extended
longest_extended_none ps text x j = greatest_none (extended_suffix ps text x) (length text) j

pub longest_extended-le : (ps : PatternSet) (text : List ℤ) (x : ℤ) → is_gap x ≡ false → T (good_set ps) → 0 < length ps
    → longest_extended ps text x ≤ longest_head ps text
unfolding longest_head
longest_extended-le ps text x o g z =
    let q = longest_extended ps text x in
    greatest_most (head_suffix ps text) (length text) q (longest_extended_short ps text x)
    (and_split (head_tree ps (last_of q text)) (head_tree ps (last_of q text ++ (x ∷ []))) (longest_extended_passes ps text x o g z)).0

-- ---- one more value

-- a gap
pub longest_head_gap : (ps : PatternSet) (text : List ℤ) (x : ℤ) → is_gap x ≡ true → 0 < length ps → longest_head ps (text ++ (x ∷ [])) ≡ 0
unfolding longest_head
longest_head_gap ps text x o z =
    greatest_is (head_suffix ps (text ++ (x ∷ []))) (length (text ++ (x ∷ []))) 0 (omega arith) (empty_suffix ps (text ++ (x ∷ [])) z) (gap_suffix ps text x o)

-- a sample
pub longest_head_step : (ps : PatternSet) (text : List ℤ) (x : ℤ) → is_gap x ≡ false → T (good_set ps) → 0 < length ps
    → longest_head ps (text ++ (x ∷ [])) ≡ suc (longest_extended ps text x)
unfolding longest_head
longest_head_step ps text x o g z =
    let q = longest_extended ps text x in
    let l = length_snoc text x in
    let b = longest_extended_short ps text x in
    let t = (and_split (head_tree ps (last_of q text)) (head_tree ps (last_of q text ++ (x ∷ []))) (longest_extended_passes ps text x o g z)).1 in
    greatest_is (head_suffix ps (text ++ (x ∷ []))) (length (text ++ (x ∷ []))) (suc q) (omega arith)
    (subst (λ (w : List ℤ). T (head_tree ps w)) (sym (last_of_snoc q text x b)) t)
    (λ j a h. above j a (omega arith))
  where
    above : (j : ℕ) → suc (longest_extended ps text x) < j → j ≤ suc (length text) → T (head_suffix ps (text ++ (x ∷ [])) j) → ⊥
    above zero a h t = omega arith
    above (suc j) a h t =
        let u : T (head_tree ps (last_of j text ++ (x ∷ []))) = subst (λ (w : List ℤ). T (head_tree ps w)) (last_of_snoc j text x (omega arith)) t in
        longest_extended_none ps text x j (omega arith) (omega arith)
        (and_join (head_tree ps (last_of j text)) (head_tree ps (last_of j text ++ (x ∷ []))) (head_tree_shorter ps (last_of j text) x g u) u)
