-- The patterns listed at the head of the longest suffix of a text are those with a hit at the
-- text's last place, in the same order: the heads on its failure links are the suffixes that have
-- the tree of some head, longest first, and a window without the tree of a head has the tree of no
-- pattern.
use Rattle.std.specs.Prelude.{◌≡◌, ◌∷◌, ◌++◌, ◌+◌, ◌≤◌, ◌<◌}
use Rattle.lists.proofs.Prelude.{◌∙◌, ap, sym, refl, subst, ap₂, Bool, true, false, cond, List, [], map, append-nil, Memᴰ, Memᴰ-head}
use Rattle.lists.proofs.Prelude.{Memᴰ-tail, flatten, ℕ, zero, suc, ℤ, T, length, get_or, take, take_all, zero-add, dec_lt, arith, last_of}
use Rattle.lists.proofs.Prelude.{select, same}
use Rattle.lists.proofs.Members.{get_or-mem, mem-any}
use Rattle.lists.proofs.Tables.{tabulate_ext}
use Rattle.lists.proofs.Tests.{test_ext, T-true}
use Rattle.lists.proofs.Same.{same_eq, eq_same}
use Rattle.lists.proofs.Parts.{last_of-zero}
use Rattle.gaps.specs.Gaps.{is_gap, holds_gap}
use Rattle.gaps.proofs.Laws.{empty_none}
use Rattle.cartesian.specs.Cartesian.{distances}
use Rattle.realization.specs.Realization.{realizable}
use Rattle.pattern_set.specs.PatternSet.{PatternSet, good_set}
use Rattle.matching.specs.Matching.{has_tree, numbers_from, end_hits, last_hits, head_tree}
use Rattle.matching.specs.HeadLengths.{head_lengths}
use Rattle.matching.proofs.Heads.{has_tree_iff, head_tree_whole, chain_is}
use Rattle.matching.proofs.Sizes.{has_tree-length}
use Rattle.automaton_model.specs.Automaton.{ending_at, listed}
use Rattle.pattern_set.proofs.Good.{good_pattern_lem}
use Rattle.matching.proofs.Numbers.{select_numbers}
use Rattle.runs.specs.ReferenceRun.{longest_head}
use Rattle.runs.proofs.Suffixes.{gap_suffix}
use Rattle.runs.proofs.LongestHead.{longest_head-le, longest_head_head, longest_head_none}

-- ---- the patterns that end at one head

-- a realizable list is the distances of a window without a gap exactly if the window has its tree
same-has_tree : (p : List ℕ) (window : List ℤ) → holds_gap window ≡ false → T (realizable p) → same p (distances window) ≡ has_tree window p
same-has_tree p w o r =
    test_ext (same p (distances w)) (has_tree w p)
    (λ t. (has_tree_iff w p o r).1 (sym (same_eq p (distances w) t)))
    (λ t. eq_same p (distances w) (sym ((has_tree_iff w p o r).0 t)))

-- the patterns that end at the head of a window without a gap are those that have its tree
pub ending_at_is : (ps : PatternSet) (window : List ℤ) → holds_gap window ≡ false → T (good_set ps) → ending_at ps (distances window) ≡ numbers_from 0 window ps
ending_at_is ps w o g =
    let test : ℕ → Bool = λ j. same (get_or ps j []) (distances w) in
    ap (select test) (tabulate_ext (length ps) (λ j. j) (λ j. 0 + j) (λ j l. sym (zero-add j)))
    ∙ select_numbers test w 0 ps (λ k l. ap test (zero-add k) ∙ same-has_tree (get_or ps k []) w o
    (good_pattern_lem ps (get_or ps k []) g (get_or-mem ps k [] l)).2)

-- ---- the patterns that have the tree of one window

numbers_none : (window : List ℤ) (i : ℕ) (ps : PatternSet) → ((p : List ℕ) → Memᴰ p ps → T (has_tree window p) → ⊥) → numbers_from i window ps ≡ []
unfolding numbers_from
numbers_none w i [] f = refl
numbers_none w i (p ∷ ps) f = go (has_tree w p) refl (numbers_none w (suc i) ps (λ q m. f q (Memᴰ-tail m)))
  where
    go : (b : Bool) → has_tree w p ≡ b → numbers_from (suc i) w ps ≡ [] → cond b (i ∷ numbers_from (suc i) w ps) (numbers_from (suc i) w ps) ≡ []
    go true e ih = absurd (f p (Memᴰ-head refl) (T-true (has_tree w p) e))
    go false e ih = ih

-- none has the tree of the empty window
numbers_empty : (ps : PatternSet) → T (good_set ps) → numbers_from 0 [] ps ≡ []
numbers_empty ps g =
    numbers_none [] 0 ps
    (λ p m t. let e = has_tree-length [] p t in let b = (good_pattern_lem ps p g m).0 in let y : ⊥ = omega arith in y)

-- a pattern is a head of itself
pattern_head_tree : (ps : PatternSet) (window : List ℤ) (p : List ℕ) → Memᴰ p ps → T (has_tree window p) → T (head_tree ps window)
unfolding head_tree
pattern_head_tree ps w p m t =
    let l = has_tree-length w p t in
    mem-any (λ p. has_tree w (take (length w) p)) ps p m (subst (λ (l : List ℕ). T (has_tree w l)) (sym (take_all (length w) p (omega arith))) t)

numbers_no_head : (ps : PatternSet) (window : List ℤ) → (T (head_tree ps window) → ⊥) → numbers_from 0 window ps ≡ []
numbers_no_head ps w f = numbers_none w 0 ps (λ p m t. f (pattern_head_tree ps w p m t))

-- ---- along the failure links

listed_lengths : (ps : PatternSet) (text : List ℤ) (n : ℕ) → T (good_set ps)
    → flatten (map (ending_at ps) (map (λ m. distances (last_of m text)) (head_lengths ps text n))) ≡ end_hits ps text n
unfolding head_lengths end_hits flatten
listed_lengths ps text zero g =
    append-nil (ending_at ps (distances (last_of 0 text)))
    ∙ ending_at_is ps (last_of 0 text) (ap holds_gap (last_of-zero text) ∙ empty_none) g
    ∙ ap (λ (w : List ℤ). numbers_from 0 w ps) (last_of-zero text)
    ∙ numbers_empty ps g
listed_lengths ps text (suc n) g = go (head_tree ps (last_of (suc n) text)) refl (listed_lengths ps text n g)
  where
    go : (b : Bool) → head_tree ps (last_of (suc n) text) ≡ b
        → flatten (map (ending_at ps) (map (λ m. distances (last_of m text)) (head_lengths ps text n))) ≡ end_hits ps text n
        → flatten (map (ending_at ps) (map (λ m. distances (last_of m text)) (cond b (suc n ∷ head_lengths ps text n) (head_lengths ps text n))))
        ≡ numbers_from 0 (last_of (suc n) text) ps ++ end_hits ps text n
    go true e ih =
        let whole = head_tree_whole ps (last_of (suc n) text) (T-true (head_tree ps (last_of (suc n) text)) e) in
        ap₂ (λ (a b : List ℕ). a ++ b) (ending_at_is ps (last_of (suc n) text) whole g) ih
    go false e ih = ih ∙ ap (λ (l : List ℕ). l ++ end_hits ps text n) (sym (numbers_no_head ps (last_of (suc n) text) (λ t. subst T e t)))

-- suffixes without the tree of a head give no hits
end_hits_above : (ps : PatternSet) (text : List ℤ) (q n : ℕ) → q ≤ n → ((j : ℕ) → q < j → j ≤ n → T (head_tree ps (last_of j text)) → ⊥)
    → end_hits ps text n ≡ end_hits ps text q
unfolding end_hits
end_hits_above ps text q zero h f = ap (end_hits ps text) (let e : 0 ≡ q = omega arith in e)
end_hits_above ps text q (suc n) h f = go (dec_lt q (suc n)) (end_hits_above ps text q n)
  where
    go : Dec (q < suc n) → (q ≤ n → ((j : ℕ) → q < j → j ≤ n → T (head_tree ps (last_of j text)) → ⊥) → end_hits ps text n ≡ end_hits ps text q)
        → end_hits ps text (suc n) ≡ end_hits ps text q
    go (yes l) ih =
        ap (λ (l : List ℕ). l ++ end_hits ps text n) (numbers_no_head ps (last_of (suc n) text) (f (suc n) l (omega arith)))
        ∙ ih (omega arith) (λ j a b. f j a (omega arith))
    go (no g) ih = ap (end_hits ps text) (let e : suc n ≡ q = omega arith in e)

-- THE PATTERNS LISTED at the head of the text's longest suffix are those with a hit at its last
-- place
pub listed_is : (ps : PatternSet) (text : List ℤ) → T (good_set ps) → 0 < length ps
    → listed ps (distances (last_of (longest_head ps text) text)) ≡ last_hits ps text
unfolding listed
listed_is ps text g z =
    let n = longest_head ps text in
    let h = longest_head-le ps text in
    ap (λ (c : List (List ℕ)). flatten (map (ending_at ps) c)) (chain_is ps text n z h (longest_head_head ps text z))
    ∙ listed_lengths ps text n g
    ∙ sym (end_hits_above ps text n (length text) h (longest_head_none ps text))

-- none has a hit at a gap
pub gap_hits : (ps : PatternSet) (text : List ℤ) (x : ℤ) → is_gap x ≡ true → last_hits ps (text ++ (x ∷ [])) ≡ []
unfolding end_hits
gap_hits ps text x o = end_hits_above ps (text ++ (x ∷ [])) 0 (length (text ++ (x ∷ []))) (omega arith) (gap_suffix ps text x o)
