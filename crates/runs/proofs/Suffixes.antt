-- The suffixes of a text with one more value: which of them have the tree of some head, and their
-- distances, of which only the last one is new.
use Rattle.std.specs.Prelude.{◌≡◌, ◌∷◌, ◌++◌, ◌+◌, ◌-◌, ◌≤◌, ◌<◌}
use Rattle.lists.proofs.Prelude.{◌∙◌, ap, sym, refl, subst, ap₂, true, false, List, [], Memᴰ-head, ℕ, zero, suc, ℤ}
use Rattle.lists.proofs.Prelude.{T, length, take, take-suc, take_all, take-append_seam, drop-append-le, arith, last_of, any}
use Rattle.lists.proofs.Parts.{length-last_of, last_of-zero, last_of_snoc, length_snoc}
use Rattle.lists.proofs.Tests.{clash}
use Rattle.gaps.specs.Gaps.{is_gap, holds_gap}
use Rattle.gaps.proofs.Laws.{front_none, snoc_gap}
use Rattle.cartesian.specs.Cartesian.{leftmost_from, leftmost, tree_within, tree, same_tree, distance_at, distances, cut, tree_of_within, tree_of}
use Rattle.cartesian.proofs.Seek.{length-distances, get_or-distances, distance_at-drop}
use Rattle.cartesian.proofs.ByList.{distances-take}
use Rattle.pattern_set.specs.PatternSet.{PatternSet, good_set}
use Rattle.matching.specs.Matching.{has_tree, is_head, head_tree}
use Rattle.matching.proofs.Heads.{head_tree_whole, head_tree-is_head, head_shorter, empty_head_tree}
use Rattle.automaton_model.specs.Automaton.{extended}
use Rattle.pattern_set.proofs.Good.{good_pattern_lem, good_realizable}

-- ---- heads

-- one sample has the tree of the head of one value of any pattern
pub one_head_tree : (ps : PatternSet) (x : ℤ) → is_gap x ≡ false → T (good_set ps) → 0 < length ps → T (head_tree ps (x ∷ []))
unfolding head_tree has_tree any same_tree tree tree_within leftmost leftmost_from tree_of tree_of_within
one_head_tree [] x o g z = absurd (let y : ⊥ = omega arith in y)
one_head_tree (p ∷ ps) x o g z = go p (good_pattern_lem (p ∷ ps) p g (Memᴰ-head refl)).0
  where
    go : (p : List ℕ) → 1 ≤ length p → T (head_tree (p ∷ ps) (x ∷ []))
    go [] h = absurd (let y : ⊥ = omega arith in y)
    go (d ∷ ds) h = rw o tt

-- what has the tree of a head has it without its last value
pub head_tree_shorter : (ps : PatternSet) (w : List ℤ) (x : ℤ) → T (good_set ps) → T (head_tree ps (w ++ (x ∷ []))) → T (head_tree ps w)
head_tree_shorter ps w x g t =
    let r = good_realizable ps g in
    let e : take (length w) (distances (w ++ (x ∷ []))) ≡ distances w = sym (distances-take (length w) (w ++ (x ∷ []))) ∙ ap distances
    (take-append_seam w (x ∷ [])) in
    let o = head_tree_whole ps (w ++ (x ∷ [])) t in
    let h = head_shorter ps (distances (w ++ (x ∷ []))) (length w) (subst T (head_tree-is_head ps (w ++ (x ∷ [])) o r) t) in
    subst T (sym (head_tree-is_head ps w (front_none w (x ∷ []) o) r)) (subst (λ (l : List ℕ). T (is_head ps l)) e h)

-- the empty suffix
pub empty_suffix : (ps : PatternSet) (text : List ℤ) → 0 < length ps → T (head_tree ps (last_of 0 text))
empty_suffix ps text z = subst (λ (w : List ℤ). T (head_tree ps w)) (sym (last_of-zero text)) (empty_head_tree ps z)

-- the empty suffix with a sample behind it
pub one_suffix : (ps : PatternSet) (text : List ℤ) (x : ℤ) → is_gap x ≡ false → T (good_set ps) → 0 < length ps → T (head_tree ps (last_of 0 text ++ (x ∷ [])))
one_suffix ps text x o g z =
    subst (λ (w : List ℤ). T (head_tree ps (w ++ (x ∷ [])))) (sym (last_of-zero text)) (one_head_tree ps x o g z)

-- behind a gap no suffix but the empty one has the tree of a head
pub gap_suffix : (ps : PatternSet) (text : List ℤ) (x : ℤ) → is_gap x ≡ true → (j : ℕ) → 0 < j → j ≤ length (text ++ (x ∷ []))
    → T (head_tree ps (last_of j (text ++ (x ∷ [])))) → ⊥
gap_suffix ps text x o zero h l t = absurd (let y : ⊥ = omega arith in y)
gap_suffix ps text x o (suc j) h l t =
    let n : j ≤ length text = omega (arith, length_snoc text x) in
    clash (snoc_gap (last_of j text) x o) (ap holds_gap (sym (last_of_snoc j text x n)) ∙ head_tree_whole ps (last_of (suc j) (text ++ (x ∷ []))) t)

-- ---- distances

pub distances_snoc : (w : List ℤ) (x : ℤ) → distances (w ++ (x ∷ [])) ≡ distances w ++ (distance_at (w ++ (x ∷ [])) (length w) ∷ [])
distances_snoc w x =
    let v : List ℤ = w ++ (x ∷ []) in
    let l : length (distances v) ≡ suc (length w) = length-distances v ∙ length_snoc w x in
    let n : length v ≡ suc (length w) = length_snoc w x in
    sym (take_all (suc (length w)) (distances v) (omega arith))
    ∙ take-suc (distances v) (length w) 0 (omega arith)
    ∙ ap₂ (λ (ds : List ℕ) (d : ℕ). ds ++ (d ∷ []))
    (sym (distances-take (length w) v) ∙ ap distances (take-append_seam w (x ∷ [])))
    (get_or-distances v 0 (length w) (omega arith))

-- the last distance of a suffix with the value behind it is that of the whole text, cut
pub distance_suffix : (m : ℕ) (text : List ℤ) (x : ℤ) → m ≤ length text
    → distance_at (last_of m text ++ (x ∷ [])) m ≡ cut m (distance_at (text ++ (x ∷ [])) (length text))
distance_suffix m text x h =
    let a = length text - m in
    let e : a + m ≡ length text = omega arith in
    ap (λ (w : List ℤ). distance_at w m) (sym (drop-append-le a text (x ∷ []) (omega arith)))
    ∙ distance_at-drop (text ++ (x ∷ [])) a m
    ∙ ap (λ (k : ℕ). cut m (distance_at (text ++ (x ∷ [])) k)) e

pub distances_suffix : (m : ℕ) (text : List ℤ) (x : ℤ) → m ≤ length text
    → distances (last_of m text ++ (x ∷ [])) ≡ distances (last_of m text) ++ (cut m (distance_at (text ++ (x ∷ [])) (length text)) ∷ [])
distances_suffix m text x h =
    distances_snoc (last_of m text) x
    ∙ ap (λ (d : ℕ). distances (last_of m text) ++ (d ∷ []))
    (ap (distance_at (last_of m text ++ (x ∷ []))) (length-last_of m text h) ∙ distance_suffix m text x h)

-- the head of a suffix, with the distance added, has the distances of the suffix with the value
-- behind it
pub extended_is : (m : ℕ) (text : List ℤ) (x : ℤ) (d : ℕ) → m ≤ length text → cut m d ≡ cut m (distance_at (text ++ (x ∷ [])) (length text))
    → extended (distances (last_of m text)) d ≡ distances (last_of m text ++ (x ∷ []))
extended_is m text x d h e =
    let l : length (distances (last_of m text)) ≡ m = length-distances (last_of m text) ∙ length-last_of m text h in
    ap (λ (k : ℕ). distances (last_of m text) ++ (cut k d ∷ [])) l
    ∙ ap (λ (k : ℕ). distances (last_of m text) ++ (k ∷ [])) e
    ∙ sym (distances_suffix m text x h)
