-- THE TWO LOOKS AND THE CHECK: a pattern with a hit at the end of a text is likely there and a
-- candidate there, as values with equal trees have equal fingerprints; and the comparisons with the
-- global parents decide whether a window that holds no gap has the pattern's tree.
use Rattle.std.specs.Prelude.{◌≡◌, ◌⊎◌, ◌∷◌, ◌-◌, ◌%◌, ◌^◌, ◌≤◌}
use Rattle.lists.proofs.Prelude.{◌∙◌, ap, sym, refl, subst, inl, inr, false, not, List, [], Memᴰ, Memᴰ-head, Memᴰ-tail}
use Rattle.lists.proofs.Prelude.{Memᴰ-not-nil, Memᴰ-cases_cons, ℕ, min, ℤ, T, eqb, leb, eqb→eq, leb→le, eqb_refl, length, le_refl}
use Rattle.lists.proofs.Prelude.{le_trans, min-le_left, le-min, min-le_right, last_of}
use Rattle.lists.proofs.Tests.{and_split, and_join, test_ext}
use Rattle.lists.proofs.Parts.{last_of-last_of}
use Rattle.gaps.specs.Gaps.{holds_gap}
use Rattle.cartesian.specs.Cartesian.{tree, tree_of}
use Rattle.cartesian.proofs.Structure.{tree_distances}
use Rattle.realization.specs.Realization.{realizable, least_realization}
use Rattle.realization.proofs.LeastRealization.{tree_distances-tree_of, least_distances, least_tree, length_least}
use Rattle.global_parents.specs.Passes.{passes}
use Rattle.global_parents.proofs.Passes.{passes_iff}
use Rattle.fingerprint.specs.Fingerprint.{fingerprint}
use Rattle.fingerprint.proofs.Fingerprint.{equal_trees_equal_fingerprints}
use Rattle.pattern_set.specs.PatternSet.{PatternSet, good_set}
use Rattle.matching.specs.Matching.{has_tree, shortest, fits, is_candidate}
use Rattle.matching.proofs.Trees.{has_tree_whole, has_tree-tree, tree-has_tree, not_passed, passed_not}
use Rattle.pattern_set.proofs.Good.{good_pattern_lem}
use Rattle.filter_plan.specs.Plan.{text_fingerprint, pattern_fingerprint, own_length, is_likely, is_hit}
use Rattle.filter_plan.proofs.Fingerprints.{text_fingerprint_part, pattern_fingerprint_part}

-- ---- the length of the shortest pattern

pub shortest_bound : (bound : ℕ) (ps : PatternSet) → shortest bound ps ≤ bound
unfolding shortest
shortest_bound bound [] = le_refl bound
shortest_bound bound (p ∷ ps) = le_trans (shortest_bound (min bound (length p)) ps) (min-le_left bound (length p))

pub shortest-le : (bound : ℕ) (ps : PatternSet) (p : List ℕ) → Memᴰ p ps → shortest bound ps ≤ length p
unfolding shortest
shortest-le bound [] p m = absurd (Memᴰ-not-nil m)
shortest-le bound (q ∷ ps) p m = go (Memᴰ-cases_cons m) (shortest-le (min bound (length q)) ps p)
  where
    go : (p ≡ q) ⊎ Memᴰ p ps → (Memᴰ p ps → shortest (min bound (length q)) ps ≤ length p) → shortest (min bound (length q)) ps ≤ length p
    go (inl e) ih = rw e (le_trans (shortest_bound (min bound (length q)) ps) (min-le_right bound (length q)))
    go (inr k) ih = ih k

shortest_least : (b bound : ℕ) (ps : PatternSet) → b ≤ bound → ((p : List ℕ) → Memᴰ p ps → b ≤ length p) → b ≤ shortest bound ps
unfolding shortest
shortest_least b bound [] h f = h
shortest_least b bound (p ∷ ps) h f =
    shortest_least b (min bound (length p)) ps (le-min h (f p (Memᴰ-head refl))) (λ q m. f q (Memᴰ-tail m))

pub shortest_positive : (bound : ℕ) (ps : PatternSet) → T (good_set ps) → 1 ≤ bound → 1 ≤ shortest bound ps
shortest_positive bound ps g h = shortest_least 1 bound ps h (λ p m. (good_pattern_lem ps p g m).0)

-- the set fingerprint is of no more values than the pattern's own
pub shortest_own : (ps : PatternSet) (p : List ℕ) → Memᴰ p ps → shortest 17 ps ≤ own_length p
shortest_own ps p m = le-min (shortest_bound 17 ps) (shortest-le 17 ps p m)

-- ---- hits

pub hit_tree : (text : List ℤ) (p : List ℕ) → T (is_hit text p) → T (has_tree (last_of (length p) text) p)
unfolding is_hit
hit_tree text p t = (and_split (leb (length p) (length text)) (has_tree (last_of (length p) text) p) t).1

-- the window of a hit lies within the text and holds no gap
pub hit_fits : (text : List ℤ) (p : List ℕ) → T (is_hit text p) → T (fits text p)
unfolding is_hit
hit_fits text p t =
    let w = last_of (length p) text in
    and_join (leb (length p) (length text)) (not (holds_gap w)) (and_split (leb (length p) (length text)) (has_tree w p) t).0
    (passed_not (holds_gap w) (has_tree_whole w p (hit_tree text p t)))

-- patterns of one length that have a hit are equal: they have the tree of one window
pub hits_equal : (text : List ℤ) (p q : List ℕ) → T (realizable p) → T (realizable q) → length p ≡ length q → T (is_hit text p) → T (is_hit text q) → p ≡ q
hits_equal text p q r s e t u =
    let one : tree_of p ≡ tree_of q =
    sym (has_tree-tree (last_of (length p) text) p (hit_tree text p t))
    ∙ ap (λ (m : ℕ). tree (last_of m text)) e
    ∙ has_tree-tree (last_of (length q) text) q (hit_tree text q u) in
    sym (tree_distances-tree_of p r) ∙ ap tree_distances one ∙ tree_distances-tree_of q s

-- the fingerprints of a hit are equal
pub hit_fingerprint : (b : ℕ) (text : List ℤ) (p : List ℕ) → b ≤ length p → T (realizable p) → T (is_hit text p)
    → text_fingerprint b text ≡ pattern_fingerprint b p
hit_fingerprint b text p h r t =
    let w = last_of (length p) text in
    let e : tree w ≡ tree (least_realization p) = has_tree-tree w p (hit_tree text p t) ∙ sym (least_tree p r) in
    ap fingerprint (sym (last_of-last_of b (length p) text h)) ∙ equal_trees_equal_fingerprints b w (least_realization p) e

pub hit_likely : (text : List ℤ) (p : List ℕ) → T (realizable p) → T (is_hit text p) → T (is_likely text p)
unfolding is_likely
hit_likely text p r t =
    and_join (fits text p) (eqb (text_fingerprint (own_length p) text) (pattern_fingerprint (own_length p) p)) (hit_fits text p t)
    (subst (λ (k : ℕ). T (eqb (text_fingerprint (own_length p) text) k)) (hit_fingerprint (own_length p) text p (min-le_right 17 (length p)) r t)
    (eqb_refl (text_fingerprint (own_length p) text)))

pub hit_candidate : (b : ℕ) (text : List ℤ) (p : List ℕ) → b ≤ length p → T (realizable p) → T (is_hit text p) → T (is_candidate b text p)
unfolding is_candidate
hit_candidate b text p h r t =
    and_join (fits text p) (eqb (text_fingerprint b text) (pattern_fingerprint b p)) (hit_fits text p t)
    (subst (λ (k : ℕ). T (eqb (text_fingerprint b text) k)) (hit_fingerprint b text p h r t) (eqb_refl (text_fingerprint b text)))

-- ---- likely patterns

-- the window of a likely pattern lies within the text and holds no gap
pub likely_fits : (text : List ℤ) (p : List ℕ) → T (is_likely text p) → (length p ≤ length text) × (holds_gap (last_of (length p) text) ≡ false)
unfolding is_likely
likely_fits text p t =
    let w = last_of (length p) text in
    let f = (and_split (fits text p) (eqb (text_fingerprint (own_length p) text) (pattern_fingerprint (own_length p) p)) t).0 in
    let s = and_split (leb (length p) (length text)) (not (holds_gap w)) f in
    (leb→le (length p) (length text) s.0, not_passed (holds_gap w) s.1)

-- the text at its end has the own fingerprint of a likely pattern
pub likely_fingerprint : (text : List ℤ) (p : List ℕ) → T (is_likely text p) → text_fingerprint (own_length p) text ≡ pattern_fingerprint (own_length p) p
unfolding is_likely
likely_fingerprint text p t =
    eqb→eq (text_fingerprint (own_length p) text) (pattern_fingerprint (own_length p) p)
    (and_split (fits text p) (eqb (text_fingerprint (own_length p) text) (pattern_fingerprint (own_length p) p)) t).1

-- what is likely is a candidate: a longer fingerprint that is equal has equal lowest bits
pub likely_candidate : (b : ℕ) (text : List ℤ) (p : List ℕ) → 1 ≤ b → b ≤ own_length p → T (is_likely text p) → T (is_candidate b text p)
unfolding is_candidate is_likely
likely_candidate b text p h k t =
    let l = and_split (fits text p) (eqb (text_fingerprint (own_length p) text) (pattern_fingerprint (own_length p) p)) t in
    let e : text_fingerprint b text ≡ pattern_fingerprint b p =
    text_fingerprint_part b (own_length p) text h k
    ∙ ap (λ (z : ℕ). z % 2 ^ (b - 1)) (eqb→eq (text_fingerprint (own_length p) text) (pattern_fingerprint (own_length p) p) l.1)
    ∙ sym (pattern_fingerprint_part b (own_length p) p h k) in
    and_join (fits text p) (eqb (text_fingerprint b text) (pattern_fingerprint b p)) l.0
    (subst (λ (z : ℕ). T (eqb (text_fingerprint b text) z)) e (eqb_refl (text_fingerprint b text)))

-- ---- the check

-- the comparisons with the global parents decide whether a window that is as long as the pattern
-- and holds no gap has its tree
pub passes_hit : (p : List ℕ) (window : List ℤ) → T (realizable p) → holds_gap window ≡ false → length window ≡ length p → passes p window ≡ has_tree window p
passes_hit p window r whole e =
    let xs = least_realization p in
    let d = least_distances p r in
    let iff = passes_iff xs window (e ∙ sym (length_least p r)) in
    test_ext (passes p window) (has_tree window p)
    (λ t. tree-has_tree window p whole (iff.0 (subst (λ (l : List ℕ). T (passes l window)) (sym d) t) ∙ least_tree p r))
    (λ t. subst (λ (l : List ℕ). T (passes l window)) d (iff.1 (has_tree-tree window p t ∙ sym (least_tree p r))))
