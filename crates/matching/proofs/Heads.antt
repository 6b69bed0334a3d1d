-- Heads are closed under shortening, and the suffixes of a text that have the tree of some head are
-- a chain that the failure links enumerate: a tail of a head is a suffix of every text that ends
-- with the head's tree.
use Rattle.std.specs.Prelude.{◌≡◌, ◌↔◌, ◌∷◌, ◌-◌, ◌≤◌, ◌<◌}
use Rattle.lists.proofs.Same.{begins_shorter, same_eq, eq_same}
use Rattle.lists.proofs.Prelude.{◌∙◌, ap, sym, refl, subst, Bool, true, false, cond, List, [], map, ℕ, zero, suc, pred, ℤ, T}
use Rattle.lists.proofs.Prelude.{eqb-suc-zero, length, take, drop_of_length-le, le_refl, arith, last_of, begins, last_below, any, all}
use Rattle.lists.proofs.Tests.{true-T, test_ext}
use Rattle.lists.proofs.Members.{any-mem, mem-any, all-mem}
use Rattle.lists.proofs.Parts.{length-last_of, last_of-last_of}
use Rattle.lists.proofs.LastBelow.{last_below_ext, last_below-le, last_below_passes, last_below_none}
use Rattle.gaps.specs.Gaps.{holds_gap}
use Rattle.gaps.proofs.Laws.{drop_none, last_of_none, pos_none}
use Rattle.cartesian.specs.Cartesian.{tree_within, tree, same_tree, distances, tree_of_within, tree_of}
use Rattle.cartesian.specs.Windows.{suffix_distances}
use Rattle.cartesian.proofs.Seek.{length-distances}
use Rattle.cartesian.proofs.ByList.{distances-take}
use Rattle.cartesian.proofs.Matching.{trees_iff_distances}
use Rattle.cartesian.proofs.Window.{distances-last_of}
use Rattle.cartesian.proofs.TreeOf.{tree_of-distances}
use Rattle.realization.specs.Realization.{Realizable, realizable, left_turns, least_realization}
use Rattle.realization.proofs.Realizable.{realizable_iff}
use Rattle.realization.proofs.LeastRealization.{least_distances}
use Rattle.pattern_set.specs.PatternSet.{PatternSet}
use Rattle.matching.specs.Matching.{has_tree, is_head, head_tree, failure, chain_within, chain}
use Rattle.matching.specs.HeadLengths.{head_lengths}
use Rattle.matching.proofs.Trees.{has_tree_whole, has_tree-tree, tree-has_tree}

-- ---- shortening

-- a prefix of a realizable list is realizable
pub realizable-take : (n : ℕ) (ds : List ℕ) → T (realizable ds) → T (realizable (take n ds))
unfolding Realizable
realizable-take n ds h =
    let p = (realizable_iff ds).0 h in
    (realizable_iff (take n ds)).1 (take n p.0, distances-take n p.0 ∙ ap (take n) p.1)

pub distances-realizable : (xs : List ℤ) → T (realizable (distances xs))
unfolding Realizable
distances-realizable xs = (realizable_iff (distances xs)).1 (xs, refl)

-- HEADS ARE CLOSED UNDER SHORTENING
pub head_shorter : (ps : PatternSet) (h : List ℕ) (n : ℕ) → T (is_head ps h) → T (is_head ps (take n h))
unfolding is_head
head_shorter ps h n t =
    let r = any-mem (λ p. begins p h) ps t in
    mem-any (λ p. begins p (take n h)) ps r.0 r.1 (begins_shorter r.0 h n r.2)

-- ---- by trees and by distances

-- a window without a gap has the tree of a realizable list exactly if it has these distances
pub has_tree_iff : (window : List ℤ) (ds : List ℕ) → holds_gap window ≡ false → T (realizable ds) → T (has_tree window ds) ↔ (distances window ≡ ds)
unfolding Realizable
has_tree_iff w ds o h =
    let p = (realizable_iff ds).0 h in
    let e : tree_of ds ≡ tree p.0 = ap tree_of (sym p.1) ∙ tree_of-distances p.0 in (
      λ t. (trees_iff_distances w p.0).0 (has_tree-tree w ds t ∙ e) ∙ p.1,
      λ q. tree-has_tree w ds o ((trees_iff_distances w p.0).1 (q ∙ sym p.1) ∙ sym e),
    )

-- what has the tree of some head holds no gap
pub head_tree_whole : (ps : PatternSet) (window : List ℤ) → T (head_tree ps window) → holds_gap window ≡ false
unfolding head_tree
head_tree_whole ps w t =
    let r = any-mem (λ p. has_tree w (take (length w) p)) ps t in
    has_tree_whole w (take (length w) r.0) r.2

-- a window without a gap has the tree of some head exactly if its distances are a head
pub head_tree-is_head : (ps : PatternSet) (window : List ℤ) → holds_gap window ≡ false → T (all realizable ps) → head_tree ps window
    ≡ is_head ps (distances window)
unfolding head_tree is_head
head_tree-is_head ps w o g =
    test_ext (any (λ p. has_tree w (take (length w) p)) ps) (any (λ p. begins p (distances w)) ps)
    (λ t.
    let r = any-mem (λ p. has_tree w (take (length w) p)) ps t in
    let z = realizable-take (length w) r.0 (all-mem realizable ps g r.0 r.1) in
    mem-any (λ p. begins p (distances w)) ps r.0 r.1
    (eq_same (take (length (distances w)) r.0) (distances w) (rw length-distances (sym ((has_tree_iff w (take (length w) r.0) o z).0 r.2)))))
    (λ t.
    let r = any-mem (λ p. begins p (distances w)) ps t in
    let z = realizable-take (length w) r.0 (all-mem realizable ps g r.0 r.1) in
    let e : take (length w) r.0 ≡ distances w =
    subst (λ (k : ℕ). take k r.0 ≡ distances w) (length-distances w) (same_eq (take (length (distances w)) r.0) (distances w) r.2) in
    mem-any (λ p. has_tree w (take (length w) p)) ps r.0 r.1
    ((has_tree_iff w (take (length w) r.0) o z).1 (sym e)))

-- windows without a gap and with equal distances agree on heads
pub head_tree_same : (ps : PatternSet) (v w : List ℤ) → holds_gap v ≡ false → holds_gap w ≡ false → distances v ≡ distances w → head_tree ps v ≡ head_tree ps w
unfolding head_tree has_tree
head_tree_same ps v w a b e =
    let t = (trees_iff_distances v w).1 e in
    let n : length v ≡ length w = sym (length-distances v) ∙ ap length e ∙ length-distances w in
    rw (a, b, t, n) refl

-- ---- the failure link of a suffix

-- the length of the longest suffix of fewer than n values that has the tree of some head
abbrev pub longest_below : PatternSet → List ℤ → ℕ → ℕ
longest_below ps text n = pred (last_below (λ m. head_tree ps (last_of m text)) n)

-- suffixes of lists with equal distances have equal distances
suffix_same : (v w : List ℤ) (m : ℕ) → distances v ≡ distances w → distances (last_of m v) ≡ distances (last_of m w)
suffix_same v w m e = distances-last_of m v ∙ ap (suffix_distances m) e ∙ sym (distances-last_of m w)

-- the least values are samples
pub least_whole : (m : ℕ) (ds : List ℕ) → holds_gap (last_of m (least_realization ds)) ≡ false
unfolding least_realization
least_whole m ds = let xs = least_realization ds in drop_none (length xs - m) xs (pos_none (left_turns (tree_of ds)))

-- THE FAILURE LINK of the head that a suffix of the text without a gap has leads to the next
-- shorter suffix that has one
pub failure_next : (ps : PatternSet) (text : List ℤ) (n : ℕ) → n ≤ length text → holds_gap (last_of n text) ≡ false
    → failure ps (distances (last_of n text)) ≡ distances (last_of (longest_below ps text n) text)
unfolding failure
failure_next ps text n h o =
    let w = last_of n text in
    let xs = least_realization (distances w) in
    let e : distances xs ≡ distances w = least_distances (distances w) (distances-realizable w) in
    let l : length (distances w) ≡ n = length-distances w ∙ length-last_of n text h in
    let same-below : (m : ℕ) → m ≤ n → distances (last_of m xs) ≡ distances (last_of m text) =
    λ m k. suffix_same xs w m e ∙ ap distances (last_of-last_of m n text k) in
    let f : last_below (λ m. head_tree ps (last_of m xs)) (length (distances w)) ≡ last_below (λ m. head_tree ps (last_of m text)) n =
    ap (last_below (λ m. head_tree ps (last_of m xs))) l
    ∙ last_below_ext (λ m. head_tree ps (last_of m xs)) (λ m. head_tree ps (last_of m text)) n
    (λ m k. head_tree_same ps (last_of m xs) (last_of m text) (least_whole m (distances w))
    (last_of_none m n text (omega arith) o) (same-below m (omega arith))) in
    ap (λ (m : ℕ). distances (last_of (pred m) xs)) f
    ∙ same-below (longest_below ps text n) (below (last_below (λ m. head_tree ps (last_of m text)) n) (last_below-le (λ m. head_tree ps (last_of m text)) n))
  where
    below : (q : ℕ) → q ≤ n → pred q ≤ n
    below q k = omega arith

-- ---- the chain

-- the longest suffix shorter than a non-empty one has some head: the empty one at least
empty_head : (ps : PatternSet) (text : List ℤ) → T (head_tree ps (last_of 0 text)) → (n : ℕ) → 0 < n
    → (q : ℕ) × (last_below (λ m. head_tree ps (last_of m text)) n ≡ suc q)
empty_head ps text t n h = go (last_below (λ m. head_tree ps (last_of m text)) n) refl
  where
    go : (k : ℕ) → last_below (λ m. head_tree ps (last_of m text)) n ≡ k → (q : ℕ) × (last_below (λ m. head_tree ps (last_of m text)) n ≡ suc q)
    go zero e =
        absurd (last_below_none (λ m. head_tree ps (last_of m text)) n 0 (let z : last_below (λ m. head_tree ps (last_of m text)) n ≤ 0 = omega arith in z) h t)
    go (suc q) e = (q, e)

-- the lengths of at most n begin with the longest of them
head_lengths_from : (ps : PatternSet) (text : List ℤ) (n q : ℕ) → last_below (λ m. head_tree ps (last_of m text)) (suc n) ≡ suc q
    → head_lengths ps text n ≡ head_lengths ps text q
unfolding head_lengths last_below
head_lengths_from ps text zero q e = go (head_tree ps (last_of 0 text)) e
  where
    go : (b : Bool) → cond b 1 0 ≡ suc q → head_lengths ps text 0 ≡ head_lengths ps text q
    go true r = ap (head_lengths ps text) (let z : 0 ≡ q = omega arith in z)
    go false r = absurd (let z : ⊥ = omega arith in z)
head_lengths_from ps text (suc n) q e = go (head_tree ps (last_of (suc n) text)) refl e (head_lengths_from ps text n q)
  where
    go : (b : Bool) → head_tree ps (last_of (suc n) text) ≡ b → cond b (suc (suc n)) (last_below (λ m. head_tree ps (last_of m text)) (suc n)) ≡ suc q
        → (last_below (λ m. head_tree ps (last_of m text)) (suc n) ≡ suc q → head_lengths ps text n ≡ head_lengths ps text q)
        → cond b (suc n ∷ head_lengths ps text n) (head_lengths ps text n) ≡ head_lengths ps text q
    go true f r ih =
        let z : q ≡ suc n = omega arith in
        rw (z, f) refl
    go false f r ih = ih r

-- the empty window has the empty head of any pattern
pub empty_head_tree : (ps : PatternSet) → 0 < length ps → T (head_tree ps [])
unfolding head_tree has_tree any same_tree tree tree_within tree_of tree_of_within
empty_head_tree [] h = absurd (let z : ⊥ = omega arith in z)
empty_head_tree (p ∷ ps) h = tt

chain_within_lem : (ps : PatternSet) (text : List ℤ) → T (head_tree ps (last_of 0 text)) → (k n : ℕ) → n ≤ k → n ≤ length text
    → T (head_tree ps (last_of n text))
    → chain_within k ps (distances (last_of n text)) ≡ map (λ m. distances (last_of m text)) (head_lengths ps text n)
unfolding chain_within head_lengths
chain_within_lem ps text z zero zero l h t = refl
chain_within_lem ps text z zero (suc n) l h t = absurd (let y : ⊥ = omega arith in y)
chain_within_lem ps text z (suc k) zero l h t =
    rw (length-distances (last_of 0 text), length-last_of 0 text (omega arith)) refl
chain_within_lem ps text z (suc k) (suc n) l h t =
    let r = empty_head ps text z (suc n) (omega arith) in
    let q = r.0 in
    let b = last_below-le (λ m. head_tree ps (last_of m text)) (suc n) in
    let f : failure ps (distances (last_of (suc n) text)) ≡ distances (last_of q text) =
    failure_next ps text (suc n) h (head_tree_whole ps (last_of (suc n) text) t) ∙ ap (λ (m : ℕ). distances (last_of (pred m) text)) r.1 in
    let ih = chain_within_lem ps text z k q (omega (arith, r.1)) (omega (arith, r.1)) (last_below_passes (λ m. head_tree ps (last_of m text)) (suc n) q r.1) in
    let tail = last_of (suc n) text in
    let is = true-T (head_tree ps tail) t in
    rw (length-distances tail, length-last_of (suc n) text h, eqb-suc-zero n, is, head_lengths_from ps text n q r.1, f)
    (ap (λ (l : List (List ℕ)). distances tail ∷ l) ih)

-- THE CHAIN: the suffixes of a text, of at most n values, that have the tree of some head are those
-- that the failure links enumerate, from the one of n values on
pub chain_is : (ps : PatternSet) (text : List ℤ) (n : ℕ) → 0 < length ps → n ≤ length text → T (head_tree ps (last_of n text))
    → chain ps (distances (last_of n text)) ≡ map (λ m. distances (last_of m text)) (head_lengths ps text n)
chain_is ps text n g h t =
    let e : last_of 0 text ≡ [] = drop_of_length-le text {i = length text - 0} (omega arith) in
    rw (length-distances (last_of n text), length-last_of n text h)
    (chain_within_lem ps text (rw e (empty_head_tree ps g)) n n (le_refl n) h t)
