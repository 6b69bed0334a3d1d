-- THE LAW OF HITS: a pair of last place and pattern is listed exactly if the window that ends there
-- and is as long as the pattern has the pattern's tree.
use Rattle.std.specs.Prelude.{◌≡◌, ◌⊎◌, ◌↔◌, ◌∷◌, ◌++◌, ◌+◌, ◌<◌}
use Rattle.lists.proofs.Prelude.{◌∙◌, ap, sym, refl, subst, inl, inr, Bool, true, false, cond, List, [], Memᴰ, Memᴰ-head}
use Rattle.lists.proofs.Prelude.{Memᴰ-tail, Memᴰ-not-nil, Memᴰ-cases_cons, Memᴰ-append_cases, Memᴰ-append_left, Memᴰ-append_right}
use Rattle.lists.proofs.Prelude.{Memᴰ-cast, ℕ, zero, suc, pred, ℤ, T, length, get_or, take, add-zero, zero-add, dec_lt, arith, last_of, last_below, any}
use Rattle.lists.proofs.Parts.{length-last_of}
use Rattle.lists.proofs.Tests.{T-true}
use Rattle.lists.proofs.Members.{mem-map}
use Rattle.lists.proofs.Rows.{mem-flatten-tabulate}
use Rattle.gaps.specs.Gaps.{is_gap, holds_gap}
use Rattle.cartesian.specs.Cartesian.{leaf, node, leftmost_from, leftmost, tree_within, tree, same_tree, cut_from, root_place, tree_of_within, tree_of}
use Rattle.cartesian.proofs.HasTree.{equal_tree}
use Rattle.pattern_set.specs.PatternSet.{PatternSet}
use Rattle.matching.specs.Matching.{has_tree, numbers_from, end_hits, last_hits, hits_at, hits}
use Rattle.matching.specs.HitList.{EndsWith}
use Rattle.matching.proofs.Trees.{has_tree_whole, has_tree-tree, tree-has_tree}
use Rattle.matching.proofs.Sizes.{has_tree-length}

one_tree : (x : ℤ) → tree (x ∷ []) ≡ node leaf leaf
unfolding tree tree_within leftmost leftmost_from
one_tree x = refl

-- at one place the longer pattern comes first: the last of two equal samples ends pattern 1, two
-- values that do not fall, and pattern 0, one value
pub longer_first : (x : ℤ) → is_gap x ≡ false → last_hits ((0 ∷ []) ∷ (0 ∷ 1 ∷ []) ∷ []) (x ∷ x ∷ []) ≡ 1 ∷ 0 ∷ []
unfolding end_hits numbers_from has_tree any same_tree tree_of tree_of_within root_place cut_from last_below
longer_first x e = rw (e, equal_tree x, one_tree x) refl

-- ---- the patterns with the tree of one window

pub numbers_from-mem : (i : ℕ) (window : List ℤ) (ps : PatternSet) (j : ℕ) → Memᴰ j (numbers_from i window ps)
    → (k : ℕ) × (j ≡ i + k) × (k < length ps) × T (has_tree window (get_or ps k []))
unfolding numbers_from
numbers_from-mem i window [] j m = absurd (Memᴰ-not-nil m)
numbers_from-mem i window (p ∷ ps) j m = go (has_tree window p) refl m (numbers_from-mem (suc i) window ps j)
  where
    Rest : Type 0
    Rest = (k : ℕ) × (j ≡ suc i + k) × (k < length ps) × T (has_tree window (get_or ps k []))

    Found : Type 0
    Found = (k : ℕ) × (j ≡ i + k) × (k < suc (length ps)) × T (has_tree window (get_or (p ∷ ps) k []))

    later : Rest → Found
    later r = (suc r.0, omega (arith, r.1), omega (arith, r.2), r.3)

    go : (b : Bool) → has_tree window p ≡ b → Memᴰ j (cond b (i ∷ numbers_from (suc i) window ps) (numbers_from (suc i) window ps))
        → (Memᴰ j (numbers_from (suc i) window ps) → Rest) → Found
    go true q m ih = first (Memᴰ-cases_cons m)
      where
        first : (j ≡ i) ⊎ Memᴰ j (numbers_from (suc i) window ps) → Found
        first (inl e) = (0, omega arith, omega arith, T-true (has_tree window p) q)
        first (inr h) = later (ih h)
    go false q m ih = later (ih m)

pub mem-numbers_from : (i : ℕ) (window : List ℤ) (ps : PatternSet) (k : ℕ) → k < length ps → T (has_tree window (get_or ps k []))
    → Memᴰ (i + k) (numbers_from i window ps)
unfolding numbers_from
mem-numbers_from i window [] k h t = absurd (let z : ⊥ = omega arith in z)
mem-numbers_from i window (p ∷ ps) zero h t = go (has_tree window p) t
  where
    go : (b : Bool) → T b → Memᴰ (i + 0) (cond b (i ∷ numbers_from (suc i) window ps) (numbers_from (suc i) window ps))
    go true t = Memᴰ-head (add-zero i)
    go false t = absurd t
mem-numbers_from i window (p ∷ ps) (suc k) h t = go (has_tree window p) (Memᴰ-cast (omega arith) (mem-numbers_from (suc i) window ps k (omega arith) t))
  where
    go : (b : Bool) → Memᴰ (i + suc k) (numbers_from (suc i) window ps)
        → Memᴰ (i + suc k) (cond b (i ∷ numbers_from (suc i) window ps) (numbers_from (suc i) window ps))
    go true m = Memᴰ-tail m
    go false m = m

-- ---- the patterns with the tree of some window at the text's end

pub end_hits-mem : (ps : PatternSet) (text : List ℤ) (n j : ℕ) → Memᴰ j (end_hits ps text n)
    → (m : ℕ) × (m < n) × Memᴰ j (numbers_from 0 (last_of (suc m) text) ps)
unfolding end_hits
end_hits-mem ps text zero j m = absurd (Memᴰ-not-nil m)
end_hits-mem ps text (suc n) j m = go (Memᴰ-append_cases (numbers_from 0 (last_of (suc n) text) ps) m) (end_hits-mem ps text n j)
  where
    go : Memᴰ j (numbers_from 0 (last_of (suc n) text) ps) ⊎ Memᴰ j (end_hits ps text n)
        → (Memᴰ j (end_hits ps text n) → (m : ℕ) × (m < n) × Memᴰ j (numbers_from 0 (last_of (suc m) text) ps))
        → (m : ℕ) × (m < suc n) × Memᴰ j (numbers_from 0 (last_of (suc m) text) ps)
    go (inl h) ih = (n, omega arith, h)
    go (inr h) ih = let r = ih h in (r.0, omega (arith, r.1), r.2)

pub mem-end_hits : (ps : PatternSet) (text : List ℤ) (n j m : ℕ) → m < n → Memᴰ j (numbers_from 0 (last_of (suc m) text) ps) → Memᴰ j (end_hits ps text n)
unfolding end_hits
mem-end_hits ps text zero j m h d = absurd (let z : ⊥ = omega arith in z)
mem-end_hits ps text (suc n) j m h d = go (dec_lt m n) (mem-end_hits ps text n j m)
  where
    go : Dec (m < n) → (m < n → Memᴰ j (numbers_from 0 (last_of (suc m) text) ps) → Memᴰ j (end_hits ps text n))
        → Memᴰ j (numbers_from 0 (last_of (suc n) text) ps ++ end_hits ps text n)
    go (yes l) ih = Memᴰ-append_right (numbers_from 0 (last_of (suc n) text) ps) (ih l d)
    go (no g) ih =
        let e : m ≡ n = omega arith in
        Memᴰ-append_left (end_hits ps text n) (subst (λ (k : ℕ). Memᴰ j (numbers_from 0 (last_of (suc k) text) ps)) e d)

pub last_hits_iff : (ps : PatternSet) (text : List ℤ) (j : ℕ) → Memᴰ j (last_hits ps text) ↔ ((j < length ps) × EndsWith text (get_or ps j []))
last_hits_iff ps text j = (from, to)
  where
    from : Memᴰ j (last_hits ps text) → (j < length ps) × EndsWith text (get_or ps j [])
    from d =
        let r = end_hits-mem ps text (length text) j d in
        let s = numbers_from-mem 0 (last_of (suc r.0) text) ps j r.2 in
        let e : s.0 ≡ j = omega (arith, s.1) in
        let t : T (has_tree (last_of (suc r.0) text) (get_or ps j [])) = subst (λ (k : ℕ). T (has_tree (last_of (suc r.0) text) (get_or ps k []))) e s.3 in
        let l : suc r.0 ≡ length (get_or ps j []) =
        sym (length-last_of (suc r.0) text r.1) ∙ has_tree-length (last_of (suc r.0) text) (get_or ps j []) t in (
          omega (arith, s.2, e),
          (
            omega (arith, l),
            omega (arith, l, r.1),
            subst (λ (n : ℕ). holds_gap (last_of n text) ≡ false) l (has_tree_whole (last_of (suc r.0) text) (get_or ps j []) t),
            subst (λ (n : ℕ). tree (last_of n text) ≡ tree_of (get_or ps j [])) l (has_tree-tree (last_of (suc r.0) text) (get_or ps j []) t),
          ),
        )

    to : (j < length ps) × EndsWith text (get_or ps j []) → Memᴰ j (last_hits ps text)
    to (h, (nonempty, inside, whole, e)) =
        let l : length (get_or ps j []) ≡ suc (pred (length (get_or ps j []))) = omega arith in
        let t : T (has_tree (last_of (suc (pred (length (get_or ps j [])))) text) (get_or ps j [])) =
        tree-has_tree (last_of (suc (pred (length (get_or ps j [])))) text) (get_or ps j [])
        (subst (λ (n : ℕ). holds_gap (last_of n text) ≡ false) l whole) (subst (λ (n : ℕ). tree (last_of n text) ≡ tree_of (get_or ps j [])) l e) in
        mem-end_hits ps text (length text) j (pred (length (get_or ps j []))) (omega arith)
        (Memᴰ-cast (sym (zero-add j)) (mem-numbers_from 0 (last_of (suc (pred (length (get_or ps j [])))) text) ps j h t))

pub hits_iff : (ps : PatternSet) (text : List ℤ) (p j : ℕ)
    → Memᴰ (p, j) (hits ps text) ↔ ((p < length text) × (j < length ps) × EndsWith (take (suc p) text) (get_or ps j []))
unfolding hits hits_at
hits_iff ps text p j = (from, to)
  where
    from : Memᴰ (p, j) (hits ps text) → (p < length text) × (j < length ps) × EndsWith (take (suc p) text) (get_or ps j [])
    from d =
        let r = (mem-flatten-tabulate (length text) (hits_at ps text) (p, j)).0 d in
        let s = (mem-map {B = ℕ × ℕ} (λ i. (r.0, i)) (last_hits ps (take (suc r.0) text)) (p, j)).0 r.2 in
        let ep : p ≡ r.0 = ap (λ (h : ℕ × ℕ). h.0) s.2 in
        let ej : j ≡ s.0 = ap (λ (h : ℕ × ℕ). h.1) s.2 in
        let m : Memᴰ j (last_hits ps (take (suc p) text)) =
        Memᴰ-cast ej (subst (λ (i : ℕ). Memᴰ s.0 (last_hits ps (take (suc i) text))) (sym ep) s.1) in
        let f = (last_hits_iff ps (take (suc p) text) j).0 m in
        (omega (arith, ep, r.1), f.0, f.1)

    to : (p < length text) × (j < length ps) × EndsWith (take (suc p) text) (get_or ps j []) → Memᴰ (p, j) (hits ps text)
    to (h, k, e) =
        let m = (last_hits_iff ps (take (suc p) text) j).1 (k, e) in
        (mem-flatten-tabulate (length text) (hits_at ps text) (p, j)).1
        (p, h, (mem-map {B = ℕ × ℕ} (λ i. (p, i)) (last_hits ps (take (suc p) text)) (p, j)).1 (j, m, refl))
