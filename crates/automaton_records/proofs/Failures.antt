-- THE FAILURE LINK OF A CHILD is what one step of the automaton reaches from the failure link of
-- its parent, with the child's label: a tail of the child's head is a tail of the parent's head
-- with the label behind it, cut to its depth.
use Rattle.std.specs.Prelude.{◌≡◌, ◌∷◌, ◌++◌, ◌≤◌, ◌<◌}
use Rattle.lists.proofs.Prelude.{◌∙◌, ap, sym, refl, subst, Bool, true, false, List, [], ℕ, zero, suc, pred, T, length}
use Rattle.lists.proofs.Prelude.{take-append_seam, le_refl, dec_lt, arith, last_of, last_below}
use Rattle.lists.proofs.Tests.{T-true, true-T}
use Rattle.lists.proofs.LastBelow.{last_below_ext, last_below-le, last_below_passes, last_below_none}
use Rattle.lists.proofs.Parts.{length_none, length_snoc}
use Rattle.cartesian.specs.Cartesian.{distances, cut}
use Rattle.cartesian.specs.Windows.{suffix_distances}
use Rattle.cartesian.proofs.Window.{length_suffix, suffix_snoc}
use Rattle.realization.specs.Realization.{realizable, least_realization}
use Rattle.realization.proofs.LeastRealization.{length_least}
use Rattle.realization.proofs.Suffixes.{suffix_realized, suffix_all}
use Rattle.pattern_set.specs.PatternSet.{PatternSet, good_set}
use Rattle.pattern_set.proofs.Good.{good_realizable}
use Rattle.matching.specs.Matching.{is_head, head_tree, failure}
use Rattle.matching.proofs.Heads.{head_tree-is_head, head_shorter, least_whole, failure_next}
use Rattle.automaton_model.specs.Automaton.{extended, advance}
use Rattle.automaton_model.proofs.Nodes.{head_realizable, failure_shorter}
use Rattle.automaton_model.proofs.Advance.{root_child, advance_there, advance_missing}

-- ---- the failure links of the suffixes of a head

abbrev head_suffix : PatternSet → List ℕ → ℕ → Bool
head_suffix ps h m = is_head ps (suffix_distances m h)

failure_suffix : (ps : PatternSet) → T (good_set ps) → (h : List ℕ) → T (realizable h) → (n : ℕ) → n ≤ length h
    → failure ps (suffix_distances n h) ≡ suffix_distances (pred (last_below (head_suffix ps h) n)) h
failure_suffix ps g h t n l =
    let xs = least_realization h in
    ap (failure ps) (sym (suffix_realized n h t))
    ∙ failure_next ps xs n (omega (arith, length_least h t)) (least_whole n h)
    ∙ ap (λ (q : ℕ). distances (last_of (pred q) xs))
    (last_below_ext (λ m. head_tree ps (last_of m xs)) (head_suffix ps h) n
    (λ m k. head_tree-is_head ps (last_of m xs) (least_whole m h) (good_realizable ps g) ∙ ap (is_head ps) (suffix_realized m h t)))
    ∙ suffix_realized (pred (last_below (head_suffix ps h) n)) h t

-- a suffix with the tree of some head that is shorter is not passed over
not_passed : (ps : PatternSet) (h : List ℕ) (q n : ℕ) → T (head_suffix ps h q) → q < n
    → (q ≤ pred (last_below (head_suffix ps h) n)) × (pred (last_below (head_suffix ps h) n) < n)
not_passed ps h q n t l = go (dec_lt q (last_below (head_suffix ps h) n))
  where
    go : Dec (q < last_below (head_suffix ps h) n) → (q ≤ pred (last_below (head_suffix ps h) n)) × (pred (last_below (head_suffix ps h) n) < n)
    go (yes d) = let b = last_below-le (head_suffix ps h) n in (omega arith, omega arith)
    go (no f) = absurd (last_below_none (head_suffix ps h) n q (omega arith) l t)

-- from the suffix of m values, where that of q values is the longest that goes on with v
module _ (ps : PatternSet) (g : T (good_set ps)) (z : 0 < length ps) (h : List ℕ) (t : T (realizable h)) (v q : ℕ) (s : T (head_suffix ps h q))
    (u : T (is_head ps (extended (suffix_distances q h) v))) where
  -- no longer suffix up to that of m values goes on
  abbrev Longest : ℕ → Type 0
  Longest m = (j : ℕ) → q < j → j ≤ m → T (is_head ps (extended (suffix_distances j h) v)) → ⊥

  -- the step from the suffix of m values
  abbrev Ends : ℕ → Type 0
  Ends m = (advance ps (suffix_distances m h) v).0 ≡ extended (suffix_distances q h) v

  Ends-there : (m : ℕ) → m ≡ q → Ends m
  Ends-there m e =
      ap (λ (m : ℕ). (advance ps (suffix_distances m h) v).0) e
      ∙ ap (λ (r : List ℕ × ℕ). r.0) (advance_there ps g z v (suffix_distances q h) (true-T (is_head ps (extended (suffix_distances q h) v)) u))

  walk : (k m : ℕ) → m ≤ k → m ≤ length h → q ≤ m → Longest m → Ends m
  walk zero m a b c f = Ends-there m (omega arith)
  walk (suc k) m a b c f = go (dec_lt q m) (walk k)
    where
      go : Dec (q < m) → ((m : ℕ) → m ≤ k → m ≤ length h → q ≤ m → Longest m → Ends m) → Ends m
      go (no d) ih = Ends-there m (omega arith)
      go (yes d) ih = inner (is_head ps (extended (suffix_distances m h) v)) refl
        where
          inner : (b : Bool) → is_head ps (extended (suffix_distances m h) v) ≡ b → Ends m
          inner true e = absurd (f m d (le_refl m) (T-true (is_head ps (extended (suffix_distances m h) v)) e))
          inner false e =
              let p = not_passed ps h q m s d in
              ap (λ (r : List ℕ × ℕ). r.0) (advance_missing ps g z v (suffix_distances m h) e)
              ∙ ap (λ (l : List ℕ). (advance ps l v).0) (failure_suffix ps g h t m b)
              ∙ ih (pred (last_below (head_suffix ps h) m)) (omega (arith, p.1)) (omega (arith, p.1)) p.0 (λ j x y. f j x (omega (arith, p.1)))

-- THE FAILURE LINK OF A CHILD
pub failure_child : (ps : PatternSet) → T (good_set ps) → 0 < length ps → (h : List ℕ) (v : ℕ) → 0 < length h → T (is_head ps (h ++ (v ∷ [])))
    → failure ps (h ++ (v ∷ [])) ≡ (advance ps (failure ps h) v).0
failure_child ps g z h v l t =
    let n = length_snoc h v in
    let e : suffix_distances 1 (h ++ (v ∷ [])) ≡ extended [] v =
    suffix_snoc 0 h v (omega arith) ∙ ap (λ (k : List ℕ). extended k v) (length_none (suffix_distances 0 h) (length_suffix 0 h (omega arith))) in
    let u = T-true (is_head ps (extended [] v)) (root_child ps g z v [] (le_refl 0)) in
    let p = not_passed ps (h ++ (v ∷ [])) 1 (length (h ++ (v ∷ []))) (subst (λ (k : List ℕ). T (is_head ps k)) (sym e) u) (omega arith) in
    go (pred (last_below (head_suffix ps (h ++ (v ∷ []))) (length (h ++ (v ∷ []))))) refl p.0 p.1
  where
    front : (k : List ℕ) (x : ℕ) → T (is_head ps (k ++ (x ∷ []))) → T (is_head ps k)
    front k x s = subst (λ (k : List ℕ). T (is_head ps k)) (take-append_seam k (x ∷ [])) (head_shorter ps (k ++ (x ∷ [])) (length k) s)

    go : (p : ℕ) → pred (last_below (head_suffix ps (h ++ (v ∷ []))) (length (h ++ (v ∷ [])))) ≡ p → 1 ≤ p → p < length (h ++ (v ∷ []))
        → failure ps (h ++ (v ∷ [])) ≡ (advance ps (failure ps h) v).0
    go zero e a b = absurd (let y : ⊥ = omega arith in y)
    go (suc q) e a b =
        let k = h ++ (v ∷ []) in
        let n = length_snoc h v in
        let rk = head_realizable ps g k t in
        let rh = head_realizable ps g h (front h v t) in
        let w : last_below (head_suffix ps k) (length k) ≡ suc (suc q) = omega arith in
        let x : suffix_distances (suc q) k ≡ extended (suffix_distances q h) v = suffix_snoc q h v (omega arith) in
        let u : T (is_head ps (extended (suffix_distances q h) v)) =
        subst (λ (k : List ℕ). T (is_head ps k)) x (last_below_passes (head_suffix ps k) (length k) (suc q) w) in
        let s : T (head_suffix ps h q) = front (suffix_distances q h) (cut (length (suffix_distances q h)) v) u in
        let m = pred (last_below (head_suffix ps h) (length h)) in
        let p = not_passed ps h q (length h) s (omega arith) in
        let fh : failure ps h ≡ suffix_distances m h = ap (failure ps) (sym (suffix_all h rh)) ∙ failure_suffix ps g h rh (length h) (le_refl (length h)) in
        let fk : failure ps k ≡ suffix_distances (suc q) k =
        ap (failure ps) (sym (suffix_all k rk)) ∙ failure_suffix ps g k rk (length k) (le_refl (length k)) ∙ ap (λ (p : ℕ). suffix_distances p k) e in
        fk ∙ x
        ∙ sym
        (ap (λ (l : List ℕ). (advance ps l v).0) fh
        ∙ walk ps g z h rh v q s u m m (le_refl m) (omega (arith, p.1)) p.0
        (λ j c d y.
        last_below_none (head_suffix ps k) (length k) (suc j) (omega arith) (omega (arith, p.1))
        (subst (λ (l : List ℕ). T (is_head ps l)) (sym (suffix_snoc j h v (omega (arith, p.1)))) y)))

-- the empty head's children fail to it
pub failure_first : (ps : PatternSet) (v : ℕ) → failure ps (v ∷ []) ≡ []
failure_first ps v = go (failure ps (v ∷ [])) (failure_shorter ps (v ∷ []) (omega arith))
  where
    go : (f : List ℕ) → length f < 1 → f ≡ []
    go [] l = refl
    go (x ∷ f) l = absurd (let y : ⊥ = omega arith in y)
