-- WHAT A STEP FINDS, as one word: an entry of a row. A distance that leads out of the window is as
-- good as 0. Where the child is there the entry is the child and one attempt; where it is missing
-- it is the entry of the failure link and one attempt more; from the root every step leads to node
-- 1.
use Rattle.std.specs.Prelude.{◌≡◌, ◌⊎◌, ◌∷◌, ◌++◌, ◌+◌, ◌*◌, ◌/◌, ◌%◌, ◌≤◌, ◌<◌}
use Rattle.lists.proofs.Prelude.{◌∙◌, ap, sym, refl, subst, inl, inr, Bool, true, false, List, [], ℕ, zero, suc}
use Rattle.lists.proofs.Prelude.{T, length, take_all, le_refl, dec_lt, arith, le-leb, lt-leb, before}
use Rattle.lists.proofs.Before.{before_irrefl}
use Rattle.cartesian.specs.Cartesian.{cut}
use Rattle.pattern_set.specs.PatternSet.{PatternSet, good_set}
use Rattle.pattern_set.proofs.Good.{good_set_parts}
use Rattle.matching.specs.Matching.{is_head, failure}
use Rattle.automaton_model.specs.Automaton.{nodes, head_of, node_of, extended, advance_within, advance, entry_of}
use Rattle.automaton_model.proofs.Nodes.{head_node, node_head, node_root, node_longer, nodes_rise, head_length, head_realizable, failure_head}
use Rattle.automaton_model.proofs.Nodes.{failure_shorter}
use Rattle.automaton_model.proofs.Chains.{first_zero, zero-is_head}
use Rattle.automaton_model.proofs.Lengths.{length-nodes}
use Rattle.automaton_model.proofs.Advance.{cut-zero, advance_stops, advance_falls, missing_longer, root_child, advance_there, advance_missing}
use Rattle.automaton_model.proofs.Advance.{advance-Bounded}

-- ---- a distance cut to the window

pub cut_within : (n d : ℕ) → d ≤ n → cut n d ≡ d
cut_within n d h = simp (le-leb d n h)

pub cut_outside : (n d : ℕ) → n < d → cut n d ≡ 0
cut_outside n d h = simp (lt-leb d n h)

-- cut to a window, and then to a shorter one
cut_twice : (n m d : ℕ) → m ≤ n → cut m d ≡ cut m (cut n d)
cut_twice n m d h = go (dec_lt n d)
  where
    go : Dec (n < d) → cut m d ≡ cut m (cut n d)
    go (yes l) = cut_outside m d (omega arith) ∙ sym (ap (cut m) (cut_outside n d l) ∙ cut_within m 0 (omega arith))
    go (no f) = ap (cut m) (sym (cut_within n d (omega arith)))

-- ---- the steps of a good set

module _ (ps : PatternSet) (g : T (good_set ps)) (z : 0 < length ps) where
  -- distances that are the same in every window up to that of the head lead to the same
  same_within : (n d e : ℕ) (h : List ℕ) → length h ≤ n → ((m : ℕ) → m ≤ length h → cut m d ≡ cut m e) → advance_within n ps h d ≡ advance_within n ps h e
  same_within zero d e h l f = advance_stops ps g z d 0 h (root_child ps g z d h l) ∙ ap (λ (v : ℕ). (h ++ (v ∷ []), 1)) (f (length h) (le_refl (length h)))
      ∙ sym (advance_stops ps g z e 0 h (root_child ps g z e h l))
  same_within (suc n) d e h l f = go (is_head ps (extended h d)) refl (same_within n d e (failure ps h))
    where
      q : extended h d ≡ extended h e
      q = ap (λ (v : ℕ). h ++ (v ∷ [])) (f (length h) (le_refl (length h)))

      go : (b : Bool) → is_head ps (extended h d) ≡ b
          → (length (failure ps h) ≤ n → ((m : ℕ) → m ≤ length (failure ps h) → cut m d ≡ cut m e)
          → advance_within n ps (failure ps h) d ≡ advance_within n ps (failure ps h) e)
          → advance_within (suc n) ps h d ≡ advance_within (suc n) ps h e
      go true t ih =
          advance_stops ps g z d (suc n) h t ∙ ap (λ (l : List ℕ). (l, 1)) q ∙ sym (advance_stops ps g z e (suc n) h (ap (is_head ps) (sym q) ∙ t))
      go false t ih =
          let s = failure_shorter ps h (missing_longer ps g z d h t) in
          advance_falls ps g z d n h t
          ∙ ap (λ (r : List ℕ × ℕ). (r.0, suc r.1)) (ih (omega arith) (λ m k. f m (omega arith)))
          ∙ sym (advance_falls ps g z e n h (ap (is_head ps) (sym q) ∙ t))

  -- A DISTANCE THAT LEADS OUT OF THE WINDOW is as good as 0
  pub advance-cut : (h : List ℕ) (d : ℕ) → advance ps h d ≡ advance ps h (cut (length h) d)
  advance-cut h d = same_within (length h) d (cut (length h) d) h (le_refl (length h)) (λ m l. cut_twice (length h) m d l)

  -- ---- the parts of an entry

  -- the node that a step leads to, and its attempts
  abbrev reached : ℕ → ℕ → ℕ
  reached n d = node_of ps (advance ps (head_of ps n) d).0

  abbrev attempts : ℕ → ℕ → ℕ
  attempts n d = (advance ps (head_of ps n) d).1

  pub reached_node : (n d : ℕ) → (reached n d < length (nodes ps)) × (length (nodes ps) ≤ 4097)
  reached_node n d = (
    (head_node ps g (advance ps (head_of ps n) d).0 (advance-Bounded ps g z d (head_of ps n)).head).0,
    omega (arith, length-nodes ps, (good_set_parts ps g).1),
  )

  pub entry_parts : (n d : ℕ) → (entry_of ps n d % 65536 ≡ reached n d) × (entry_of ps n d / 65536 ≡ attempts n d)
  unfolding entry_of
  entry_parts n d = let r = reached_node n d in (omega (arith, r.0, r.1), omega (arith, r.0, r.1))

  -- a node is at most 256 deep, so that a step from it has at most 257 attempts
  pub entry_small : (n d : ℕ) → n < length (nodes ps) → entry_of ps n d ≤ 16847105
  unfolding entry_of
  entry_small n d h =
      let r = reached_node n d in
      let b = advance-Bounded ps g z d (head_of ps n) in
      omega (arith, r.0, r.1, b.attempts, b.longer, head_length ps g (head_of ps n) (node_head ps n h).0)

  -- ---- where a step leads

  -- node 1 is the head of one distance
  node_first : node_of ps (0 ∷ []) ≡ 1
  node_first =
      let p = head_node ps g (0 ∷ []) (zero-is_head ps g z) in
      go (node_of ps (0 ∷ [])) p.0 p.1 (dec_lt 1 (node_of ps (0 ∷ [])))
    where
      rise : (m : ℕ) → head_of ps m ≡ 0 ∷ [] → 0 < length (head_of ps 1) → T (is_head ps (head_of ps 1))
          → (length (head_of ps 1) < length (head_of ps m)) ⊎ ((length (head_of ps 1) ≡ length (head_of ps m)) × T (before (head_of ps 1) (head_of ps m))) → ⊥
      rise m e l t (inl s) = omega (arith, ap length e)
      rise m e l t (inr s) =
          let one : length (head_of ps 1) ≡ 1 = s.0 ∙ ap length e in
          let q : head_of ps 1 ≡ head_of ps m =
          sym (take_all 1 (head_of ps 1) (omega arith)) ∙ first_zero (head_of ps 1) (head_realizable ps g (head_of ps 1) t) l ∙ sym e in
          before_irrefl (head_of ps m) (subst (λ (k : List ℕ). T (before k (head_of ps m))) q s.1)

      go : (m : ℕ) → m < length (nodes ps) → head_of ps m ≡ 0 ∷ [] → Dec (1 < m) → m ≡ 1
      go zero h e d = absurd (let y : ⊥ = omega (arith, ap length (sym (node_root ps g z).0 ∙ e)) in y)
      go (suc m) h e (no f) = omega arith
      go (suc m) h e (yes l) =
          let i : 1 < length (nodes ps) = omega arith in
          absurd (rise (suc m) e (node_longer ps g z 1 (omega arith) i) (node_head ps 1 i).0 (nodes_rise ps 1 (suc m) l h))

  -- FROM THE ROOT every step leads to node 1 at the first attempt
  pub entry_root : (d : ℕ) → entry_of ps 0 d ≡ 65537
  unfolding entry_of
  entry_root d =
      let r = (node_root ps g z).0 in
      let a : advance ps (head_of ps 0) d ≡ (0 ∷ [], 1) =
      ap (λ (h : List ℕ). advance ps h d) r
      ∙ advance_there ps g z d [] (root_child ps g z d [] (le_refl 0))
      ∙ ap (λ (v : ℕ). (v ∷ [], 1)) (cut-zero d) in
      let p : reached 0 d ≡ 1 = ap (λ (x : List ℕ × ℕ). node_of ps x.0) a ∙ node_first in
      omega (arith, p, ap (λ (x : List ℕ × ℕ). x.1) a)

  module _ (n d : ℕ) where
    -- THE DISTANCE LEADS OUT of the window
    pub entry_cut : entry_of ps n d ≡ entry_of ps n (cut (length (head_of ps n)) d)
    unfolding entry_of
    entry_cut = ap (λ (r : List ℕ × ℕ). node_of ps r.0 + 65536 * r.1) (advance-cut (head_of ps n) d)

    module _ (w : d ≤ length (head_of ps n)) where
      -- THE CHILD IS THERE
      pub entry_child : is_head ps (head_of ps n ++ (d ∷ [])) ≡ true → entry_of ps n d ≡ node_of ps (head_of ps n ++ (d ∷ [])) + 65536
      unfolding entry_of
      entry_child e =
          let h = head_of ps n in
          let x : extended h d ≡ h ++ (d ∷ []) = ap (λ (v : ℕ). h ++ (v ∷ [])) (cut_within (length h) d w) in
          let a = advance_there ps g z d h (ap (is_head ps) x ∙ e) ∙ ap (λ (l : List ℕ). (l, 1)) x in
          ap (λ (r : List ℕ × ℕ). node_of ps r.0 + 65536 * r.1) a

      -- THE CHILD IS MISSING
      pub entry_missing : is_head ps (head_of ps n ++ (d ∷ [])) ≡ false → n < length (nodes ps) → (f : ℕ) → f ≡ node_of ps (failure ps (head_of ps n))
          → entry_of ps n d ≡ entry_of ps f d + 65536
      unfolding entry_of
      entry_missing e k f p =
          let h = head_of ps n in
          let x : extended h d ≡ h ++ (d ∷ []) = ap (λ (v : ℕ). h ++ (v ∷ [])) (cut_within (length h) d w) in
          let l = sym (failure_head ps g n f k p).1 in
          let a = advance_missing ps g z d h (ap (is_head ps) x ∙ e) ∙ ap (λ (l : List ℕ). ((advance ps l d).0, suc (advance ps l d).1)) l in
          ap (λ (r : List ℕ × ℕ). node_of ps r.0 + 65536 * r.1) a ∙ (omega arith)
