-- THE WALK OF A STEP along the failure links, node by node: what is left of the step is the step
-- from the present node, and each link costs one attempt.
use Rattle.std.specs.Prelude.{◌≡◌, ◌∷◌, ◌++◌, ◌+◌, ◌/◌, ◌%◌, ◌≤◌, ◌<◌}
use Rattle.lists.proofs.Prelude.{◌∙◌, ap, sym, refl, Bool, true, false, cond, List, [], ℕ, suc, T, length, arith}
use Rattle.lists.proofs.Prelude.{le_refl}
use Rattle.lists.proofs.Tests.{T-true}
use Rattle.lists.proofs.Parts.{length_snoc}
use Rattle.cartesian.specs.Cartesian.{cut}
use Rattle.pattern_set.specs.PatternSet.{PatternSet, good_set}
use Rattle.matching.specs.Matching.{is_head, failure}
use Rattle.automaton_model.specs.Automaton.{nodes, head_of, node_of, first_child, children, advance, entry_of}
use Rattle.automaton_model.proofs.Nodes.{head_node, node_head, node_root, head_length, failure_head, failure_shorter, failure_smaller}
use Rattle.automaton_model.proofs.Children.{children_rise}
use Rattle.automaton_model.proofs.Advance.{missing_longer, advance_there, advance_missing, advance-Bounded}
use Rattle.automaton_model.proofs.Steps.{cut_within, cut_outside, entry_parts, entry_cut}
use Rattle.automaton_lookup.specs.Made.{child_of}
use Rattle.automaton_lookup.specs.Reached.{Reached}

-- the label of the child that the step of distance d looks for at a node
abbrev pub label_for : PatternSet → ℕ → ℕ → ℕ
label_for ps n d = cut (length (head_of ps n)) d

pub cut_kept : (n m d : ℕ) → m ≡ n → d ≤ m → d ≡ cut n d
cut_kept n m d e h = sym (cut_within n d (omega arith))

pub cut_above : (n m d : ℕ) → m ≡ n → m < d → 0 ≡ cut n d
cut_above n m d e h = sym (cut_outside n d (omega arith))

-- the step of distance d from node n is, after so many attempts that missed, that from node `at`
pub record Walk (ps : PatternSet) (n d at missed : ℕ) : Type 0 where
  -- the links lead to smaller numbers
  pub within : at ≤ n
  pub node : (advance ps (head_of ps n) d).0 ≡ (advance ps (head_of ps at) d).0
  pub attempts : (advance ps (head_of ps n) d).1 ≡ missed + (advance ps (head_of ps at) d).1
  -- and to shorter heads
  pub small : missed + length (head_of ps at) ≤ 256

module _ (ps : PatternSet) (g : T (good_set ps)) (z : 0 < length ps) where
  -- ---- what a look-up tells

  lookup_missing : (n v : ℕ) → child_of ps n v ≡ 0 → is_head ps (head_of ps n ++ (v ∷ [])) ≡ false
  unfolding child_of
  lookup_missing n v e = go (is_head ps (head_of ps n ++ (v ∷ []))) refl e
    where
      go : (b : Bool) → is_head ps (head_of ps n ++ (v ∷ [])) ≡ b → cond b (node_of ps (head_of ps n ++ (v ∷ []))) 0 ≡ 0 → b ≡ false
      go true t q =
          let p = head_node ps g (head_of ps n ++ (v ∷ [])) (T-true (is_head ps (head_of ps n ++ (v ∷ []))) t) in
          let r : head_of ps n ++ (v ∷ []) ≡ [] = sym p.1 ∙ ap (head_of ps) q ∙ (node_root ps g z).0 in
          absurd (let y : ⊥ = omega (arith, ap length r, length_snoc (head_of ps n) v) in y)
      go false t q = refl

  lookup_there : (n v : ℕ) → (child_of ps n v ≡ 0 → ⊥) → (is_head ps (head_of ps n ++ (v ∷ [])) ≡ true)
      × (child_of ps n v ≡ node_of ps (head_of ps n ++ (v ∷ [])))
  unfolding child_of
  lookup_there n v f = go (is_head ps (head_of ps n ++ (v ∷ []))) f
    where
      go : (b : Bool) → (cond b (node_of ps (head_of ps n ++ (v ∷ []))) 0 ≡ 0 → ⊥)
          → (b ≡ true) × (cond b (node_of ps (head_of ps n ++ (v ∷ []))) 0 ≡ node_of ps (head_of ps n ++ (v ∷ [])))
      go true f = (refl, refl)
      go false f = absurd (f refl)

  -- ---- the walk from node n

  module _ (n d : ℕ) (h : n < length (nodes ps)) where
    pub Walk-start : Walk ps n d n 0
    Walk-start =
        record { within = le_refl n; node = refl; attempts = omega arith; small = omega (arith, head_length ps g (head_of ps n) (node_head ps n h).0) }

    -- the children of a node on the way are made where those of the first are
    pub Walk-children : (at missed made : ℕ) → Walk ps n d at missed → first_child ps n + children ps n ≤ made → first_child ps at + children ps at ≤ made
    Walk-children at missed made w l = let r = children_rise ps at n w.within in omega arith

    -- the child is missing: the failure link
    pub Walk-on : (at missed next f : ℕ) → Walk ps n d at missed → next ≡ child_of ps at (label_for ps at d) → next ≡ 0
        → f ≡ node_of ps (failure ps (head_of ps at))
        → Walk ps n d f (missed + 1) × (f < at)
    Walk-on at missed next f w e q p =
        let u = head_of ps at in
        let i : at < length (nodes ps) = omega (arith, w.within) in
        let m = lookup_missing at (label_for ps at d) (sym e ∙ q) in
        let l = missing_longer ps g z d u m in
        let k = (failure_head ps g at f i p).1 in
        let a : advance ps u d ≡ ((advance ps (head_of ps f) d).0, suc (advance ps (head_of ps f) d).1) =
        advance_missing ps g z d u m ∙ ap (λ (v : List ℕ). ((advance ps v d).0, suc (advance ps v d).1)) (sym k) in
        let b : (advance ps u d).1 ≡ suc (advance ps (head_of ps f) d).1 = ap (λ (x : List ℕ × ℕ). x.1) a in
        let s : f < at = omega (arith, failure_smaller ps g at i l) in (
          record {
            within = omega (arith, w.within);
            node = w.node ∙ ap (λ (x : List ℕ × ℕ). x.0) a;
            attempts = omega (arith, w.attempts);
            small = omega (arith, w.small, ap length k, failure_shorter ps u l);
          },
          s,
        )

    -- the child is there: the step ends
    pub Walk-end : (at missed next : ℕ) → Walk ps n d at missed → next ≡ child_of ps at (label_for ps at d) → (next ≡ 0 → ⊥) → Reached ps n d next (missed + 1)
    Walk-end at missed next w e f =
        let t = lookup_there at (label_for ps at d) (λ q. f (e ∙ q)) in
        let a = advance_there ps g z d (head_of ps at) t.0 in
        let b : (advance ps (head_of ps at) d).1 ≡ 1 = ap (λ (x : List ℕ × ℕ). x.1) a in
        record {
          node = e ∙ t.1 ∙ ap (node_of ps) (sym (w.node ∙ ap (λ (x : List ℕ × ℕ). x.0) a));
          attempts = omega (arith, w.attempts);
        }

    -- the row has the rest of the way
    pub Walk-row : (at missed e : ℕ) → Walk ps n d at missed → (x : ℕ) → x ≡ label_for ps at d → e ≡ entry_of ps at x
        → Reached ps n d (e % 65536) (missed + e / 65536)
    Walk-row at missed e w x l q =
        let r : e ≡ entry_of ps at d = q ∙ ap (entry_of ps at) l ∙ sym (entry_cut ps g z at d) in
        let p = entry_parts ps g z at d in
        record {
          node = ap (λ (v : ℕ). v % 65536) r ∙ p.0 ∙ ap (node_of ps) (sym w.node);
          attempts = ap (λ (v : ℕ). missed + v / 65536) r ∙ (omega (arith, p.1, w.attempts));
        }

  -- ---- what is reached

  module _ (d : ℕ) where
    -- THE NODE REACHED is one of the automaton, and its head is at most one distance longer; the
    -- attempts are at most one more than the head had distances
    pub Reached-within : (n m a : ℕ) → Reached ps n d m a
        → (m < length (nodes ps)) × (head_of ps m ≡ (advance ps (head_of ps n) d).0) × (length (head_of ps m) ≤ length (head_of ps n) + 1) × (0 < a) ×
        (a + length (head_of ps m) ≤ length (head_of ps n) + 2) × (a ≤ length (head_of ps n) + 1)
    Reached-within n m a r =
        let b = advance-Bounded ps g z d (head_of ps n) in
        let p = head_node ps g (advance ps (head_of ps n) d).0 b.head in
        let e : head_of ps m ≡ (advance ps (head_of ps n) d).0 = ap (head_of ps) r.node ∙ p.1 in
        let l = ap length e in
        let a = r.attempts in
        let s = b.attempts in
        (omega (arith, r.node, p.0), e, omega (arith, b.within), omega (arith, b.positive), omega arith, omega (arith, b.longer))

    -- so they are at most 257
    pub attempts_few : (n m a : ℕ) → n < length (nodes ps) → Reached ps n d m a → a ≤ 257
    attempts_few n m a h r = omega (arith, (Reached-within n m a r).5, head_length ps g (head_of ps n) (node_head ps n h).0)
