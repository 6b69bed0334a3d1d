-- THE CHILDREN OF A NODE lie side by side, from its first child on, with rising labels: the numbers
-- go breadth-first and rise on one level, so a later node has no earlier parent, and the children
-- of the nodes below n are the nodes after the root and before the first child of n.
use Rattle.std.specs.Prelude.{◌≡◌, ◌⊎◌, ◌&&◌, ◌∷◌, ◌++◌, ◌+◌, ◌-◌, ◌≤◌, ◌<◌}
use Rattle.lists.proofs.Prelude.{◌∙◌, ap, sym, subst, inl, inr, Bool, List, [], ℕ, zero, suc, pred, T, eqb}
use Rattle.lists.proofs.Prelude.{eqb→eq, length, get_or, take, length-append, length-take-le, take-suc, take_all, take-append_seam, le_refl, dec_lt}
use Rattle.lists.proofs.Prelude.{arith, eq-eqb}
use Rattle.lists.proofs.Prelude.{sub-one, select, same, refl, before}
use Rattle.lists.proofs.Tests.{T-true, and_split, and_join}
use Rattle.lists.proofs.Same.{same_eq, eq_same}
use Rattle.lists.proofs.Select.{Run, select-Run}
use Rattle.pattern_set.specs.PatternSet.{PatternSet, good_set}
use Rattle.matching.specs.Matching.{is_head}
use Rattle.matching.proofs.Heads.{head_shorter}
use Rattle.automaton_model.specs.Automaton.{nodes, head_of, node_of, children, first_child}
use Rattle.lists.proofs.Before.{before-take, before_unappend, before_cases, before-nil}
use Rattle.automaton_model.proofs.Nodes.{Earlier, head_node, node_head, node_root, node_longer, nodes_rise, Earlier-node, Earlier-smaller}

-- ---- parents

-- is g the list h with one distance more
abbrev pub is_child : List ℕ → List ℕ → Bool
is_child h g = eqb (length g) (suc (length h)) && same (take (length h) g) h

-- a list without its last distance
abbrev pub parent_of : List ℕ → List ℕ
parent_of g = take (pred (length g)) g

length-parent_of : (g : List ℕ) → length (parent_of g) ≡ pred (length g)
length-parent_of g = length-take-le (pred (length g)) g (omega arith)

pub child_parent : (h g : List ℕ) → T (is_child h g) → (0 < length g) × (parent_of g ≡ h)
child_parent h g t =
    let p = and_split (eqb (length g) (suc (length h))) (same (take (length h) g) h) t in
    let l = eqb→eq (length g) (suc (length h)) p.0 in
    let q : pred (length g) ≡ length h = omega arith in
    (omega arith, ap (λ (k : ℕ). take k g) q ∙ same_eq (take (length h) g) h p.1)

pub parent_child : (h g : List ℕ) → 0 < length g → parent_of g ≡ h → T (is_child h g)
parent_child h g z e =
    let k : length h ≡ pred (length g) = sym (ap length e) ∙ length-parent_of g in
    and_join (eqb (length g) (suc (length h))) (same (take (length h) g) h)
    (T-true (eqb (length g) (suc (length h))) (eq-eqb (length g) (suc (length h)) (omega arith)))
    (eq_same (take (length h) g) h (ap (λ (k : ℕ). take k g) k ∙ e))

-- a child is its parent and its label
pub child_is : (h g : List ℕ) → T (is_child h g) → g ≡ h ++ (get_or g (length h) 0 ∷ [])
child_is h g t =
    let p = and_split (eqb (length g) (suc (length h))) (same (take (length h) g) h) t in
    let l = eqb→eq (length g) (suc (length h)) p.0 in
    sym (take_all (suc (length h)) g (omega arith)) ∙ take-suc g (length h) 0 (omega arith)
    ∙ ap (λ (k : List ℕ). k ++ (get_or g (length h) 0 ∷ [])) (same_eq (take (length h) g) h p.1)

pub is_child_lem : (h : List ℕ) (v : ℕ) → T (is_child h (h ++ (v ∷ [])))
is_child_lem h v =
    and_join (eqb (length (h ++ (v ∷ []))) (suc (length h))) (same (take (length h) (h ++ (v ∷ []))) h)
    (T-true (eqb (length (h ++ (v ∷ []))) (suc (length h))) (eq-eqb (length (h ++ (v ∷ []))) (suc (length h)) (length-append h (v ∷ []) ∙ (omega arith))))
    (eq_same (take (length h) (h ++ (v ∷ []))) h (take-append_seam h (v ∷ [])))

-- the parents of two lists in the order of the nodes are equal, or in it too
parents-Earlier : (g h : List ℕ) → 0 < length g → Earlier g h → Earlier (parent_of g) (parent_of h) ⊎ (parent_of g ≡ parent_of h)
parents-Earlier g h z (inl l) = inl (inl (rw (length-parent_of g, length-parent_of h) (omega arith)))
parents-Earlier g h z (inr p) = go (before-take (pred (length g)) g h p.1)
  where
    q : take (pred (length g)) h ≡ parent_of h
    q = ap (λ (k : ℕ). take (pred k) h) p.0

    go : T (before (parent_of g) (take (pred (length g)) h)) ⊎ (parent_of g ≡ take (pred (length g)) h)
        → Earlier (parent_of g) (parent_of h) ⊎ (parent_of g ≡ parent_of h)
    go (inl t) = inl (inr (length-parent_of g ∙ ap pred p.0 ∙ sym (length-parent_of h), subst (λ (l : List ℕ). T (before (parent_of g) l)) q t))
    go (inr e) = inr (e ∙ q)

-- ---- the numbers of the parents

-- the number of the parent of node c
abbrev pub parent_node : PatternSet → ℕ → ℕ
parent_node ps c = node_of ps (parent_of (head_of ps c))

-- the first child of a later node is behind the children of a node
pub first_child_rises : (ps : PatternSet) (m n : ℕ) → m < n → first_child ps m + children ps m ≤ first_child ps n
unfolding first_child
first_child_rises ps m zero h = absurd (let y : ⊥ = omega arith in y)
first_child_rises ps m (suc n) h = go (dec_lt m n) (first_child_rises ps m n)
  where
    go : Dec (m < n) → (m < n → first_child ps m + children ps m ≤ first_child ps n) → first_child ps m + children ps m ≤ first_child ps n + children ps n
    go (yes d) ih = let r = ih d in omega arith
    go (no f) ih =
        let e : m ≡ n = omega arith in
        omega (arith, ap (first_child ps) e, ap (children ps) e)

-- so the children of a later node reach further
pub children_rise : (ps : PatternSet) (m n : ℕ) → m ≤ n → first_child ps m + children ps m ≤ first_child ps n + children ps n
unfolding first_child
children_rise ps m n h = first_child_rises ps m (suc n) (omega arith)

-- the first child by the node before
pub first_child_next : (ps : PatternSet) (n : ℕ) → 0 < n → first_child ps (n - 1) + children ps (n - 1) ≡ first_child ps n
unfolding first_child
first_child_next ps zero h = absurd (let y : ⊥ = omega arith in y)
first_child_next ps (suc n) h = rw sub-one refl

module _ (ps : PatternSet) (g : T (good_set ps)) (z : 0 < length ps) where
  parent_is_head : (c : ℕ) → c < length (nodes ps) → T (is_head ps (parent_of (head_of ps c)))
  parent_is_head c h = head_shorter ps (head_of ps c) (pred (length (head_of ps c))) (node_head ps c h).0

  pub parent_node-lt : (c : ℕ) → c < length (nodes ps) → parent_node ps c < length (nodes ps)
  parent_node-lt c h = (head_node ps g (parent_of (head_of ps c)) (parent_is_head c h)).0

  -- a later node has no earlier parent
  parent_node_rises : (c e : ℕ) → 0 < c → c < e → e < length (nodes ps) → parent_node ps c ≤ parent_node ps e
  parent_node_rises c e h k l = go (parents-Earlier (head_of ps c) (head_of ps e) (node_longer ps g z c h (omega arith)) (nodes_rise ps c e k l))
    where
      go : Earlier (parent_of (head_of ps c)) (parent_of (head_of ps e)) ⊎ (parent_of (head_of ps c) ≡ parent_of (head_of ps e))
          → parent_node ps c ≤ parent_node ps e
      go (inl r) =
          let q = Earlier-node ps g (parent_of (head_of ps c)) (parent_of (head_of ps e)) (parent_is_head c (omega arith)) (parent_is_head e l) r in
          omega arith
      go (inr q) = let s : parent_node ps c ≡ parent_node ps e = ap (node_of ps) q in omega arith

  -- a node is a child of the node with its parent's number, and of no other
  pub child_node_parent : (n c : ℕ) → n < length (nodes ps) → c < length (nodes ps) → T (is_child (head_of ps n) (head_of ps c)) → (0 < c)
      × (parent_node ps c ≡ n)
  child_node_parent n c h k t =
      let p = child_parent (head_of ps n) (head_of ps c) t in
      (positive c p.0, ap (node_of ps) p.1 ∙ (node_head ps n h).1)
    where
      positive : (c : ℕ) → 0 < length (head_of ps c) → 0 < c
      positive zero l = absurd (let y : ⊥ = omega (arith, ap length (node_root ps g z).0) in y)
      positive (suc c) l = omega arith

  pub parent_node_child : (c : ℕ) → 0 < c → c < length (nodes ps) → T (is_child (head_of ps (parent_node ps c)) (head_of ps c))
  parent_node_child c h k =
      parent_child (head_of ps (parent_node ps c)) (head_of ps c) (node_longer ps g z c h k)
      (sym (head_node ps g (parent_of (head_of ps c)) (parent_is_head c k)).1)

  -- ---- first children

  -- the nodes before the first child of n are the root and the children of the nodes below n
  record Numbered (n : ℕ) : Type 0 where
    within : first_child ps n ≤ length (nodes ps)
    positive : 0 < first_child ps n
    below : (c : ℕ) → 0 < c → c < first_child ps n → parent_node ps c < n
    above : (c : ℕ) → first_child ps n ≤ c → c < length (nodes ps) → n ≤ parent_node ps c

  -- those of n are those from there on
  children-Run : (n : ℕ) → n < length (nodes ps) → Numbered n
      → Run (is_child (head_of ps n)) (nodes ps) [] (first_child ps n) (select (is_child (head_of ps n)) (nodes ps))
  children-Run n h r =
      select-Run (is_child (head_of ps n)) (nodes ps) [] (first_child ps n) r.within
      (λ i l t.
      let p = child_node_parent n i h (omega (arith, r.within)) t in
      omega (arith, r.below i p.0 l, p.1))
      (λ i j l k m t.
      let p = child_node_parent n j h m t in
      let b = r.positive in
      let a = r.above i l (omega arith) in
      let q = parent_node_rises i j (omega arith) k m in
      let e : parent_node ps i ≡ n = omega (arith, p.1) in
      subst (λ (k : ℕ). T (is_child (head_of ps k) (head_of ps i))) e (parent_node_child i (omega arith) (omega arith)))

  numbered : (n : ℕ) → n ≤ length (nodes ps) → Numbered n
  unfolding first_child children
  numbered zero h = record { within = omega (arith, (node_root ps g z).2); positive = omega arith; below = λ c l k. omega arith; above = λ c l k. omega arith }
  numbered (suc n) h = go (numbered n (omega arith))
    where
      go : Numbered n → Numbered (suc n)
      go r =
          let s = children-Run n h r in
          record {
            within = s.within;
            positive = omega (arith, r.positive);
            below = λ c l k. under c l k s (dec_lt c (first_child ps n));
            above = λ c l k. over c l k s (dec_lt (parent_node ps c) (suc n));
          }
        where
          under : (c : ℕ) → 0 < c → c < first_child ps (suc n)
              → Run (is_child (head_of ps n)) (nodes ps) [] (first_child ps n) (select (is_child (head_of ps n)) (nodes ps)) → Dec (c < first_child ps n)
              → parent_node ps c < suc n
          under c l k s (yes d) = let b = r.below c l d in omega arith
          under c l k s (no f) =
              let w = s.within in
              let p = child_node_parent n c h (omega arith) (s.pass c (omega arith) k) in
              omega (arith, p.1)

          over : (c : ℕ) → first_child ps (suc n) ≤ c → c < length (nodes ps)
              → Run (is_child (head_of ps n)) (nodes ps) [] (first_child ps n) (select (is_child (head_of ps n)) (nodes ps))
              → Dec (parent_node ps c < suc n) → suc n ≤ parent_node ps c
          over c l k s (yes d) =
              let a = r.above c (omega arith) k in
              let e : parent_node ps c ≡ n = omega arith in
              let b = r.positive in
              absurd (s.fail c l k (subst (λ (k : ℕ). T (is_child (head_of ps k) (head_of ps c))) e (parent_node_child c (omega arith) k)))
          over c l k s (no f) = omega arith

  -- ---- THE CHILDREN

  -- the numbers from the first child on are nodes, and have the head of the node and a label
  pub child_head_lem : (n : ℕ) → n < length (nodes ps) → (c : ℕ) → first_child ps n ≤ c → c < first_child ps n + children ps n
      → (c < length (nodes ps)) × (head_of ps c ≡ head_of ps n ++ (get_or (head_of ps c) (length (head_of ps n)) 0 ∷ []))
  unfolding children
  child_head_lem n h c l k =
      let s = children-Run n h (numbered n (omega arith)) in
      (omega (arith, s.within), child_is (head_of ps n) (head_of ps c) (s.pass c l k))

  -- the labels rise
  pub child_labels_rise : (n : ℕ) → n < length (nodes ps) → (c e : ℕ) → first_child ps n ≤ c → c < e → e < first_child ps n + children ps n
      → get_or (head_of ps c) (length (head_of ps n)) 0 < get_or (head_of ps e) (length (head_of ps n)) 0
  child_labels_rise n h c e l k m =
      let p = child_head_lem n h c l (omega arith) in
      let q = child_head_lem n h e (omega arith) m in
      go (get_or (head_of ps c) (length (head_of ps n)) 0) (get_or (head_of ps e) (length (head_of ps n)) 0) p.1 q.1 (nodes_rise ps c e k q.0)
    where
      go : (v w : ℕ) → head_of ps c ≡ head_of ps n ++ (v ∷ []) → head_of ps e ≡ head_of ps n ++ (w ∷ []) → Earlier (head_of ps c) (head_of ps e) → v < w
      go v w p q (inl r) = omega (arith, ap length p, ap length q, length-append (head_of ps n) (v ∷ []), length-append (head_of ps n) (w ∷ []))
      go v w p q (inr r) =
          let s : T (before (head_of ps n ++ (v ∷ [])) (head_of ps n ++ (w ∷ []))) =
          subst (λ (a : List ℕ). T (before a (head_of ps n ++ (w ∷ [])))) p (subst (λ (a : List ℕ). T (before (head_of ps c) a)) q r.1) in
          last (before_cases v [] w [] (before_unappend (head_of ps n) (v ∷ []) (w ∷ []) s))
        where
          last : (v < w) ⊎ ((v ≡ w) × T (before [] [])) → v < w
          last (inl y) = y
          last (inr y) = absurd (before-nil [] y.1)

  -- every head that goes on from the node's is among them
  pub child_number : (n : ℕ) → n < length (nodes ps) → (v : ℕ) → T (is_head ps (head_of ps n ++ (v ∷ [])))
      → (first_child ps n ≤ node_of ps (head_of ps n ++ (v ∷ []))) × (node_of ps (head_of ps n ++ (v ∷ [])) < first_child ps n + children ps n)
  unfolding children
  child_number n h v t =
      let r = numbered n (omega arith) in
      let s = children-Run n h r in
      let p = head_node ps g (head_of ps n ++ (v ∷ [])) t in
      let i = subst (λ (l : List ℕ). T (is_child (head_of ps n) l)) (sym p.1) (is_child_lem (head_of ps n) v) in
      let q = child_node_parent n (node_of ps (head_of ps n ++ (v ∷ []))) h p.0 i in
      let c = node_of ps (head_of ps n ++ (v ∷ [])) in
      (from c p.0 q.0 q.1 r (dec_lt c (first_child ps n)), to c p.0 i s (dec_lt c (first_child ps n + children ps n)))
    where
      from : (c : ℕ) → c < length (nodes ps) → 0 < c → parent_node ps c ≡ n → Numbered n → Dec (c < first_child ps n) → first_child ps n ≤ c
      from c k l e r (yes d) = let b = r.below c l d in omega arith
      from c k l e r (no f) = omega arith

      to : (c : ℕ) → c < length (nodes ps) → T (is_child (head_of ps n) (head_of ps c))
          → Run (is_child (head_of ps n)) (nodes ps) [] (first_child ps n) (select (is_child (head_of ps n)) (nodes ps))
          → Dec (c < first_child ps n + children ps n) → c < first_child ps n + children ps n
      to c k i s (yes d) = d
      to c k i s (no f) = absurd (s.fail c (omega arith) k i)

  -- the first child of a node, or the place where it would be, is a number up to that of the nodes
  pub first_child_within : (n : ℕ) → n ≤ length (nodes ps) → (0 < first_child ps n) × (first_child ps n ≤ length (nodes ps))
  first_child_within n h = let r = numbered n h in (r.positive, r.within)

  -- the children of a node are nodes
  pub children_within : (n : ℕ) → n < length (nodes ps) → first_child ps n + children ps n ≤ length (nodes ps)
  unfolding first_child
  children_within n h = (first_child_within (suc n) h).1

  -- a child has the greater number
  pub child_larger : (n : ℕ) → n < length (nodes ps) → (c : ℕ) → first_child ps n ≤ c → c < first_child ps n + children ps n → n < c
  child_larger n h c l k =
      let p = child_head_lem n h c l k in
      Earlier-smaller ps n c h p.0
      (inl (omega (arith, ap length p.1, length-append (head_of ps n) (get_or (head_of ps c) (length (head_of ps n)) 0 ∷ []))))

  -- the nodes are all the children and the root
  pub first_child_last : first_child ps (length (nodes ps)) ≡ length (nodes ps)
  first_child_last = let r = numbered (length (nodes ps)) (le_refl (length (nodes ps))) in go r
      (dec_lt (first_child ps (length (nodes ps))) (length (nodes ps)))
    where
      go : Numbered (length (nodes ps)) → Dec (first_child ps (length (nodes ps)) < length (nodes ps)) → first_child ps (length (nodes ps)) ≡ length (nodes ps)
      go r (yes d) =
          let c = first_child ps (length (nodes ps)) in
          let a = r.above c (le_refl c) d in
          let b = parent_node-lt c d in
          absurd (let y : ⊥ = omega arith in y)
      go r (no f) = omega (arith, r.within)
