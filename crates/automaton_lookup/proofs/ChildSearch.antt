-- FINDING A CHILD BY HALVES: the labels of the children rise, so the child of label v lies behind a
-- child of a label at most v or is it, and before a child of a greater label; an interval of one
-- child holds it or there is none.
use Rattle.std.specs.Prelude.{◌≡◌, ◌∷◌, ◌++◌, ◌+◌, ◌-◌, ◌≤◌, ◌<◌}
use Rattle.lists.proofs.Prelude.{◌∙◌, ap, sym, refl, subst, Bool, true, false, cond, List, [], ℕ, T, length, get_or}
use Rattle.lists.proofs.Prelude.{get_or-append_seam, dec_lt, arith}
use Rattle.lists.proofs.Parts.{length_snoc}
use Rattle.pattern_set.specs.PatternSet.{PatternSet, good_set}
use Rattle.matching.specs.Matching.{is_head}
use Rattle.automaton_model.specs.Automaton.{nodes, head_of, node_of, first_child, children}
use Rattle.automaton_model.proofs.Nodes.{head_node, node_head}
use Rattle.automaton_model.proofs.Children.{child_head_lem, child_labels_rise, child_number}
use Rattle.automaton_lookup.specs.Made.{child_of}

-- the last distance of the head of a node
abbrev pub label_of : PatternSet → ℕ → ℕ
label_of ps n = get_or (head_of ps n) (length (head_of ps n) - 1) 0

-- the head that goes on from that of node n with v, and its node
abbrev pub child_head : PatternSet → ℕ → ℕ → List ℕ
child_head ps n v = head_of ps n ++ (v ∷ [])

abbrev pub child_node : PatternSet → ℕ → ℕ → ℕ
child_node ps n v = node_of ps (head_of ps n ++ (v ∷ []))

-- lo to hi - 1 are children of node n, at least one, and the child of label v, if there is one, is
-- among them
pub record Interval (ps : PatternSet) (n v lo hi : ℕ) : Type 0 where
  pub first : first_child ps n ≤ lo
  pub some : lo < hi
  pub last : hi ≤ first_child ps n + children ps n
  pub holds : T (is_head ps (child_head ps n v)) → (lo ≤ child_node ps n v) × (child_node ps n v < hi)

module _ (ps : PatternSet) (g : T (good_set ps)) (z : 0 < length ps) (n : ℕ) (h : n < length (nodes ps)) where
  -- a child's label is the distance that follows the node's head
  child_label : (c : ℕ) → first_child ps n ≤ c → c < first_child ps n + children ps n → label_of ps c ≡ get_or (head_of ps c) (length (head_of ps n)) 0
  child_label c l k =
      let p = child_head_lem ps g z n h c l k in
      let l = length_snoc (head_of ps n) (get_or (head_of ps c) (length (head_of ps n)) 0) in
      let e : length (head_of ps c) - 1 ≡ length (head_of ps n) = omega (arith, ap length p.1) in
      ap (λ (q : ℕ). get_or (head_of ps c) q 0) e

  labels_rise : (c e : ℕ) → first_child ps n ≤ c → c < e → e < first_child ps n + children ps n → label_of ps c < label_of ps e
  labels_rise c e l k m =
      let p = child_labels_rise ps g z n h c e l k m in
      omega (arith, child_label c l (omega arith), child_label e (omega arith) m)

  -- the child of v has the label v
  label_of_child : (v : ℕ) → T (is_head ps (child_head ps n v)) → label_of ps (child_node ps n v) ≡ v
  label_of_child v t =
      let r = child_number ps g z n h v t in
      let e = (head_node ps g (child_head ps n v) t).1 in
      child_label (child_node ps n v) r.0 r.1 ∙ ap (λ (l : List ℕ). get_or l (length (head_of ps n)) 0) e ∙ get_or-append_seam (head_of ps n) v [] 0

  -- a child of label v is that of v
  child_of_label : (v c : ℕ) → first_child ps n ≤ c → c < first_child ps n + children ps n → label_of ps c ≡ v → c ≡ child_of ps n v
  unfolding child_of
  child_of_label v c l k e =
      let p = child_head_lem ps g z n h c l k in
      let q : head_of ps c ≡ child_head ps n v = p.1 ∙ ap (λ (w : ℕ). head_of ps n ++ (w ∷ [])) (sym (child_label c l k) ∙ e) in
      let r = node_head ps c p.0 in
      go (is_head ps (child_head ps n v)) (subst (λ (l : List ℕ). T (is_head ps l)) q r.0) (sym r.1 ∙ ap (node_of ps) q)
    where
      go : (b : Bool) → T b → c ≡ child_node ps n v → c ≡ cond b (child_node ps n v) 0
      go true t e = e
      go false t e = absurd t

  no_child : (v : ℕ) → (T (is_head ps (child_head ps n v)) → ⊥) → 0 ≡ child_of ps n v
  unfolding child_of
  no_child v f = go (is_head ps (child_head ps n v)) f
    where
      go : (b : Bool) → (T b → ⊥) → 0 ≡ cond b (child_node ps n v) 0
      go true f = absurd (f tt)
      go false f = refl

  -- ---- the search

  -- no children, none of label v
  pub search_none : (v : ℕ) → children ps n ≡ 0 → 0 ≡ child_of ps n v
  search_none v e = no_child v (λ t. let r = child_number ps g z n h v t in omega (arith, r.0, r.1))

  -- all children are an interval
  pub search_all : (v lo hi : ℕ) → lo ≡ first_child ps n → hi ≡ first_child ps n + children ps n → lo < hi → Interval ps n v lo hi
  search_all v lo hi p q k =
      record {
        first = omega arith;
        some = k;
        last = omega arith;
        holds = λ t. let r = child_number ps g z n h v t in (omega (arith, r.0), omega (arith, r.1));
      }

  -- the half from a child of a label at most v on
  pub search_upper : (v lo hi mid : ℕ) → Interval ps n v lo hi → lo < mid → mid < hi → label_of ps mid ≤ v → Interval ps n v mid hi
  search_upper v lo hi mid r k l e =
      record { first = omega (arith, r.first); some = l; last = r.last; holds = λ t. (go t (dec_lt (child_node ps n v) mid), (r.holds t).1) }
    where
      go : T (is_head ps (child_head ps n v)) → Dec (child_node ps n v < mid) → mid ≤ child_node ps n v
      go t (yes b) =
          let s = labels_rise (child_node ps n v) mid (child_number ps g z n h v t).0 b (omega (arith, r.last)) in
          omega (arith, label_of_child v t)
      go t (no b) = omega arith

  -- the half before a child of a greater label
  pub search_lower : (v lo hi mid : ℕ) → Interval ps n v lo hi → lo < mid → mid < hi → v < label_of ps mid → Interval ps n v lo mid
  search_lower v lo hi mid r k l e =
      record {
        first = r.first;
        some = k;
        last = omega (arith, r.last);
        holds = λ t. ((r.holds t).0, go t (dec_lt (child_node ps n v) mid) (dec_lt mid (child_node ps n v)));
      }
    where
      go : T (is_head ps (child_head ps n v)) → Dec (child_node ps n v < mid) → Dec (mid < child_node ps n v) → child_node ps n v < mid
      go t (yes b) d = b
      go t (no b) (yes d) =
          let s = labels_rise mid (child_node ps n v) (omega (arith, r.first)) d (child_number ps g z n h v t).1 in
          omega (arith, label_of_child v t)
      go t (no b) (no d) =
          let q : child_node ps n v ≡ mid = omega arith in
          omega (arith, label_of_child v t, ap (label_of ps) q)

  -- the first child of an interval is that of v, if it has its label
  pub search_found : (v lo hi : ℕ) → Interval ps n v lo hi → label_of ps lo ≡ v → lo ≡ child_of ps n v
  search_found v lo hi r e = child_of_label v lo r.first (omega (arith, r.some, r.last)) e

  -- and if it is the only one and has not, there is none
  pub search_missing : (v lo hi : ℕ) → Interval ps n v lo hi → hi ≤ lo + 1 → (label_of ps lo ≡ v → ⊥) → 0 ≡ child_of ps n v
  search_missing v lo hi r k f =
      no_child v
      (λ t.
      let q : child_node ps n v ≡ lo = omega (arith, (r.holds t).0, (r.holds t).1) in
      f (sym (ap (label_of ps) q) ∙ label_of_child v t))
