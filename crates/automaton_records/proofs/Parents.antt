-- THE PARENT OF A NODE: the first child's numbers rise, so the parent is the node whose children's
-- numbers reach up to the node's own and no less far.
use Rattle.std.specs.Prelude.{◌≡◌, ◌∷◌, ◌++◌, ◌+◌, ◌-◌, ◌≤◌, ◌<◌}
use Rattle.lists.proofs.Prelude.{◌∙◌, ap, sym, subst, List, [], ℕ, suc, T, length, get_or, dec_lt, arith}
use Rattle.lists.proofs.Parts.{length_snoc}
use Rattle.pattern_set.specs.PatternSet.{PatternSet, good_set}
use Rattle.matching.specs.Matching.{is_head}
use Rattle.automaton_model.specs.Automaton.{nodes, head_of, node_of, children, first_child, ends_at}
use Rattle.automaton_model.proofs.Nodes.{node_head}
use Rattle.automaton_model.proofs.Children.{child_is, child_head_lem, parent_node, parent_node-lt, parent_node_child, child_number, child_larger}
use Rattle.automaton_model.proofs.Children.{first_child_rises}
use Rattle.automaton_model.proofs.Children.{first_child_within}
use Rattle.automaton_lookup.specs.Places.{place_of, end_of, ChildNode}
use Rattle.automaton_rows.proofs.Intervals.{first_child_place, next_child_place}

module _ (ps : PatternSet) (g : T (good_set ps)) (z : 0 < length ps) where
  module _ (n : ℕ) (l : 0 < n) (h : n < length (nodes ps)) where
    pub parent_range : (first_child ps (parent_node ps n) ≤ n) × (n < first_child ps (parent_node ps n) + children ps (parent_node ps n))
    parent_range =
        let m = parent_node ps n in
        let b = parent_node-lt ps g z n h in
        let q = child_is (head_of ps m) (head_of ps n) (parent_node_child ps g z n l h) in
        let e : node_of ps (head_of ps m ++ (get_or (head_of ps n) (length (head_of ps m)) 0 ∷ [])) ≡ n = ap (node_of ps) (sym q) ∙ (node_head ps n h).1 in
        let r = child_number ps g z m b (get_or (head_of ps n) (length (head_of ps m)) 0) (subst (λ (k : List ℕ). T (is_head ps k)) q (node_head ps n h).0) in
        (omega (arith, r.0), omega (arith, r.1))

    pub parent_smaller : parent_node ps n < n
    parent_smaller = child_larger ps g z (parent_node ps n) (parent_node-lt ps g z n h) n parent_range.0 parent_range.1

    -- a node whose first child is not behind the node is not behind its parent
    pub parent_from : (p : ℕ) → first_child ps p ≤ n → p ≤ parent_node ps n
    parent_from p k = go (dec_lt (parent_node ps n) p)
      where
        go : Dec (parent_node ps n < p) → p ≤ parent_node ps n
        go (yes d) = omega (arith, first_child_rises ps (parent_node ps n) p d, parent_range.1)
        go (no f) = omega arith

    -- one whose children all come before the node is before its parent
    pub parent_later : (p : ℕ) → first_child ps p + children ps p ≤ n → p < parent_node ps n
    parent_later p k = go (dec_lt p (parent_node ps n)) (parent_from p (omega arith))
      where
        go : Dec (p < parent_node ps n) → p ≤ parent_node ps n → p < parent_node ps n
        go (yes d) r = d
        go (no f) r =
            let e : p ≡ parent_node ps n = omega arith in
            omega (arith, ap (first_child ps) e, ap (children ps) e, parent_range.1)

    -- and one that is not behind its parent, and whose children do not, is its parent
    pub parent_found : (p : ℕ) → p ≤ parent_node ps n → n < first_child ps p + children ps p → p ≡ parent_node ps n
    parent_found p k m = go (dec_lt p (parent_node ps n))
      where
        go : Dec (p < parent_node ps n) → p ≡ parent_node ps n
        go (yes d) = omega (arith, first_child_rises ps p (parent_node ps n) d, parent_range.0)
        go (no f) = omega arith

-- ---- a child

-- node n is a child of node p, in the automaton of a good set
pub record Child (ps : PatternSet) (p n : ℕ) : Type 0 where
  pub good : T (good_set ps)
  pub filled : 0 < length ps
  pub positive : 0 < n
  pub within : n < length (nodes ps)
  pub child : ChildNode ps p n

module _ {ps : PatternSet} {p n : ℕ} (r : Child ps p n) where
  parent_is : p ≡ parent_node ps n
  parent_is =
      let q = parent_from ps r.good r.filled n r.positive r.within p r.child.0 in
      parent_found ps r.good r.filled n r.positive r.within p q r.child.1

  pub parent_node_lem : p < length (nodes ps)
  parent_node_lem = omega (arith, parent_is, parent_node-lt ps r.good r.filled n r.within)

  -- the parent has the smaller number
  pub parent_below : p < n
  parent_below = omega (arith, parent_is, parent_smaller ps r.good r.filled n r.positive r.within)

  -- and first children behind the root
  pub first_behind : 0 < first_child ps p
  first_behind = let q = parent_node_lem in (first_child_within ps r.good r.filled p (omega arith)).0

  -- the child's head has one distance more
  pub child_depth : length (head_of ps p) + 1 ≡ length (head_of ps n)
  child_depth =
      let e = (child_head_lem ps r.good r.filled p parent_node_lem n r.child.0 r.child.1).1 in
      omega (arith, ap length e, length_snoc (head_of ps p) (get_or (head_of ps n) (length (head_of ps p)) 0))

  -- which is its label
  pub child_label : (v : ℕ) → v ≡ get_or (head_of ps n) (length (head_of ps n) - 1) 0 → head_of ps n ≡ head_of ps p ++ (v ∷ [])
  child_label v e =
      let d : length (head_of ps p) ≡ length (head_of ps n) - 1 = omega (arith, child_depth) in
      (child_head_lem ps r.good r.filled p parent_node_lem n r.child.0 r.child.1).1
      ∙ ap (λ (w : ℕ). head_of ps p ++ (w ∷ [])) (ap (λ (d : ℕ). get_or (head_of ps n) d 0) d ∙ sym e)

  -- the first child begins behind the patterns that end at its parent
  pub place_first : n ≡ first_child ps p → place_of ps p + ends_at ps (head_of ps p) ≡ place_of ps n
  place_first e =
      let l = r.child.1 in
      sym (first_child_place ps r.good r.filled p parent_node_lem (omega arith)) ∙ ap (place_of ps) (sym e)

  -- every other where the node before it ends
  pub place_next : first_child ps p < n → end_of ps (n - 1) ≡ place_of ps n
  place_next d =
      let e : suc (n - 1) ≡ n = omega arith in
      let l = r.child.1 in
      sym (next_child_place ps r.good r.filled p parent_node_lem (n - 1) (omega arith) (omega arith)) ∙ ap (place_of ps) e
