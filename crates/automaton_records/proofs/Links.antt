-- The links of a node by those of smaller numbers, as the code finds them: the child's failure link
-- by a step from that of its parent, and the output link by the failure link's.
use Rattle.std.specs.Prelude.{◌≡◌, ◌∷◌, ◌++◌, ◌<◌}
use Rattle.lists.proofs.Prelude.{◌∙◌, ap, sym, List, [], ℕ, T, length, arith}
use Rattle.pattern_set.specs.PatternSet.{PatternSet, good_set}
use Rattle.matching.specs.Matching.{is_head, failure, chain}
use Rattle.automaton_model.specs.Automaton.{nodes, head_of, node_of, ends_at, first_end, advance}
use Rattle.automaton_model.proofs.Nodes.{node_head, node_root, node_longer, failure_head, failure_smaller}
use Rattle.automaton_model.proofs.Chains.{output_here, output_falls}
use Rattle.automaton_records.proofs.Failures.{failure_child, failure_first}

module _ (ps : PatternSet) (g : T (good_set ps)) (z : 0 < length ps) where
  -- ---- the failure link

  -- a child of the root fails to it
  pub link_root : (v : ℕ) → 0 ≡ node_of ps (failure ps (head_of ps 0 ++ (v ∷ [])))
  link_root v =
      let r = node_root ps g z in
      sym (ap (λ (k : List ℕ). node_of ps (failure ps (k ++ (v ∷ [])))) r.0 ∙ ap (node_of ps) (failure_first ps v) ∙ r.1)

  -- the failure link of a child of any other node is where the step with its label leads from that
  -- of its parent
  pub link_child : (p v : ℕ) → 0 < p → p < length (nodes ps) → T (is_head ps (head_of ps p ++ (v ∷ [])))
      → (f : ℕ) → f ≡ node_of ps (failure ps (head_of ps p))
      → node_of ps (advance ps (head_of ps f) v).0 ≡ node_of ps (failure ps (head_of ps p ++ (v ∷ [])))
  link_child p v l h t f e =
      ap (λ (k : List ℕ). node_of ps (advance ps k v).0) (failure_head ps g p f h e).1
      ∙ ap (node_of ps) (sym (failure_child ps g z (head_of ps p) v (node_longer ps g z p l h) t))

  -- ---- the output link

  -- where a pattern ends, the node itself
  pub output_own : (n e : ℕ) → n < length (nodes ps) → e ≡ ends_at ps (head_of ps n) → (e ≡ 0 → ⊥) → n ≡ node_of ps (first_end ps (chain ps (head_of ps n)))
  output_own n e h p f = sym (ap (node_of ps) (output_here ps (head_of ps n) (λ y. f (p ∙ y))) ∙ (node_head ps n h).1)

  -- where none does, that of its failure link
  pub output_next : (n e f o : ℕ) → 0 < n → n < length (nodes ps) → e ≡ ends_at ps (head_of ps n) → e ≡ 0 → f ≡ node_of ps (failure ps (head_of ps n))
      → o ≡ node_of ps (first_end ps (chain ps (head_of ps f))) → o ≡ node_of ps (first_end ps (chain ps (head_of ps n)))
  output_next n e f o l h p q r s =
      s
      ∙ ap (λ (k : List ℕ). node_of ps (first_end ps (chain ps k))) (failure_head ps g n f h r).1
      ∙ ap (node_of ps) (sym (output_falls ps (head_of ps n) (node_longer ps g z n l h) (sym p ∙ q)))

  pub failure_below : (n f : ℕ) → 0 < n → n < length (nodes ps) → f ≡ node_of ps (failure ps (head_of ps n)) → f < n
  failure_below n f l h e = omega (arith, failure_smaller ps g n h (node_longer ps g z n l h))
