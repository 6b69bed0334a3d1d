-- THE RECORD OF THE ROOT is the same for every set that has a pattern: each begins with 0 and none
-- is empty.
use Rattle.std.specs.Prelude.{◌≡◌, ◌∷◌, ◌++◌, ◌-◌, ◌<◌}
use Rattle.lists.proofs.Prelude.{ap, sym, refl, subst, List, [], ℕ, suc, T, length, drop_of_length-le, dec_lt, arith, tabulate}
use Rattle.lists.proofs.Prelude.{last_below, same, before}
use Rattle.lists.proofs.Same.{same_eq}
use Rattle.lists.proofs.Select.{select_empty}
use Rattle.cartesian.specs.Cartesian.{distances}
use Rattle.realization.specs.Realization.{least_realization}
use Rattle.pattern_set.specs.PatternSet.{PatternSet, good_set}
use Rattle.matching.specs.Matching.{is_head, failure}
use Rattle.automaton_model.specs.Automaton.{head_of, ends_at, children, first_child, record_of}
use Rattle.lists.proofs.Before.{before-nil}
use Rattle.automaton_model.proofs.Nodes.{node_head, node_root, good_length, head_realizable}
use Rattle.automaton_model.proofs.Children.{child_head_lem, child_labels_rise, child_number}
use Rattle.automaton_lookup.specs.Places.{first_place}
use Rattle.set_access.proofs.Laws.{realizable-le_place}
use Rattle.automaton_model.proofs.Chains.{zero-is_head, output_root}

failure_empty : (ps : PatternSet) → failure ps [] ≡ []
unfolding failure last_below distances tabulate
failure_empty ps = ap distances (drop_of_length-le (least_realization []) {i = length (least_realization []) - 0} (omega arith))

module _ (ps : PatternSet) (g : T (good_set ps)) (z : 0 < length ps) where
  -- no pattern ends at the root
  root_ends : ends_at ps [] ≡ 0
  root_ends = ap length (select_empty (same []) ps (λ p m t. omega (arith, (good_length ps g p m).0, ap length (same_eq [] p t))))

  -- and none is before it
  root_place : first_place ps [] ≡ 0
  root_place = ap length (select_empty (λ p. before p []) ps (λ p m t. before-nil p t))

  -- every pattern begins with 0
  root_children : children ps 0 ≡ 1
  root_children =
      let r = node_root ps g z in
      let b = child_number ps g z 0 r.2 0 (subst (λ (k : List ℕ). T (is_head ps (k ++ (0 ∷ [])))) (sym r.0) (zero-is_head ps g z)) in
      go (dec_lt 1 (children ps 0)) (omega (arith, b.0, b.1))
    where
      go : Dec (1 < children ps 0) → 0 < children ps 0 → children ps 0 ≡ 1
      go (yes d) s =
          let r = node_root ps g z in
          let c = first_child ps 0 in
          let m = (child_head_lem ps g z 0 r.2 (suc c) (omega arith) (omega arith)).0 in
          let e : length (head_of ps 0) ≡ 0 = ap length r.0 in
          let o = child_labels_rise ps g z 0 r.2 c (suc c) (omega arith) (omega arith) (omega arith) in
          let q = realizable-le_place (head_of ps (suc c)) (head_realizable ps g (head_of ps (suc c)) (node_head ps (suc c) m).0) (length (head_of ps 0)) in
          absurd (let y : ⊥ = omega arith in y)
      go (no f) s = omega arith

  pub root_words : 0 ∷ 0 ∷ 0 ∷ 0 ∷ 1 ∷ 1 ∷ 0 ∷ 0 ∷ [] ≡ record_of ps 0
  unfolding record_of first_child
  root_words =
      let r = node_root ps g z in
      rw (r.0, failure_empty ps, output_root ps, r.1, root_children, root_place, root_ends) refl
