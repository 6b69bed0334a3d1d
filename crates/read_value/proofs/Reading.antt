-- THE PARTS OF A STEP make it: a gap clears the open minima and leads to the root, where nothing is
-- listed; of a sample the push gives the distance and the open minima, and the advance the node and
-- the attempts.
use Rattle.std.specs.Prelude.{◌≡◌, ◌+◌, ◌-◌, ◌%◌, ◌<◌}
use Rattle.lists.proofs.Prelude.{◌∙◌, ap, sym, ap₂, true, false, List, map, ℕ, ℤ, T, length, arith}
use Rattle.gaps.specs.Gaps.{is_gap}
use Rattle.pattern_set.specs.PatternSet.{PatternSet, good_set}
use Rattle.automaton_model.specs.Automaton.{head_of, node_of, advance, listed}
use Rattle.search_model.specs.Search.{Position, Stepped, sampled}
use Rattle.search_model.specs.Ring.{Ring, distance_of, cleared}
use Rattle.open_minima.specs.declared.Pushed.{Pushed}
use Rattle.open_minima.specs.Pushes.{ring_from, AreCounters, IsPushed}
use Rattle.search_model.proofs.Feed.{step_gap, step_sample}
use Rattle.automaton_model.proofs.Nodes.{node_root}
use Rattle.automaton_lookup.specs.Reached.{Reached}
use Rattle.automaton_lookup.proofs.Walk.{Reached-within}
use Rattle.stream_step.proofs.Listed.{listed_node_root}
use Rattle.read_value.specs.Read.{IsRead}

module _ (ps : PatternSet) (g : T (good_set ps)) (z : 0 < length ps) where
  -- a gap leaves the arrays as they are
  pub read_gap : (st : Position) (x : ℤ) (first next : ℕ) (places : List ℕ) (values : List ℤ)
      → is_gap x ≡ true → st.ring ≡ ring_from first next places values → AreCounters st.taken first next
      → IsRead ps st x places values (record { first = first; next = first; node = 0; attempts = 0 })
  read_gap st x first next places values o e k =
      let s = sym (step_gap ps st x o) in
      let none : first - first ≡ 0 = omega arith in
      let there : Ring → Position = λ r. record { taken = st.taken + 1; node = 0; ring = r } in
      let ring : ring_from first first places values ≡ cleared st.ring =
      (λ i. record { minima = none i; first = first % 256; places = places; values = values }) ∙ ap cleared (sym e) in
      record {
        state = ap there ring ∙ ap (λ (t : Stepped Position). t.state) s;
        counters = record { ordered = omega arith; small = omega (arith, k.ordered, k.small) };
        attempts = ap (λ (t : Stepped Position). t.attempts) s;
        node = (node_root ps g z).2;
        hits = sym (ap (map {B = ℕ × ℕ} (λ j. (st.taken, j))) (listed_node_root ps g z) ∙ ap (λ (t : Stepped Position). t.hits) s);
      }

  -- a sample is pushed, and its distance leads on
  pub read_sample : (st : Position) (x : ℤ) (places : List ℕ) (values : List ℤ) (p : Pushed) (node attempts : ℕ)
      → is_gap x ≡ false → IsPushed st.taken st.ring x places values p
      → Reached ps st.node p.distance node attempts
      → IsRead ps st x places values (record { first = p.first; next = p.next; node = node; attempts = attempts })
  unfolding sampled
  read_sample st x places values p node attempts o ip r =
      let s = sym (step_sample ps st x o) in
      let d : p.distance ≡ distance_of st.taken st.ring x = ip.distance in
      let there : ℕ → Ring → Position = λ n q. record { taken = st.taken + 1; node = n; ring = q } in
      let adv : ℕ → List ℕ × ℕ = λ v. advance ps (head_of ps st.node) v in
      let w = Reached-within ps g z p.distance st.node node attempts r in
      let h : head_of ps node ≡ (adv (distance_of st.taken st.ring x)).0 = w.1 ∙ ap (λ (v : ℕ). (adv v).0) d in
      let m : node ≡ node_of ps (adv (distance_of st.taken st.ring x)).0 = r.node ∙ ap (λ (v : ℕ). node_of ps (adv v).0) d in
      record {
        state = ap₂ there m ip.ring ∙ ap (λ (t : Stepped Position). t.state) s;
        counters = ip.counters;
        attempts = r.attempts ∙ ap (λ (v : ℕ). (adv v).1) d ∙ ap (λ (t : Stepped Position). t.attempts) s;
        node = w.0;
        hits =
            sym (ap (λ (k : List ℕ). map {B = ℕ × ℕ} (λ j. (st.taken, j)) (listed ps k)) h
            ∙ ap (λ (t : Stepped Position). t.hits) s);
      }
