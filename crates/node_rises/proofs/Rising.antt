-- RISES NODE BY NODE: the hits of the patterns that end at a node have one rise, and those listed
-- at the node given are the ones done so far and then those listed at the present node.
use Rattle.std.specs.Prelude.{◌≡◌, ◌∷◌, ◌++◌, ◌+◌, ◌≤◌, ◌<◌}
use Rattle.lists.proofs.Prelude.{◌∙◌, ap, sym, refl, ap₂, List, [], map, append-nil, append_assoc, Memᴰ, Memᴰ-head}
use Rattle.lists.proofs.Prelude.{Memᴰ-tail, ℕ, ℤ, T, length, get_or, take, drop, replicate, length-append, length-drop}
use Rattle.lists.proofs.Prelude.{length-map, take_at, drop_at, drop-drop}
use Rattle.lists.proofs.Prelude.{arith}
use Rattle.lists.proofs.Prelude.{tabulate, same}
use Rattle.lists.proofs.Select.{mem-select}
use Rattle.lists.proofs.Same.{same_eq}
use Rattle.lists.proofs.Parts.{map-append}
use Rattle.pattern_set.specs.PatternSet.{PatternSet, good_set}
use Rattle.matching.specs.Matching.{failure, chain}
use Rattle.matching.specs.Rise.{rise_over, rise}
use Rattle.automaton_model.specs.Automaton.{nodes, head_of, node_of, ends_at, first_end, ending_at, listed}
use Rattle.stream_step.proofs.Listed.{length-ending_at, listed_node_root, output_node, failure_node}
use Rattle.node_rises.specs.Risen.{place_rises}

-- ---- one node

module _ (ps : PatternSet) (f : ℕ → ℤ) (p : ℕ) where
  one_rise : (n : ℕ) (js : List ℕ) → ((j : ℕ) → Memᴰ j js → length (get_or ps j []) ≡ n)
      → place_rises ps f p js ≡ replicate (length js) (rise_over f p n)
  one_rise n [] e = refl
  one_rise n (j ∷ js) e =
      ap₂ (λ (v : ℤ) (vs : List ℤ). v ∷ vs) (ap (rise_over f p) (e j (Memᴰ-head refl))) (one_rise n js (λ i m. e i (Memᴰ-tail m)))

  -- the patterns that end at a head are as long as it
  pub node_rises : (h : List ℕ) → replicate (ends_at ps h) (rise_over f p (length h)) ≡ place_rises ps f p (ending_at ps h)
  node_rises h =
      ap (λ (n : ℕ). replicate n (rise_over f p (length h))) (sym (length-ending_at ps h))
      ∙ sym (one_rise (length h) (ending_at ps h)
      (λ j m. ap length (same_eq (get_or ps j []) h ((mem-select (λ i. same (get_or ps i []) h) (tabulate (length ps) (λ i. i)) j).0 m).1)))

  length-place_rises : (js : List ℕ) → length (place_rises ps f p js) ≡ length js
  length-place_rises js = length-map (map (λ j. (p, j)) js) (rise ps f) ∙ length-map {B = ℕ × ℕ} js (λ j. (p, j))

  place_rises-append : (is js : List ℕ) → place_rises ps f p (is ++ js) ≡ place_rises ps f p is ++ place_rises ps f p js
  place_rises-append is js =
      ap (map (rise ps f)) (map-append {B = ℕ × ℕ} (λ j. (p, j)) is js) ∙ map-append (rise ps f) (map (λ j. (p, j)) is) (map (λ j. (p, j)) js)

-- ---- node by node

-- of the patterns listed at the node given those that are not listed at node `at` are done:
-- their rises lie at the front of the array, which was d, and there are n
pub record Risen (ps : PatternSet) (f : ℕ → ℤ) (p node : ℕ) (d : List ℤ) (at n : ℕ) (rises : List ℤ) : Type 0 where
  pub within : at < length (nodes ps)
  pub depth : length (head_of ps at) ≤ length (head_of ps node)
  pub done : List ℕ
  pub whole : listed ps (head_of ps node) ≡ done ++ listed ps (head_of ps at)
  pub count : n ≡ length done
  pub values : rises ≡ place_rises ps f p done ++ drop n d
  pub sized : length rises ≡ length d
  pub room : n + length (listed ps (head_of ps at)) ≤ length d

module _ (ps : PatternSet) (g : T (good_set ps)) (z : 0 < length ps) (f : ℕ → ℤ) (p node : ℕ) (d : List ℤ) where
  pub rising_start : (o : ℕ) → node < length (nodes ps) → o ≡ node_of ps (first_end ps (chain ps (head_of ps node)))
      → length (listed ps (head_of ps node)) ≤ length d → Risen ps f p node d o 0 d
  rising_start o h e r =
      let q = output_node ps g z node o h e in
      record {
        within = q.0;
        depth = q.1;
        done = [];
        whole = sym q.2;
        count = refl;
        values = refl;
        sized = refl;
        room = omega (arith, ap length q.2);
      }

  -- what ends at the present node has room
  pub rising_room : (at n : ℕ) (rises : List ℤ) → Risen ps f p node d at n rises → (at ≡ 0 → ⊥) → n + ends_at ps (head_of ps at) ≤ length rises
  rising_room at n rises w k =
      let h = head_of ps at in
      let q = failure_node ps g z at (node_of ps (failure ps h)) w.within k refl in
      omega (arith, w.room, w.sized, length-ending_at ps h, ap length q.2, length-append (ending_at ps h) (listed ps (head_of ps (node_of ps (failure ps h)))))

  -- one node more
  pub rising_more : (at n : ℕ) (rises : List ℤ) → Risen ps f p node d at n rises → (at ≡ 0 → ⊥)
      → (m : ℕ) (v : ℤ) → m ≡ ends_at ps (head_of ps at) → v ≡ rise_over f p (length (head_of ps at))
      → (l o : ℕ) → l ≡ node_of ps (failure ps (head_of ps at)) → o ≡ node_of ps (first_end ps (chain ps (head_of ps l)))
      → (q : ℕ) (y : List ℤ) → q ≡ m → y ≡ replicate m v
      → Risen ps f p node d o (n + m) (take n rises ++ (y ++ drop q (drop n rises))) × (length (head_of ps o) < length (head_of ps at))
  rising_more at n rises w k m v em ev l o el eo q y eq ey =
      let h = head_of ps at in
      let E = ending_at ps h in
      let D = w.done in
      let R : List ℕ → List ℤ = place_rises ps f p in
      let F = failure_node ps g z at l w.within k el in
      let O = output_node ps g z l o F.0 eo in
      let L : listed ps h ≡ E ++ listed ps (head_of ps o) = F.2 ∙ ap (λ (js : List ℕ). E ++ js) (sym O.2) in
      let l_e : m ≡ length E = em ∙ sym (length-ending_at ps h) in
      let l_l = ap length L ∙ length-append E (listed ps (head_of ps o)) in
      let l_f : length (R D) ≡ n = length-place_rises ps f p D ∙ sym w.count in
      let new : replicate m v ≡ R E = ap₂ (λ (i : ℕ) (x : ℤ). replicate i x) em ev ∙ node_rises ps f p h in
      let values : take n rises ++ (y ++ drop q (drop n rises)) ≡ R (D ++ E) ++ drop (n + m) d =
      ap₂ (λ (i : ℕ) (x : List ℤ). take n rises ++ (x ++ drop i (drop n rises))) eq (ey ∙ new)
      ∙ ap (λ (r : List ℤ). take n r ++ (R E ++ drop m (drop n r))) w.values
      ∙ ap₂ (λ (a b : List ℤ). a ++ (R E ++ drop m b)) (take_at (R D) (drop n d) n l_f) (drop_at (R D) (drop n d) n l_f)
      ∙ ap (λ (b : List ℤ). R D ++ (R E ++ b)) (drop-drop m n d)
      ∙ sym (append_assoc (R D) (R E) (drop (n + m) d))
      ∙ ap (λ (r : List ℤ). r ++ drop (n + m) d) (sym (place_rises-append ps f p D E)) in (
        record {
          within = O.0;
          depth = omega (arith, w.depth, F.1, O.1);
          done = D ++ E;
          whole = w.whole ∙ ap (λ (js : List ℕ). D ++ js) L ∙ sym (append_assoc D E (listed ps (head_of ps o)));
          count = omega (arith, w.count, l_e, length-append D E);
          values = values;
          sized =
              ap length values
              ∙ length-append (R (D ++ E)) (drop (n + m) d)
              ∙ (omega (arith, w.room, w.count, l_e, l_l, length-place_rises ps f p (D ++ E), length-append D E, length-drop (n + m) d));
          room = omega (arith, w.room, l_e, l_l);
        },
        omega (arith, F.1, O.1),
      )

  -- at the root nothing is left
  pub rising_end : (at n : ℕ) (rises : List ℤ) → Risen ps f p node d at n rises → at ≡ 0
      → rises ≡ place_rises ps f p (listed ps (head_of ps node)) ++ drop (length (listed ps (head_of ps node))) d
  rising_end at n rises w e =
      let r : listed ps (head_of ps at) ≡ [] = ap (λ (i : ℕ). listed ps (head_of ps i)) e ∙ listed_node_root ps g z in
      let q : w.done ≡ listed ps (head_of ps node) = sym (w.whole ∙ ap (λ (js : List ℕ). w.done ++ js) r ∙ append-nil w.done) in
      w.values
      ∙ ap₂ (λ (js : List ℕ) (i : ℕ). place_rises ps f p js ++ drop i d) q (w.count ∙ ap length q)
