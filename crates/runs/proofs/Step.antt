-- One step of the stream search is one step of the reference: what a state that represents a text
-- does with one more value.
use Rattle.std.specs.Prelude.{◌≡◌, ◌&&◌, ◌||◌, ◌∷◌, ◌++◌, ◌+◌, ◌-◌, ◌≤◌, ◌<◌}
use Rattle.lists.proofs.Prelude.{◌∙◌, ap, sym, refl, subst, ap₂, Bool, true, false, cond, List, [], map, ℕ, zero, suc}
use Rattle.lists.proofs.Prelude.{ℤ, T, eqb, leb, ltb, le→leb, lt→ltb, length, length-append, drop-nil, le_refl, dec_lt, arith, eq-eqb, last_of}
use Rattle.lists.proofs.Prelude.{tabulate}
use Rattle.lists.proofs.Tests.{and_join, or_left, or_right, T-true}
use Rattle.lists.proofs.Parts.{length-last_of, last_of-zero}
use Rattle.answers.specs.Told.{new_search}
use Rattle.gaps.specs.Gaps.{is_gap, holds_gap}
use Rattle.gaps.proofs.Laws.{last_of_none}
use Rattle.cartesian.specs.Cartesian.{distance_at, distances, cut, tree_of_within, tree_of}
use Rattle.cartesian.proofs.Seek.{length-distances}
use Rattle.realization.specs.Realization.{left_turns, least_realization}
use Rattle.pattern_set.specs.PatternSet.{PatternSet, good_set}
use Rattle.matching.specs.Matching.{last_hits, is_head, failure}
use Rattle.matching.proofs.Heads.{head_tree_whole, head_tree-is_head}
use Rattle.automaton_model.specs.Automaton.{nodes, head_of, node_of, extended, advance_within, advance, listed}
use Rattle.search_model.specs.Ring.{good_ring, distance_of, pushed}
use Rattle.search_model.specs.Search.{Position, position_of, good_position, sampled, step}
use Rattle.search_model.proofs.Feed.{step_cases}
use Rattle.automaton_model.proofs.Nodes.{head_node, head_length, node_root, failure_shorter}
use Rattle.pattern_set.proofs.Good.{good_realizable}
use Rattle.runs.specs.ReferenceRun.{attempts, longest_head}
use Rattle.runs.proofs.LongestHead.{longest_head-le, longest_head_head, longest_head_gap, longest_head_step}
use Rattle.runs.proofs.Advance.{advance_is}
use Rattle.runs.proofs.Attempts.{attempts_gap}
use Rattle.runs.proofs.Listed.{listed_is, gap_hits}
use Rattle.runs.proofs.Minima.{Minima, Minima-new, Minima-cleared, Minima-good, Minima-some}
use Rattle.runs.proofs.Push.{Minima-pushed, distance_cut}

-- the distances of the longest suffix of the text that has the tree of some head
abbrev pub reached : PatternSet → List ℤ → List ℕ
reached ps text = distances (last_of (longest_head ps text) text)

-- the state is that of a search over the text
pub record Represents (ps : PatternSet) (text : List ℤ) (st : Position) : Type 0 where
  pub count : st.taken ≡ length text
  pub minima : Minima text st.ring
  pub node : st.node ≡ node_of ps (reached ps text)

empty_least : (h : List ℕ) → length h ≤ 0 → least_realization h ≡ []
unfolding least_realization left_turns tree_of tree_of_within
empty_least [] l = refl
empty_least (d ∷ h) l = absurd (let w : ⊥ = omega arith in w)

distances-nil : (n : ℕ) → distances (last_of n []) ≡ []
unfolding distances tabulate
distances-nil n = rw (drop-nil {A = ℤ} (length {A = ℤ} [] - n)) refl

-- the failure link of the empty head leads to itself
empty_failure : (ps : PatternSet) (h : List ℕ) → length h ≤ 0 → length (failure ps h) ≤ 0
unfolding failure
empty_failure ps h l = rw (empty_least h l, distances-nil) (le_refl 0)

module _ (ps : PatternSet) (g : T (good_set ps)) (z : 0 < length ps) where
  reached_whole : (text : List ℤ) → holds_gap (last_of (longest_head ps text) text) ≡ false
  reached_whole text = head_tree_whole ps (last_of (longest_head ps text) text) (longest_head_head ps text z)

  pub reached_head : (text : List ℤ) → T (is_head ps (reached ps text))
  reached_head text =
      subst T (head_tree-is_head ps (last_of (longest_head ps text) text) (reached_whole text) (good_realizable ps g)) (longest_head_head ps text z)

  pub length-reached : (text : List ℤ) → length (reached ps text) ≡ longest_head ps text
  length-reached text = length-distances (last_of (longest_head ps text) text) ∙ length-last_of (longest_head ps text) text (longest_head-le ps text)

  pub node-reached : (text : List ℤ) (st : Position) → Represents ps text st → head_of ps st.node ≡ reached ps text
  node-reached text st r = ap (head_of ps) r.node ∙ (head_node ps g (reached ps text) (reached_head text)).1

  -- a head of 256 distances has no continuation, so what is not the same there is not seen
  same_branch : (h : List ℕ) (d e : ℕ) → (length h ≤ 255 → cut (length h) d ≡ cut (length h) e) → is_head ps (extended h d) ≡ is_head ps (extended h e)
  same_branch h d e c = go (dec_lt (length h) 256)
    where
      long : (d : ℕ) → (length h < 256 → ⊥) → is_head ps (extended h d) ≡ false
      long d f = no_head (is_head ps (extended h d)) refl
        where
          no_head : (b : Bool) → is_head ps (extended h d) ≡ b → b ≡ false
          no_head true q =
              absurd (let l = head_length ps g (extended h d) (T-true (is_head ps (extended h d)) q) in let w : ⊥ = omega
              (arith, length-append h (cut (length h) d ∷ []), l, f) in w)
          no_head false q = refl

      go : Dec (length h < 256) → is_head ps (extended h d) ≡ is_head ps (extended h e)
      go (yes l) = ap (λ (v : ℕ). is_head ps (h ++ (v ∷ []))) (c (omega arith))
      go (no f) = long d f ∙ sym (long e f)

  advance_same : (k : ℕ) (h : List ℕ) (d e : ℕ) → length h ≤ k → ((m : ℕ) → m ≤ 255 → m ≤ k → cut m d ≡ cut m e)
      → advance_within k ps h d ≡ advance_within k ps h e
  unfolding advance_within
  advance_same zero h d e l c = ap (λ (v : ℕ). (h ++ (v ∷ []), 1)) (c (length h) (omega arith) l)
  advance_same (suc k) h d e l c =
      ap (λ (b : Bool). cond b (extended h d, 1) ((advance_within k ps (failure ps h) d).0, suc (advance_within k ps (failure ps h) d).1))
      (same_branch h d e (λ b. c (length h) b l))
      ∙ go (is_head ps (extended h e)) refl (advance_same k (failure ps h) d e shorter (λ m a b. c m a (omega arith)))
    where
      shorter : length (failure ps h) ≤ k
      shorter = short (dec_lt 0 (length h))
        where
          short : Dec (0 < length h) → length (failure ps h) ≤ k
          short (yes p) = omega (arith, failure_shorter ps h p)
          short (no f) = omega (arith, empty_failure ps h (let w : length h ≤ 0 = omega arith in w))

      go : (b : Bool) → is_head ps (extended h e) ≡ b → advance_within k ps (failure ps h) d ≡ advance_within k ps (failure ps h) e
          → ◌≡◌ {A = List ℕ × ℕ} (cond b (extended h d, 1) ((advance_within k ps (failure ps h) d).0, suc (advance_within k ps (failure ps h) d).1))
          (cond b (extended h e, 1) ((advance_within k ps (failure ps h) e).0, suc (advance_within k ps (failure ps h) e).1))
      go true q ih =
          let q' = head_length ps g (extended h e) (T-true (is_head ps (extended h e)) q) in
          ap (λ (v : ℕ). (h ++ (v ∷ []), 1)) (c (length h) (omega (arith, q', length-append h (cut (length h) e ∷ []))) l)
      go false q ih = ap (λ (r : List ℕ × ℕ). (r.0, suc r.1)) ih

  -- the head reached and the attempts made by one sample
  pub advance_state : (text : List ℤ) (st : Position) (x : ℤ) → is_gap x ≡ false → Represents ps text st
      → advance ps (head_of ps st.node) (distance_of st.taken st.ring x) ≡ (reached ps (text ++ (x ∷ [])), attempts ps text x)
  advance_state text st x o r =
      let D = distance_at (text ++ (x ∷ [])) (length text) in
      let d = distance_of (length text) st.ring x in
      ap₂ (λ (h : List ℕ) (t : ℕ). advance ps h (distance_of t st.ring x)) (node-reached text st r) r.count
      ∙ advance_same (length (reached ps text)) (reached ps text) d D (le_refl (length (reached ps text)))
      (λ m a b. let l : m ≤ longest_head ps text = omega (arith, length-reached text) in distance_cut text st.ring x r.minima m a
      (omega (arith, longest_head-le ps text)) (last_of_none m (longest_head ps text) text l (reached_whole text)))
      ∙ advance_is ps text x D o g z (λ m l. refl)
      ∙ ap (λ (n : ℕ). (distances (last_of n (text ++ (x ∷ []))), attempts ps text x)) (sym (longest_head_step ps text x o g z))

  -- the head reached behind a gap
  reached_gap : (text : List ℤ) (x : ℤ) → is_gap x ≡ true → reached ps (text ++ (x ∷ [])) ≡ []
  reached_gap text x o =
      ap (λ (n : ℕ). distances (last_of n (text ++ (x ∷ [])))) (longest_head_gap ps text x o z)
      ∙ ap distances (last_of-zero (text ++ (x ∷ [])))
      ∙ distances-nil 0

  -- ONE STEP: hits and attempts are those of the reference, and the state represents the text with
  -- the value
  pub step-hits : (text : List ℤ) (st : Position) (x : ℤ) → Represents ps text st
      → (step ps st x).hits ≡ map (λ j. (length text, j)) (last_hits ps (text ++ (x ∷ [])))
  unfolding sampled
  step-hits text st x r =
      let after = last_hits ps (text ++ (x ∷ [])) in
      step_cases ps st x (λ s. s.hits ≡ map (λ j. (length text, j)) after)
      (λ o. sym (ap (map {B = ℕ × ℕ} (λ j. (length text, j))) (gap_hits ps text x o)))
      (λ o. ap₂ (λ (t : ℕ) (h : List ℕ). map (λ j. (t, j)) (listed ps h)) r.count (ap (λ (p : List ℕ × ℕ). p.0) (advance_state text st x o r))
      ∙ ap (map (λ j. (length text, j))) (listed_is ps (text ++ (x ∷ [])) g z))

  pub step-attempts : (text : List ℤ) (st : Position) (x : ℤ) → Represents ps text st → (step ps st x).attempts ≡ attempts ps text x
  unfolding sampled
  step-attempts text st x r =
      step_cases ps st x (λ s. s.attempts ≡ attempts ps text x)
      (λ o. sym (attempts_gap ps text x o))
      (λ o. ap (λ (p : List ℕ × ℕ). p.1) (advance_state text st x o r))

  pub step-state : (text : List ℤ) (st : Position) (x : ℤ) → Represents ps text st → Represents ps (text ++ (x ∷ [])) (step ps st x).state
  unfolding sampled
  step-state text st x r =
      let more = ap (λ (n : ℕ). n + 1) r.count ∙ sym (length-append text (x ∷ [])) in
      step_cases ps st x (λ s. Represents ps (text ++ (x ∷ [])) s.state)
      (λ o. record {
        count = more;
        minima = Minima-cleared text st.ring x o r.minima;
        node = sym (ap (node_of ps) (reached_gap text x o) ∙ (node_root ps g z).1);
      })
      (λ o. record {
        count = more;
        minima = subst (λ (n : ℕ). Minima (text ++ (x ∷ [])) (pushed n st.ring x)) (sym r.count) (Minima-pushed text st.ring x o r.minima);
        node = ap (λ (p : List ℕ × ℕ). node_of ps p.0) (advance_state text st x o r);
      })

  -- a new search represents the empty text
  pub new-Represents : Represents ps [] (position_of new_search)
  new-Represents = record { count = refl; minima = Minima-new; node = sym (ap (node_of ps) (distances-nil (longest_head ps [])) ∙ (node_root ps g z).1) }

  -- a state that represents a text passes check 8
  pub Represents-good : (text : List ℤ) (st : Position) → Represents ps text st → length text ≤ 1048576 → T (good_position ps st)
  unfolding good_position
  Represents-good text st r l =
      let n = head_node ps g (reached ps text) (reached_head text) in
      let a : T (ltb st.node (length (nodes ps))) = lt→ltb st.node (length (nodes ps))
      (subst (λ (k : ℕ). k < length (nodes ps)) (sym r.node) n.0) in
      let b : T (leb (length (head_of ps st.node)) st.taken) =
      le→leb (length (head_of ps st.node)) st.taken
      (subst (λ (h : List ℕ). length h ≤ st.taken) (sym (node-reached text st r))
      (omega (arith, length-reached text, longest_head-le ps text, r.count))) in
      let c : T (leb st.taken 1048576) = le→leb st.taken 1048576 (omega (arith, r.count)) in
      let ring = good_ring st.taken st.ring in
      let d : T ring = subst (λ (n : ℕ). T (good_ring n st.ring)) (sym r.count) (Minima-good text st.ring r.minima) in
      let inside = ltb st.node (length (nodes ps)) in
      let deep = leb (length (head_of ps st.node)) st.taken in
      let few = leb st.taken 1048576 in
      and_join (inside && deep && few && ring) (ltb 0 st.ring.minima || eqb st.node 0)
      (and_join (inside && deep && few) ring (and_join (inside && deep) few (and_join inside deep a b) c) d)
      (some (dec_lt 0 (longest_head ps text)))
    where
      some : Dec (0 < longest_head ps text) → T (ltb 0 st.ring.minima || eqb st.node 0)
      some (yes h) =
          or_left (ltb 0 st.ring.minima) (eqb st.node 0) (lt→ltb 0 st.ring.minima
          (Minima-some text st.ring r.minima (omega (arith, longest_head-le ps text)) (last_of_none 1 (longest_head ps text) text h (reached_whole text))))
      some (no f) =
          let e : longest_head ps text ≡ 0 = omega arith in
          let empty : reached ps text ≡ [] = ap (λ (n : ℕ). distances (last_of n text)) e ∙ ap distances (last_of-zero text) ∙ distances-nil 0 in
          let root : st.node ≡ 0 = r.node ∙ ap (node_of ps) empty ∙ (node_root ps g z).1 in
          or_right (ltb 0 st.ring.minima) (eqb st.node 0) (T-true (eqb st.node 0) (eq-eqb st.node 0 root))
