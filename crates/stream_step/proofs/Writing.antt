-- WRITING THE HITS: the words of the patterns that end at a node follow those written before, and
-- what is left to list is what the next output link lists.
use Rattle.std.specs.Prelude.{◌≡◌, ◌++◌, ◌+◌, ◌-◌, ◌*◌, ◌≤◌, ◌<◌}
use Rattle.lists.proofs.Prelude.{◌∙◌, ap, sym, refl, ap₂, List, [], append-nil, append_assoc, ℕ, T, length, get_or, take}
use Rattle.lists.proofs.Prelude.{drop, set, length-append, length-drop, length-set, take-length, arith}
use Rattle.lists.proofs.Parts.{paste}
use Rattle.pattern_set.proofs.Good.{good_set_parts}
use Rattle.pattern_set.specs.PatternSet.{PatternSet, good_set}
use Rattle.matching.specs.Matching.{hit_words, failure, chain}
use Rattle.automaton_model.specs.Automaton.{nodes, head_of, node_of, ends_at, first_end, ending_at, listed}
use Rattle.automaton_lookup.specs.Places.{first_place}
use Rattle.automaton_model.proofs.Order.{order-lt}
use Rattle.automaton_lookup.proofs.Places.{ends_within}
use Rattle.stream_step.specs.PlaceWords.{place_words}
use Rattle.stream_step.proofs.PlaceWords.{length-place_words, place_words-append, place_words_more}
use Rattle.stream_step.proofs.Listed.{length-ending_at, ending_at_place, listed_node_root, output_node, failure_node}

-- ---- the patterns that end at one head

-- of the n patterns that end at h, whose numbers lie in the order of k patterns from place `first`
-- on, i are written, at place p, over the array d
pub record Ends (ps : PatternSet) (h : List ℕ) (p k : ℕ) (d : List ℕ) (first n i : ℕ) (hits : List ℕ) : Type 0 where
  pub place : first ≡ first_place ps h
  pub number : n ≡ length (ending_at ps h)
  pub order : first + n ≤ k
  pub part : i ≤ n
  pub words : hits ≡ place_words p (take i (ending_at ps h)) ++ drop (2 * i) d
  pub sized : length hits ≡ length d
  pub room : 2 * n ≤ length hits

pub Ends-start : (ps : PatternSet) (h : List ℕ) (p k : ℕ) (d : List ℕ) (first n : ℕ) → k ≡ length ps → first ≡ first_place ps h → n ≡ ends_at ps h
    → 2 * length (ending_at ps h) ≤ length d → Ends ps h p k d first n 0 d
unfolding hit_words
Ends-start ps h p k d first n e a b r =
    let l = length-ending_at ps h in
    record { place = a; number = omega arith; order = omega (arith, ends_within ps h); part = omega arith; words = refl; sized = refl; room = omega arith }

-- a number of the order is below that of the patterns, of which there are at most 64
pub number_small : (ps : PatternSet) → T (good_set ps) → (i v : ℕ) → i < length ps → v ≡ get_or (Rattle.automaton_model.specs.Automaton.order ps) i 0 → v < 64
number_small ps g i v h e = omega (arith, order-lt ps i h, (good_set_parts ps g).0)

pub Ends-more : (ps : PatternSet) (h : List ℕ) (p k : ℕ) (d : List ℕ) (first n i : ℕ) (hits : List ℕ) (v : ℕ) → Ends ps h p k d first n i hits → i < n
    → v ≡ get_or (Rattle.automaton_model.specs.Automaton.order ps) (first + i) 0 → Ends ps h p k d first n (i + 1) (set (set hits (2 * i) p) (2 * i + 1) v)
Ends-more ps h p k d first n i hits v w l e =
    let E = ending_at ps h in
    let f : v ≡ get_or E i 0 =
    e
    ∙ ap (λ (q : ℕ). get_or (Rattle.automaton_model.specs.Automaton.order ps) (q + i) 0) w.place
    ∙ ending_at_place ps h i (omega (arith, w.number, length-ending_at ps h)) in
    let s : length (set (set hits (2 * i) p) (2 * i + 1) v) ≡ length hits = length-set (set hits (2 * i) p) (2 * i + 1) v ∙ length-set hits (2 * i) p in
    record {
      place = w.place;
      number = w.number;
      order = w.order;
      part = omega arith;
      words =
          ap (λ (q : List ℕ). set (set q (2 * i) p) (2 * i + 1) v) w.words
          ∙ place_words_more p E d i v (omega (arith, w.number)) (omega (arith, w.number, w.room, w.sized)) f;
      sized = s ∙ w.sized;
      room = omega (arith, w.room);
    }

pub Ends-end : (ps : PatternSet) (h : List ℕ) (p k : ℕ) (d : List ℕ) (first n i : ℕ) (hits : List ℕ) → Ends ps h p k d first n i hits → n ≤ i
    → (n ≡ length (ending_at ps h)) × (hits ≡ place_words p (ending_at ps h) ++ drop (2 * length (ending_at ps h)) d)
Ends-end ps h p k d first n i hits w l =
    let E = ending_at ps h in
    let q : i ≡ length E = omega (arith, w.number, w.part) in
    let all = ap (λ (js : List ℕ). place_words p js ++ drop (2 * length E) d) (take-length E) in
    (w.number, w.words ∙ ap (λ (j : ℕ). place_words p (take j E) ++ drop (2 * j) d) q ∙ all)

-- ---- node by node

-- of the patterns `js` the first n are written, at place p, over the array d; those listed at node
-- `at` are left
pub record Written (ps : PatternSet) (p : ℕ) (d js : List ℕ) (at n : ℕ) (hits : List ℕ) : Type 0 where
  pub within : at < length (nodes ps)
  pub done : List ℕ
  pub whole : js ≡ done ++ listed ps (head_of ps at)
  pub count : n ≡ length done
  pub words : hits ≡ place_words p done ++ drop (2 * n) d
  pub sized : length hits ≡ length d
  pub room : 2 * n + 2 * length (listed ps (head_of ps at)) ≤ length hits

module _ (ps : PatternSet) (g : T (good_set ps)) (z : 0 < length ps) (p : ℕ) (d : List ℕ) where
  pub writing_start : (n o : ℕ) → n < length (nodes ps) → o ≡ node_of ps (first_end ps (chain ps (head_of ps n)))
      → 2 * length (listed ps (head_of ps n)) ≤ length d
      → Written ps p d (listed ps (head_of ps n)) o 0 d
  unfolding hit_words
  writing_start n o h e r =
      let q = output_node ps g z n o h e in
      record { within = q.0; done = []; whole = sym q.2; count = refl; words = refl; sized = refl; room = omega (arith, ap length q.2) }

  -- the patterns that end at the node have room
  pub writing_room : (js : List ℕ) (at n : ℕ) (hits : List ℕ) → Written ps p d js at n hits → (at ≡ 0 → ⊥)
      → 2 * n + 2 * length (ending_at ps (head_of ps at)) ≤ length hits
  writing_room js at n hits w k =
      let q = failure_node ps g z at (node_of ps (failure ps (head_of ps at))) w.within k refl in
      omega (arith, w.room, ap length q.2, length-append (ending_at ps (head_of ps at)) (listed ps (head_of ps (node_of ps (failure ps (head_of ps at))))))

  -- one node more: the part behind the words written now begins with those of the node
  pub writing_more : (js : List ℕ) (at n : ℕ) (hits : List ℕ) → Written ps p d js at n hits → (at ≡ 0 → ⊥)
      → (m k : ℕ) (y : List ℕ) → m ≡ length (ending_at ps (head_of ps at)) → k ≡ length hits - 2 * n
      → y ≡ place_words p (ending_at ps (head_of ps at)) ++ drop (2 * length (ending_at ps (head_of ps at))) (take k (drop (2 * n) hits))
      → (f o : ℕ) → f ≡ node_of ps (failure ps (head_of ps at)) → o ≡ node_of ps (first_end ps (chain ps (head_of ps f)))
      → Written ps p d js o (n + m) (take (2 * n) hits ++ (y ++ drop k (drop (2 * n) hits))) × (length (head_of ps o) < length (head_of ps at))
  writing_more js at n hits w z≢ m k y e h q f o ef eo =
      let E = ending_at ps (head_of ps at) in
      let D = w.done in
      let F = failure_node ps g z at f w.within z≢ ef in
      let O = output_node ps g z f o F.0 eo in
      let L : listed ps (head_of ps at) ≡ E ++ listed ps (head_of ps o) = F.2 ∙ ap (λ (l : List ℕ). E ++ l) (sym O.2) in
      let l_l = ap length L ∙ length-append E (listed ps (head_of ps o)) in
      let l_d : length (place_words p D) ≡ 2 * n = length-place_words p D ∙ ap (λ (i : ℕ). 2 * i) (sym w.count) in
      let twice : 2 * n + 2 * length E ≡ 2 * (n + m) = omega arith in
      let words : take (2 * n) hits ++ (y ++ drop k (drop (2 * n) hits)) ≡ place_words p (D ++ E) ++ drop (2 * (n + m)) d =
      paste (place_words p D) (place_words p E) d hits y (2 * n) (2 * length E) k l_d (length-place_words p E) w.words h q
      ∙ ap₂ (λ (l : List ℕ) (i : ℕ). l ++ drop i d) (sym (place_words-append p D E)) twice in
      let l_DE : length (place_words p (D ++ E)) ≡ 2 * (n + m) = length-place_words p (D ++ E) ∙ (omega (arith, length-append D E, w.count)) in
      let sized : length (take (2 * n) hits ++ (y ++ drop k (drop (2 * n) hits))) ≡ length d =
      ap length words ∙ length-append (place_words p (D ++ E)) (drop (2 * (n + m)) d) ∙ (omega (arith, length-drop (2 * (n + m)) d, w.room, w.sized)) in (
        record {
          within = O.0;
          done = D ++ E;
          whole = w.whole ∙ ap (λ (l : List ℕ). D ++ l) L ∙ sym (append_assoc D E (listed ps (head_of ps o)));
          count = omega (arith, w.count, length-append D E);
          words = words;
          sized = sized;
          room = omega (arith, w.room, w.sized);
        },
        omega (arith, F.1, O.1),
      )

  -- at the root nothing is left
  pub writing_end : (js : List ℕ) (at n : ℕ) (hits : List ℕ) → Written ps p d js at n hits → at ≡ 0
      → (n ≡ length js) × (hits ≡ place_words p js ++ drop (2 * length js) d)
  writing_end js at n hits w e =
      let r : listed ps (head_of ps at) ≡ [] = ap (λ (i : ℕ). listed ps (head_of ps i)) e ∙ listed_node_root ps g z in
      let q : js ≡ w.done = w.whole ∙ ap (λ (l : List ℕ). w.done ++ l) r ∙ append-nil w.done in
      let k : n ≡ length js = w.count ∙ ap length (sym q) in
      (k, w.words ∙ ap₂ (λ (l : List ℕ) (i : ℕ). place_words p l ++ drop (2 * i) d) (sym q) k)
