-- THE CALL, value by value: what is done so far and then the call from the present state are the
-- whole call. A step adds its hits, its attempts and its value; where no value is left or too few
-- words are free, nothing is left to do.
use Rattle.std.specs.Prelude.{◌≡◌, ◌∷◌, ◌++◌, ◌+◌, ◌-◌, ◌*◌, ◌%◌, ◌≤◌, ◌<◌}
use Rattle.lists.proofs.Prelude.{◌∙◌, ap, sym, refl, subst, ap₂, true, false, Bool, cond, List, [], map, append-nil, append_assoc, ℕ, suc}
use Rattle.lists.proofs.Prelude.{ℤ, pos, T, leb, length, get_or, take, drop, length-append, length-drop, drop_of_length-le, length-map}
use Rattle.lists.proofs.Prelude.{drop-cons, drop-drop, take_at, drop_at, take_all, arith, le-leb, lt-leb, lt-ltb, le-ltb}
use Rattle.lists.proofs.Parts.{map-append}
use Rattle.answers.specs.declared.Counts.{Counts}
use Rattle.answers.specs.declared.SearchState.{SearchState}
use Rattle.pattern_set.specs.PatternSet.{PatternSet, good_set}
use Rattle.matching.specs.Matching.{hit_words}
use Rattle.matching.specs.Rise.{rise}
use Rattle.automaton_model.specs.Automaton.{nodes, head_of, node_of, advance, listed}
use Rattle.search_model.specs.Search.{Position, Stepped, position_of, state_at, state_after, stop, and_then, Called, feed, sampled, step, call}
use Rattle.search_model.specs.Recent.{keeping, found_at}
use Rattle.search_model.specs.Ring.{Ring, good_ring, distance_of, aged, is_old, pushed}
use Rattle.search_model.proofs.Push.{pushed_good, cleared_good, pushed-places, pushed-values}
use Rattle.search_model.proofs.Ring.{aged-without, without}
use Rattle.search_model.proofs.Feed.{step_cases, step-taken}
use Rattle.automaton_model.proofs.Nodes.{node_root}
use Rattle.automaton_lookup.specs.Reached.{Reached}
use Rattle.automaton_lookup.proofs.Walk.{Reached-within, attempts_few}
use Rattle.compute_rises.specs.declared.Readings.{Readings}
use Rattle.compute_rises.specs.Values.{value_in}
use Rattle.stream_step.proofs.Listed.{length-listed}
use Rattle.node_rises.specs.Risen.{place_rises}
use Rattle.matching.proofs.HitWords.{length-hit_words, hit_words-append}
use Rattle.stream_call.specs.Taken.{IsDone}

-- ---- parts of an array

-- a part of an array from place a to its end, at whose front v is written behind f
paste : {A : Type 0} (f v d w y : List A) (a b k : ℕ) → length f ≡ a → length v ≡ b → w ≡ f ++ drop a d → k ≡ length w - a
    → y ≡ v ++ drop b (take k (drop a w)) → take a w ++ (y ++ drop k (drop a w)) ≡ (f ++ v) ++ drop (a + b) d
paste {A} f v d w y a b k lf lv e h q =
    let len : length (drop a w) ≤ k = simp length-drop (omega arith) in
    let h_a : take a w ≡ f = ap (take a) e ∙ take_at f (drop a d) a lf in
    let h_b : drop a w ≡ drop a d = ap (drop a) e ∙ drop_at f (drop a d) a lf in
    let h_c : drop k (drop a w) ≡ [] = drop_of_length-le (drop a w) {i = k} len in
    let h_t : take k (drop a w) ≡ drop a w = take_all k (drop a w) len in
    let h_y : y ≡ v ++ drop (a + b) d = q ∙ ap (λ (l : List A). v ++ drop b l) (h_t ∙ h_b) ∙ ap (λ (l : List A). v ++ l) (drop-drop b a d) in
    ap₂ (λ (l r : List A). l ++ r) h_a (ap₂ (λ (l r : List A). l ++ r) h_y h_c ∙ append-nil (v ++ drop (a + b) d)) ∙ sym (append_assoc f v (drop (a + b) d))

-- i values taken, the hits hs and a attempts made, and then a call
abbrev later : ℕ → List (ℕ × ℕ) → ℕ → Called Position → Called Position
later i hs a r = record { state = r.state; ended = r.ended; taken = i + r.taken; hits = hs ++ r.hits; attempts = a + r.attempts }

-- after i values of xs from the position st on, over the array lent
pub record Taking (ps : PatternSet) (st : Position) (xs : List ℤ) (lent : List ℕ) (at : ℕ → ℤ) (second : List ℤ) (here : Position) (i found attempts : ℕ)
    (hits : List ℕ) (rises : List ℤ) : Type 0 where
  pub done : List (ℕ × ℕ)
  pub whole : call ps st (length lent) xs ≡ later i done attempts (call ps here (length lent - 2 * found) (drop i xs))
  pub counted : found ≡ length done
  pub words : hits ≡ hit_words done ++ drop (2 * found) lent
  pub sized : length hits ≡ length lent
  pub room : 2 * found ≤ length lent
  pub within : i ≤ length xs
  pub taken : here.taken ≡ st.taken + i
  pub node : here.node < length (nodes ps)
  pub ring : good_ring here.taken here.ring ≡ true
  pub places : length here.ring.places ≡ 256
  pub values : length here.ring.values ≡ 256
  pub few : attempts ≤ 257 * i
  pub depth : length (head_of ps here.node) ≤ here.taken
  pub risen : rises ≡ map (rise ps at) done ++ drop found second
  pub risen_sized : length rises ≡ length second
  pub risen_room : length lent ≤ 2 * length second

-- ---- the ring starts in a slot

-- a state whose ring does is its position, and what it keeps
pub state_exact : (st : SearchState) → st.first < 256 → st ≡ state_at (position_of st) st.recent
state_exact st h = λ j. record st { first = (let q : st.first ≡ st.first % 256 = omega arith in q) j }

position_exact : (p : Position) (recent : List ℤ) → p.ring.first < 256 → position_of (state_at p recent) ≡ p
position_exact p recent h = λ j. record p { ring = record p.ring { first = (let q : p.ring.first % 256 ≡ p.ring.first = omega arith in q) j } }

-- the position of a state whose first slot is reduced is that of the state
pub entered : (st : SearchState) → position_of (record st { first = st.first % 256 }) ≡ position_of st
entered st = position_exact (position_of st) st.recent (omega arith)

-- what is told of a call from that state is told of one from the state
pub entered_done : (ps : PatternSet) (st : SearchState) (at : ℕ → ℤ) (xs : List ℤ) (before after : List ℕ) (second left : List ℤ) (n : Counts)
    → IsDone ps at xs (call ps (position_of (record st { first = st.first % 256 })) (length before) xs) before after second left n
    → IsDone ps at xs (call ps (position_of st) (length before) xs) before after second left n
entered_done ps st at xs before after second left n d =
    subst (λ (p : Position). IsDone ps at xs (call ps p (length before) xs) before after second left n) (entered st) d

-- and the state that it leaves, once the values taken are kept, is the one after the call
pub left_is : (ps : PatternSet) (st s : SearchState) (xs : List ℤ) (free n : ℕ)
    → s ≡ state_at (call ps (position_of (record st { first = st.first % 256 })) free xs).state st.recent
    → n ≡ (call ps (position_of (record st { first = st.first % 256 })) free xs).taken
    → record s { recent = keeping st.taken s.recent (take n xs) } ≡ state_after st xs (call ps (position_of st) free xs)
left_is ps st s xs free n e k =
    let from : Position → Called Position = λ p. call ps p free xs in
    let mine = from (position_of (record st { first = st.first % 256 })) in
    ap (λ (s : SearchState). record s { recent = keeping st.taken s.recent (take n xs) }) e
    ∙ ap (λ (m : ℕ). state_at mine.state (keeping st.taken st.recent (take m xs))) k
    ∙ ap (λ (p : Position). state_after st xs (from p)) (entered st)

aged_first : (taken : ℕ) (r : Ring) → r.first < 256 → (aged taken r).first < 256
aged_first taken r h = rw aged-without (go (is_old taken r))
  where
    go : (b : Bool) → (without r b).first < 256
    go true = omega arith
    go false = h

step_first : (ps : PatternSet) (p : Position) (x : ℤ) → p.ring.first < 256 → (step ps p x).state.ring.first < 256
unfolding sampled pushed
step_first ps p x h = step_cases ps p x (λ s. s.state.ring.first < 256) (λ o. h) (λ o. aged_first p.taken p.ring h)

-- so after a step too
pub stepped_first : (ps : PatternSet) (st st' : SearchState) (x : ℤ) (recent : List ℤ) → st' ≡ state_at (step ps (position_of st) x).state recent
    → st'.first < 256
stepped_first ps st st' x recent e =
    subst (λ (s : SearchState). s.first < 256) (sym e) (step_first ps (position_of st) x (omega arith))

pub stepped_position : (ps : PatternSet) (st st' : SearchState) (x : ℤ) (recent : List ℤ) → st' ≡ state_at (step ps (position_of st) x).state recent
    → position_of st' ≡ (step ps (position_of st) x).state
stepped_position ps st st' x recent e =
    ap position_of e ∙ position_exact (step ps (position_of st) x).state recent (step_first ps (position_of st) x (omega arith))

-- ---- the values read

pub found_in : (r : Readings) (start : ℕ) (recent xs : List ℤ) → r.start ≡ start → r.recent.now ≡ recent → r.values.now ≡ xs
    → value_in r ≡ found_at start recent xs
unfolding value_in
found_in r start recent xs a b c = rw (a, b, c) refl

-- ---- one step

-- its hits are those listed at the node, and so are the rises over them
module _ (ps : PatternSet) (s : Stepped Position) (place : ℕ) (js : List ℕ) (e : s.hits ≡ map (λ (j : ℕ). (place, j)) js) where
  pub stepped_hits : length js ≡ length s.hits
  stepped_hits = sym (ap length e ∙ length-map {B = ℕ × ℕ} js (λ (j : ℕ). (place, j)))

  pub stepped_rises : (f at : ℕ → ℤ) (second : List ℤ) → f ≡ at
      → place_rises ps f place js ++ drop (length js) second ≡ map (rise ps at) s.hits ++ drop (length s.hits) second
  stepped_rises f at second q =
      ap (λ (g : ℕ → ℤ). place_rises ps g place js ++ drop (length js) second) q
      ∙ ap₂ (λ (hs : List (ℕ × ℕ)) (m : ℕ). map (rise ps at) hs ++ drop m second) (sym e) stepped_hits

module _ (ps : PatternSet) (g : T (good_set ps)) (z : 0 < length ps) where
  -- a step has at most a hit a pattern
  pub step_hits : (st : Position) (x : ℤ) → length (step ps st x).hits ≤ length ps
  unfolding sampled
  step_hits st x =
      let h = (advance ps (head_of ps st.node) (distance_of st.taken st.ring x)).0 in
      step_cases ps st x (λ s. length s.hits ≤ length ps) (λ o. omega arith)
      (λ o. omega (arith, length-map {B = ℕ × ℕ} (listed ps h) (λ j. (st.taken, j)), length-listed ps g h))

  -- and leads to a node, by at most 257 attempts
  pub step-node : (st : Position) (x : ℤ) → st.node < length (nodes ps) → ((step ps st x).state.node < length (nodes ps)) × ((step ps st x).attempts ≤ 257)
  unfolding sampled
  step-node st x h =
      let d = distance_of st.taken st.ring x in
      let r : Reached ps st.node d (node_of ps (advance ps (head_of ps st.node) d).0) (advance ps (head_of ps st.node) d).1 = record {
        node = refl;
        attempts = refl;
      } in
      step_cases ps st x (λ s. (s.state.node < length (nodes ps)) × (s.attempts ≤ 257)) (λ o. ((node_root ps g z).2, omega arith))
      (λ o. ((Reached-within ps g z d st.node _ _ r).0, attempts_few ps g z d st.node _ _ h r))

  -- whose head is at most one distance longer, and so not longer than what is taken
  pub step_depth : (p : Position) (x : ℤ) → length (head_of ps p.node) ≤ p.taken → length (head_of ps (step ps p x).state.node) ≤ p.taken + 1
  unfolding sampled
  step_depth p x l =
      let d = distance_of p.taken p.ring x in
      let a = advance ps (head_of ps p.node) d in
      let r : Reached ps p.node d (node_of ps a.0) a.1 = record { node = refl; attempts = refl } in
      step_cases ps p x (λ s. length (head_of ps s.state.node) ≤ p.taken + 1) (λ o. omega (arith, ap length (node_root ps g z).0))
      (λ o. omega (arith, (Reached-within ps g z d p.node (node_of ps a.0) a.1 r).2))

  step_good : (st : Position) (x : ℤ) → length st.ring.places ≡ 256 → length st.ring.values ≡ 256 → good_ring st.taken st.ring ≡ true
      → good_ring (st.taken + 1) (step ps st x).state.ring ≡ true
  unfolding sampled
  step_good st x p v e =
      step_cases ps st x (λ s. good_ring (st.taken + 1) s.state.ring ≡ true) (λ o. cleared_good (st.taken + 1) st.ring)
      (λ o. pushed_good st.taken st.ring x p v e)

  step_places : (st : Position) (x : ℤ) → length (step ps st x).state.ring.places ≡ length st.ring.places
  unfolding sampled
  step_places st x =
      step_cases ps st x (λ s. length s.state.ring.places ≡ length st.ring.places) (λ o. refl) (λ o. pushed-places st.taken st.ring x)

  step_values : (st : Position) (x : ℤ) → length (step ps st x).state.ring.values ≡ length st.ring.values
  unfolding sampled
  step_values st x =
      step_cases ps st x (λ s. length s.state.ring.values ≡ length st.ring.values) (λ o. refl) (λ o. pushed-values st.taken st.ring x)

  -- ---- the call

  pub Taking-start : (st : Position) (xs : List ℤ) (lent : List ℕ) (at : ℕ → ℤ) (second : List ℤ) → length (head_of ps st.node) ≤ st.taken
      → length lent ≤ 2 * length second → st.node < length (nodes ps) → good_ring st.taken st.ring ≡ true
      → length st.ring.places ≡ 256 → length st.ring.values ≡ 256
      → Taking ps st xs lent at second st 0 0 0 lent second
  unfolding hit_words
  Taking-start st xs lent at second deep long n m p v =
      record {
        done = [];
        whole = start;
        counted = refl;
        words = refl;
        sized = refl;
        room = omega arith;
        within = omega arith;
        taken = omega arith;
        node = n;
        ring = m;
        places = p;
        values = v;
        few = omega arith;
        depth = deep;
        risen = refl;
        risen_sized = refl;
        risen_room = long;
      }
    where
      start : call ps st (length lent) xs ≡ later 0 [] 0 (call ps st (length lent - 2 * 0) (drop 0 xs))
      start = ap (λ (n : ℕ). call ps st n xs) (let q : length lent ≡ length lent - 2 * 0 = omega arith in q) ∙ itself (call ps st (length lent - 2 * 0) xs)
        where
          zero-add : (n : ℕ) → n ≡ 0 + n
          zero-add n = omega arith

          itself : (c : Called Position) → c ≡ later 0 [] 0 c
          itself c = λ j. record c { taken = zero-add c.taken j; attempts = zero-add c.attempts j }

  feed_more : (here : Position) (free : ℕ) (x : ℤ) (xs : List ℤ) → 2 * length ps ≤ free
      → call ps here free (x ∷ xs) ≡ and_then (step ps here x) (call ps (step ps here x).state (free - 2 * length (step ps here x).hits) xs)
  unfolding feed
  feed_more here free x xs h = rw (le-ltb free (2 * length ps) h) refl

  -- one value more
  module _ (st : Position) (xs : List ℤ) (lent : List ℕ) (at : ℕ → ℤ) (second : List ℤ) (here : Position) (i found attempts : ℕ) (hits : List ℕ)
      (rises : List ℤ) (t : Taking ps st xs lent at second here i found attempts hits rises) (l : i < length xs)
      (room : 2 * length ps ≤ length hits - 2 * found) where
    x : ℤ
    x = get_or xs i (pos 0)

    abbrev n : Stepped Position
    n = step ps here x

    pub Taking-more : (next : Position) (h a k q : ℕ) (y : List ℕ) (v : List ℤ) → next ≡ (step ps here (get_or xs i (pos 0))).state
        → a ≡ (step ps here (get_or xs i (pos 0))).attempts → h ≡ length (step ps here (get_or xs i (pos 0))).hits
        → k ≡ length hits - 2 * found → q ≡ length rises - found
        → y ≡ hit_words (step ps here (get_or xs i (pos 0))).hits ++ drop (2 * length (step ps here (get_or xs i (pos 0))).hits)
        (take k (drop (2 * found) hits))
        → v ≡ map (rise ps at) (step ps here (get_or xs i (pos 0))).hits ++ drop (length (step ps here (get_or xs i (pos 0))).hits) (take q (drop found rises))
        → Taking ps st xs lent at second next (i + 1) (found + h) (attempts + a)
        (take (2 * found) hits ++ (y ++ drop k (drop (2 * found) hits))) (take found rises ++ (v ++ drop q (drop found rises)))
    unfolding x
    Taking-more next h a k q y v en ea eh ek eq ey ev =
        let D = t.done in
        let few = step_hits here x in
        let on = step-node here x t.node in
        let free : 2 * length ps ≤ length lent - 2 * found = omega (arith, t.sized, room) in
        let R : List (ℕ × ℕ) → List ℤ = map (rise ps at) in
        let count : found + h ≡ length (D ++ n.hits) = omega (arith, eh, t.counted, length-append D n.hits) in
        let words : take (2 * found) hits ++ (y ++ drop k (drop (2 * found) hits)) ≡ hit_words (D ++ n.hits) ++ drop (2 * (found + h)) lent =
        paste (hit_words D) (hit_words n.hits) lent hits y (2 * found) (2 * length n.hits) k (length-hit_words D ∙ ap (λ (m : ℕ). 2 * m) (sym t.counted))
        (length-hit_words n.hits) t.words ek ey
        ∙ ap₂ (λ (w : List ℕ) (j : ℕ). w ++ drop j lent) (sym (hit_words-append D n.hits))
        (let z : 2 * found + 2 * length n.hits ≡ 2 * (found + h) = omega (arith, eh) in z) in
        let risen : take found rises ++ (v ++ drop q (drop found rises)) ≡ R (D ++ n.hits) ++ drop (found + h) second =
        paste (R D) (R n.hits) second rises v found (length n.hits) q (length-map D (rise ps at) ∙ sym t.counted) (length-map n.hits (rise ps at)) t.risen eq ev
        ∙ ap₂ (λ (w : List ℤ) (j : ℕ). w ++ drop (found + j) second) (sym (map-append (rise ps at) D n.hits)) (sym eh) in
        let fits : 2 * (found + h) ≤ length lent = omega (arith, eh, few, free, t.room) in
        let c = call ps n.state (length lent - 2 * found - 2 * length n.hits) (drop (suc i) xs) in
        let one : call ps here (length lent - 2 * found) (drop i xs) ≡ and_then n c =
        ap (call ps here (length lent - 2 * found)) (drop-cons xs i (pos 0) l) ∙ feed_more here (length lent - 2 * found) x (drop (suc i) xs) free in
        let less : length lent - 2 * found - 2 * length n.hits ≡ length lent - 2 * (found + h) = omega (arith, eh) in
        let again : c ≡ call ps next (length lent - 2 * (found + h)) (drop (i + 1) xs) =
        ap₂ (λ (s : Position) (f : ℕ). call ps s f (drop (suc i) xs)) (sym en) less
        ∙ ap (λ (j : ℕ). call ps next (length lent - 2 * (found + h)) (drop j xs)) (let z : suc i ≡ i + 1 = omega arith in z) in
        let shifted : later i D attempts (and_then n c) ≡ later (i + 1) (D ++ n.hits) (attempts + a) c =
        λ j. record {
          state = c.state;
          ended = c.ended;
          taken = (let z : i + suc c.taken ≡ i + 1 + c.taken = omega arith in z) j;
          hits = sym (append_assoc D n.hits c.hits) j;
          attempts = (let z : attempts + (n.attempts + c.attempts) ≡ attempts + a + c.attempts = omega (arith, ea) in z) j;
        } in
        record {
          done = D ++ n.hits;
          whole = t.whole ∙ ap (later i D attempts) one ∙ shifted ∙ ap (later (i + 1) (D ++ n.hits) (attempts + a)) again;
          counted = count;
          words = words;
          sized =
              ap length words ∙ length-append (hit_words (D ++ n.hits)) (drop (2 * (found + h)) lent)
              ∙ omega (arith, length-hit_words (D ++ n.hits), length-drop (2 * (found + h)) lent, count, fits);
          room = fits;
          within = omega (arith, l);
          taken = omega (arith, t.taken, ap (λ (p : Position). p.taken) en, step-taken ps here x);
          node = subst (λ (p : Position). p.node < length (nodes ps)) (sym en) on.0;
          ring = subst (λ (p : Position). good_ring p.taken p.ring ≡ true) (sym en)
              (rw (sym (step-taken ps here x)) at (step_good here x t.places t.values t.ring));
          places = ap (λ (p : Position). length p.ring.places) en ∙ step_places here x ∙ t.places;
          values = ap (λ (p : Position). length p.ring.values) en ∙ step_values here x ∙ t.values;
          few = omega (arith, t.few, on.1, ea);
          depth = omega (
            arith,
            ap (λ (p : Position). length (head_of ps p.node)) en,
            ap (λ (p : Position). p.taken) en,
            step-taken ps here x,
            step_depth here x t.depth,
          );
          risen = risen;
          risen_sized =
              ap length risen ∙ length-append (R (D ++ n.hits)) (drop (found + h) second)
              ∙ omega (arith, length-map (D ++ n.hits) (rise ps at), length-drop (found + h) second, count, fits, t.risen_room);
          risen_room = t.risen_room;
        }

  -- ---- the end

  nothing : (i : ℕ) (hs : List (ℕ × ℕ)) (a : ℕ) (here : Position) (e : ℕ)
      → later i hs a (stop here e) ≡ record { state = here; ended = e; taken = i; hits = hs; attempts = a }
  nothing i hs a here e = λ j. record { state = here; ended = e; taken = add-zero i j; hits = append-nil hs j; attempts = add-zero a j }
    where
      add-zero : (m : ℕ) → m + 0 ≡ m
      add-zero m = omega arith

  feed_ended : (here : Position) (free : ℕ) (xs : List ℤ) (i : ℕ) → length xs ≤ i → call ps here free (drop i xs) ≡ stop here 1
  unfolding feed
  feed_ended here free xs i h = ap (call ps here free) (drop_of_length-le xs {i = i} h)

  feed_full : (here : Position) (free : ℕ) (xs : List ℤ) (i : ℕ) → i < length xs → free < 2 * length ps → call ps here free (drop i xs) ≡ stop here 0
  unfolding feed
  feed_full here free xs i h f = ap (call ps here free) (drop-cons xs i (pos 0) h) ∙ (rw (lt-ltb free (2 * length ps) f) refl)

  -- what is done is the call where nothing is left to do
  module _ (p : Position) (xs : List ℤ) (lent : List ℕ) (here : Position) (i found attempts : ℕ) (hits : List ℕ) (at : ℕ → ℤ) (second rises : List ℤ)
      (t : Taking ps p xs lent at second here i found attempts hits rises) where
    abbrev pub Finished : Type 0
    Finished =
        (here ≡ (call ps p (length lent) xs).state)
        × IsDone ps at xs (call ps p (length lent) xs) lent hits second rises (record { taken = i; hits = found; attempts = attempts })

    finish : (e : ℕ) → call ps here (length lent - 2 * found) (drop i xs) ≡ stop here e → e ≡ cond (leb (length xs) i) 1 0 → Finished
    finish e s q =
        let w : call ps p (length lent) xs ≡ record { state = here; ended = e; taken = i; hits = t.done; attempts = attempts } =
        t.whole ∙ ap (later i t.done attempts) s ∙ nothing i t.done attempts here e in
        let c = ap (λ (c : Called Position). c.hits) (sym w) in (
          ap (λ (c : Called Position). c.state) (sym w),
          record {
            taken = ap (λ (c : Called Position). c.taken) (sym w);
            hits = t.counted ∙ ap length c;
            attempts = ap (λ (c : Called Position). c.attempts) (sym w);
            ended = ap (λ (c : Called Position). c.ended) w ∙ q;
            words = t.words ∙ ap₂ (λ (hs : List (ℕ × ℕ)) (j : ℕ). hit_words hs ++ drop (2 * j) lent) c (t.counted ∙ ap length c);
            rises = t.risen ∙ ap₂ (λ (hs : List (ℕ × ℕ)) (j : ℕ). map (rise ps at) hs ++ drop j second) c (t.counted ∙ ap length c);
          },
        )

    pub taking_ended : length xs ≤ i → Finished
    taking_ended h = finish 1 (feed_ended here (length lent - 2 * found) xs i h) (rw (le-leb (length xs) i h) refl)

    pub taking_full : i < length xs → length hits - 2 * found < 2 * length ps → Finished
    taking_full h f =
        finish 0 (feed_full here (length lent - 2 * found) xs i h (omega (arith, t.sized, f))) (rw (lt-leb (length xs) i h) refl)
