-- ACCEPTED STATES: what is known of one, and the check's tests, in their order, which decide
-- whether a state is good.
use Rattle.std.specs.Prelude.{◌≡◌, ◌&&◌, ◌||◌, ◌≤◌, ◌<◌}
use Rattle.lists.proofs.Prelude.{◌∙◌, ap, sym, refl, Bool, true, false, T, eqb, leb, ltb, leb→le, ltb→lt, length, le-leb, lt-leb}
use Rattle.lists.proofs.Prelude.{lt-ltb, le-ltb, eq-eqb, ne_eqb, dec_lt, arith}
use Rattle.lists.proofs.Tests.{T-true, true-T, and_split, and-true, and-false}
use Rattle.pattern_set.specs.PatternSet.{PatternSet, good_set}
use Rattle.automaton_model.specs.Automaton.{nodes, head_of}
use Rattle.automaton_model.proofs.Nodes.{node_longer}
use Rattle.answers.specs.declared.SearchState.{SearchState}
use Rattle.search_model.specs.Ring.{good_ring}
use Rattle.search_model.specs.Recent.{good_recent}
use Rattle.search_model.specs.Search.{Position, good_position, good_state, position_of}

-- what is known of an accepted state
pub record Accepted (ps : PatternSet) (st : Position) : Type 0 where
  pub node : st.node < length (nodes ps)
  pub depth : length (head_of ps st.node) ≤ st.taken
  pub taken : st.taken ≤ 1048576
  pub ring : good_ring st.taken st.ring ≡ true
  pub some : T (ltb 0 st.ring.minima || eqb st.node 0)

module _ (ps : PatternSet) (st : Position) where
  pub accepted : good_position ps st ≡ true → Accepted ps st
  unfolding good_position
  accepted e =
      let node = ltb st.node (length (nodes ps)) in
      let deep = leb (length (head_of ps st.node)) st.taken in
      let few = leb st.taken 1048576 in
      let ring = good_ring st.taken st.ring in
      let all = and_split (node && deep && few && ring) (ltb 0 st.ring.minima || eqb st.node 0) (T-true (good_position ps st) e) in
      let a = and_split (node && deep && few) ring all.0 in
      let b = and_split (node && deep) few a.0 in
      let c = and_split node deep b.0 in
      record {
        node = ltb→lt st.node (length (nodes ps)) c.0;
        depth = leb→le (length (head_of ps st.node)) st.taken c.1;
        taken = leb→le st.taken 1048576 b.1;
        ring = true-T ring a.1;
        some = all.1;
      }

  -- ---- states that are not good

  -- its node is none of the automaton's
  pub state_outside : length (nodes ps) ≤ st.node → false ≡ good_position ps st
  unfolding good_position
  state_outside h = rw (le-ltb st.node (length (nodes ps)) h) refl

  -- its node is deeper than the values taken
  pub state_deep : st.node < length (nodes ps) → st.taken < length (head_of ps st.node) → false ≡ good_position ps st
  unfolding good_position
  state_deep h d = rw (lt-ltb st.node (length (nodes ps)) h, lt-leb (length (head_of ps st.node)) st.taken d) refl

  -- more values are taken than a search takes
  pub state_long : st.node < length (nodes ps) → length (head_of ps st.node) ≤ st.taken → 1048576 < st.taken → false ≡ good_position ps st
  unfolding good_position
  state_long h d l = rw (lt-ltb st.node (length (nodes ps)) h, le-leb (length (head_of ps st.node)) st.taken d, lt-leb st.taken 1048576 l) refl

  -- its node is not 0, and no minimum is open
  pub state_empty : ltb 0 st.ring.minima || eqb st.node 0 ≡ false → false ≡ good_position ps st
  unfolding good_position
  state_empty e = sym (ap (λ (b : Bool). rest && b) e ∙ and-false rest)
    where
      rest : Bool
      rest =
          ltb st.node (length (nodes ps))
          && leb (length (head_of ps st.node)) st.taken
          && leb st.taken 1048576
          && good_ring st.taken st.ring

  -- the open minima decide
  pub state_minima : st.node < length (nodes ps) → length (head_of ps st.node) ≤ st.taken → st.taken ≤ 1048576
      → ltb 0 st.ring.minima || eqb st.node 0 ≡ true
      → good_ring st.taken st.ring ≡ good_position ps st
  unfolding good_position
  state_minima h d l e =
      rw (lt-ltb st.node (length (nodes ps)) h, le-leb (length (head_of ps st.node)) st.taken d, le-leb st.taken 1048576 l, e)
      (sym (and-true (good_ring st.taken st.ring)))

-- ---- the words of documents 01 and 02

-- a state with values taken may have no open minimum only at node 0, and one with none taken may:
-- its node is 0, since no other is of depth 0
pub minimum_rule : (ps : PatternSet) (st : Position) → T (good_set ps) → 0 < length ps → st.node < length (nodes ps)
    → length (head_of ps st.node) ≤ st.taken
    → ltb 0 st.ring.minima || eqb st.node 0 ≡ ltb 0 st.ring.minima || (eqb st.taken 0 || eqb st.node 0)
minimum_rule ps st g z h d = ap (λ (b : Bool). ltb 0 st.ring.minima || b) (go (dec_lt 0 st.taken))
  where
    root : st.taken ≤ 0 → Dec (0 < st.node) → st.node ≡ 0
    root l (yes p) = absurd (let y : ⊥ = omega (arith, d, node_longer ps g z st.node p h) in y)
    root l (no f) = omega arith

    go : Dec (0 < st.taken) → eqb st.node 0 ≡ eqb st.taken 0 || eqb st.node 0
    go (yes p) = rw (ne_eqb st.taken 0 (λ e. let y : ⊥ = omega arith in y)) refl
    go (no f) =
        let n = root (omega arith) (dec_lt 0 st.node) in
        rw (eq-eqb st.taken 0 (omega arith)) (eq-eqb st.node 0 n)

-- ---- an accepted state of a caller

module _ (ps : PatternSet) (st : SearchState) where
  -- it is good where its position and the values kept are
  pub good_both : good_position ps (position_of st) && good_recent st.taken (position_of st).ring st.recent ≡ good_state ps st
  unfolding good_state
  good_both = refl

  pub good_parts : good_state ps st ≡ true
      → (good_position ps (position_of st) ≡ true) × (good_recent st.taken (position_of st).ring st.recent ≡ true)
  good_parts e =
      let a = good_position ps (position_of st) in
      let b = good_recent st.taken (position_of st).ring st.recent in
      let both = and_split a b (T-true (a && b) (good_both ∙ e)) in
      (true-T a both.0, true-T b both.1)

  pub state-Accepted : good_state ps st ≡ true → Accepted ps (position_of st)
  state-Accepted e = accepted ps (position_of st) (good_parts e).0
