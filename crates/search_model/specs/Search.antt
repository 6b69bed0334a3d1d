-- The state of a stream search: when it is accepted, one step and one call from any accepted state.
-- Document 01: A search state; refusal 8; Step; A ladder search. Document 02, 2.2 and 2.7.
use Rattle.std.specs.Prelude.{◌&&◌, ◌||◌, ◌∷◌, ◌++◌, ◌+◌, ◌-◌, ◌*◌, ◌%◌}
use Rattle.lists.specs.Prelude.{Bool, cond, List, [], map, ℕ, suc, eqb, leb, ltb, ℤ, length, take}
use Rattle.gaps.specs.Gaps.{is_gap}
use Rattle.answers.specs.declared.SearchState.{SearchState}
use Rattle.pattern_set.specs.PatternSet.{PatternSet}
use Rattle.matching.specs.Rise.{rise}
use Rattle.automaton_model.specs.Automaton.{nodes, head_of, node_of, advance, listed}
use Rattle.search_model.specs.Ring.{Ring, good_ring, distance_of, pushed, cleared}
use Rattle.search_model.specs.Recent.{keeping, good_recent, found_at}

-- where a search is: the values taken, the node, and the ring of its open minima
pub record Position : Type 0 where
  pub taken : ℕ
  pub node : ℕ
  pub ring : Ring

-- that of a state, whose word `first` counts modulo 256; and the state there that keeps these
-- values
abbrev pub position_of : SearchState → Position
position_of st =
    let ring : Ring = record { minima = st.minima; first = st.first % 256; places = st.places; values = st.values } in
    record { taken = st.taken; node = st.node; ring = ring }

abbrev pub state_at : Position → List ℤ → SearchState
state_at p recent =
    let r = p.ring in
    record { taken = p.taken; node = p.node; minima = r.minima; first = r.first; places = r.places; values = r.values; recent = recent }

-- a node of the automaton, not deeper than the values taken, and a good ring; at a node other than
-- 0 some minimum is open
unfoldable pub good_position : PatternSet → Position → Bool
good_position ps p =
    ltb p.node (length (nodes ps)) && leb (length (head_of ps p.node)) p.taken && leb p.taken 1048576
    && good_ring p.taken p.ring && (ltb 0 p.ring.minima || eqb p.node 0)

-- and good values kept
unfoldable pub good_state : PatternSet → SearchState → Bool
good_state ps st = let p = position_of st in good_position ps p && good_recent st.taken p.ring st.recent

-- ---- taking values, by a state of any kind

-- what one value does: the state after it, the hits at its place, the attempts
pub record Stepped (S : Type 0) : Type 0 where
  pub state : S
  pub hits : List (ℕ × ℕ)
  pub attempts : ℕ

-- what a call does: the state after it; 1 where the values ended and 0 where it is full; values
-- taken, hits and attempts
pub record Called (S : Type 0) : Type 0 where
  pub state : S
  pub ended : ℕ
  pub taken : ℕ
  pub hits : List (ℕ × ℕ)
  pub attempts : ℕ

abbrev pub stop : {S : Type 0} → S → ℕ → Called S
stop s ended = record { state = s; ended = ended; taken = 0; hits = []; attempts = 0 }

abbrev pub and_then : {S : Type 0} → Stepped S → Called S → Called S
and_then t r = record { state = r.state; ended = r.ended; taken = suc r.taken; hits = t.hits ++ r.hits; attempts = t.attempts + r.attempts }

-- until the values end (ended), or values are left and fewer than so many words of the hit array
-- are free (full); a hit uses two
unfoldable pub feed : {S : Type 0} → (S → ℤ → Stepped S) → ℕ → S → ℕ → List ℤ → Called S
feed next room s free [] = stop s 1
feed next room s free (x ∷ xs) =
    cond (ltb free room) (stop s 0) (and_then (next s x) (feed next room (next s x).state (free - 2 * length (next s x).hits) xs))

-- ---- the stream search

-- what a sample does
unfoldable pub sampled : PatternSet → Position → ℤ → Stepped Position
sampled ps p x =
    let r = advance ps (head_of ps p.node) (distance_of p.taken p.ring x) in
    let next : Position = record { taken = p.taken + 1; node = node_of ps r.0; ring = pushed p.taken p.ring x } in
    record { state = next; hits = map (λ j. (p.taken, j)) (listed ps r.0); attempts = r.1 }

-- what a gap does: it leads to node 0, clears the open minima and makes no attempt
abbrev pub skipped : Position → Stepped Position
skipped p = record { state = record { taken = p.taken + 1; node = 0; ring = cleared p.ring }; hits = []; attempts = 0 }

unfoldable pub step : PatternSet → Position → ℤ → Stepped Position
step ps p x = cond (is_gap x) (skipped p) (sampled ps p x)

-- a call with so many words free
abbrev pub call : PatternSet → Position → ℕ → List ℤ → Called Position
call ps p free xs = feed (step ps) (2 * length ps) p free xs

-- ---- what a call c leaves, that was given the state and handed the values

-- the state, which keeps the values taken
abbrev pub state_after : SearchState → List ℤ → Called Position → SearchState
state_after st xs c = state_at c.state (keeping st.taken st.recent (take c.taken xs))

-- the rises over its hits
abbrev pub rises_of : PatternSet → SearchState → List ℤ → Called Position → List ℤ
rises_of ps st xs c = map (rise ps (found_at st.taken st.recent xs)) c.hits
