-- WHAT AN ACCEPTED CALL LEAVES: it enters at the position of the state, and the state that it makes
-- keeps the values taken.
use Rattle.std.specs.Prelude.{◌≡◌, ◌+◌, ◌-◌, ◌%◌}
use Rattle.lists.proofs.Prelude.{ap, sym, subst, ap₂, true, List, ℕ, ℤ, take, length, arith}
use Rattle.answers.specs.declared.SearchState.{SearchState}
use Rattle.pattern_set.specs.PatternSet.{PatternSet}
use Rattle.search_model.specs.Ring.{good_ring}
use Rattle.search_model.specs.Recent.{keeping}
use Rattle.search_model.specs.Search.{Position, position_of, state_at, state_after, good_state, call}
use Rattle.search_model.proofs.Accepted.{state-Accepted}
use Rattle.search_model.proofs.Good.{good, Good-few}
use Rattle.open_minima.specs.Pushes.{AreCounters}
use Rattle.read_value.specs.Read.{position_at}
use Rattle.stream_call.specs.Taken.{IsDone}
use Rattle.stream_call.specs.declared.Taken.{Taken}
use Rattle.stream_call.specs.Numbers.{IsTaken}

-- ---- where the call enters

-- the position of a state, with the counters of its ring
abbrev pub entered_at : SearchState → Position
entered_at st = position_at st.taken st.node (st.first % 256) (st.first % 256 + st.minima) st.places st.values

pub entered_is : (st : SearchState) → entered_at st ≡ position_of st
entered_is st =
    let minima : st.first % 256 + st.minima - st.first % 256 ≡ st.minima = omega arith in
    let first : st.first % 256 % 256 ≡ st.first % 256 = omega arith in
    λ i. record { taken = st.taken; node = st.node; ring = record { minima = minima i; first = first i; places = st.places; values = st.values } }

module _ (ps : PatternSet) (st : SearchState) (e : good_state ps st ≡ true) where
  pub entered-ring : good_ring st.taken (entered_at st).ring ≡ true
  entered-ring = subst (λ (p : Position). good_ring st.taken p.ring ≡ true) (sym (entered_is st)) (state-Accepted ps st e).ring

  pub entered_counters : AreCounters st.taken (st.first % 256) (st.first % 256 + st.minima)
  entered_counters =
      let r = (position_of st).ring in
      record { ordered = omega arith; small = omega (arith, Good-few st.taken r (good st.taken r (state-Accepted ps st e).ring)) }

-- ---- what is left

module _ (ps : PatternSet) (st : SearchState) (xs : List ℤ) (before after places : List ℕ) (values : List ℤ) (at : ℕ → ℤ) (second left : List ℤ) (r : Taken)
    (t : IsTaken ps (entered_at st) xs before after places values at second left r) where
  taken_is : IsTaken ps (position_of st) xs before after places values at second left r
  taken_is = subst (λ (p : Position). IsTaken ps p xs before after places values at second left r) (entered_is st) t

  pub done_is : IsDone ps at xs (call ps (position_of st) (length before) xs) before after second left r.counts
  done_is = taken_is.done

  -- the call, with the values taken kept
  pub kept_is : state_at (position_at (st.taken + r.counts.taken) r.node r.first r.next places values) (keeping st.taken st.recent (take r.counts.taken xs))
      ≡ state_after st xs (call ps (position_of st) (length before) xs)
  kept_is =
      let w = taken_is in
      ap₂ state_at w.state (ap (λ (n : ℕ). keeping st.taken st.recent (take n xs)) w.done.taken)
