-- `take_values` meets its contract: what is done so far and then the call from the present position
-- are the whole call (`Taking`).
use Rattle.std.specs.Prelude.{◌≡◌, ◌++◌, ◌+◌, ◌-◌, ◌*◌}
use Rattle.lists.proofs.Prelude.{◌∙◌, ap, refl, subst, map, ℕ, ℤ, pos, length, get_or, take, drop, arith}
use Rattle.matching.specs.Rise.{rise}
use Rattle.pattern_set.proofs.Good.{good_set_parts}
use Rattle.automaton_lookup.specs.View.{patterns}
use Rattle.automaton_lookup.proofs.Words.{made_good}
use Rattle.search_model.specs.Recent.{found_at}
use Rattle.search_model.specs.Search.{Position, step}
use Rattle.search_model.proofs.Good.{good, Good-few}
use Rattle.open_minima.specs.Pushes.{AreCounters, ring_from}
use Rattle.read_value.specs.Read.{position_at}
use Rattle.stream_call.specs.Numbers.{IsTaken}
use Rattle.stream_call.proofs.Taking.{Taking, Taking-start, Taking-more, Finished, taking_ended, taking_full, found_in}
use Rattle.stream_call.proofs.take_values.Goals.{Start, After-step-moved, Then-hits-found, After-loop-i}
use Rattle.stream_call.proofs.take_values.Goals as goal

-- where the call begins, and the values that it finds
abbrev from : Start → Position
from s = let a = s.args in position_at a.taken a.node a.first a.next a.places.now a.heights.now

-- the call after one value more
more : (c : After-step-moved) →
    let a = c.args in
    let L = c.loop-i in
    let r = c.step-moved in
    Taking (patterns a.automaton.now.records) (position_at a.taken a.node a.first a.next a.places.now a.heights.now) a.values.now a.hits.now
    (found_at a.taken a.recent.now a.values.now) a.rises.now
    (position_at (a.taken + L.i + 1) r.result.node r.result.first r.result.next r.new.places r.new.heights)
    (L.i + 1) (L.found + r.result.hits) (L.attempts + r.result.attempts)
    (take (2 * L.found) L.hits ++ (r.new.hits ++ drop (length L.hits - 2 * L.found) (drop (2 * L.found) L.hits)))
    (take L.found L.rises ++ (r.new.rises ++ drop (length L.rises - L.found) (drop L.found L.rises)))
more c =
    let a = c.args in
    let ps = patterns a.automaton.now.records in
    let m = a.automaton.now.records.begun in
    let L = c.loop-i in
    let r = c.step-moved in
    let s = step ps (position_at (a.taken + L.i) L.at L.oldest L.newest L.places L.heights) (get_or a.values.now L.i (pos 0)) in
    let part = take (length L.rises - L.found) (drop L.found L.rises) in
    let v = r.ensures.rises
    ∙ ap (λ (at : ℕ → ℤ). map (rise ps at) s.hits ++ drop (length s.hits) part) (found_in _ a.taken a.recent.now a.values.now refl refl refl) in
    Taking-more ps (made_good m) m.filled _ _ _ _ _ _ _ _ _ _ _ L.invariant.taking c.loop-i-test.true (omega (arith, c.if-hits-found.false, m.patterns))
    (position_at (a.taken + L.i + 1) r.result.node r.result.first r.result.next r.new.places r.new.heights) r.result.hits r.result.attempts _ _ _ _
    r.ensures.state r.ensures.attempts r.ensures.hits refl refl r.ensures.words v

pub loop-i-init : goal.loop-i-init
loop-i-init c =
    let a = c.args in
    let m = a.automaton.now.records.begun in
    let here : a.taken ≡ a.taken + 0 = omega arith in
    record {
      taking = subst (λ (n : ℕ). Taking (patterns a.automaton.now.records) (position_at a.taken a.node a.first a.next a.places.now a.heights.now)
          a.values.now a.hits.now (found_at a.taken a.recent.now a.values.now) a.rises.now
          (position_at n a.node a.first a.next a.places.now a.heights.now) 0 0 0 a.hits.now a.rises.now) here
          (Taking-start (patterns a.automaton.now.records) (made_good m) m.filled
          (position_at a.taken a.node a.first a.next a.places.now a.heights.now) a.values.now a.hits.now
          (found_at a.taken a.recent.now a.values.now) a.rises.now c.requires.depth c.requires.arrays
          (omega (arith, c.requires.node, a.automaton.now.whole)) c.requires.ring c.requires.sized.0 c.requires.sized.1);
      counters = subst (λ (n : ℕ). AreCounters n a.first a.next) here c.requires.are_counters;
    }

pub overflow_mul-view : goal.overflow_mul-view
overflow_mul-view c =
    let m = c.args.automaton.now.records.begun in
    omega (arith, m.patterns, (good_set_parts (patterns c.args.automaton.now.records) (made_good m)).0)

pub step-moved-requires : goal.step-moved-requires
step-moved-requires c =
    let L = c.loop-i in
    let t = L.invariant.taking in
    let m = c.args.automaton.now.records.begun in record {
      node = omega (arith, t.node, c.args.automaton.now.whole);
      room = (
        omega (arith, c.if-hits-found.false, m.patterns),
        omega (arith, c.if-hits-found.false, m.patterns, t.counted, t.sized, t.risen_sized, t.risen_room),
      );
      are_counters = L.invariant.counters;
      index = c.loop-i-test.true;
      place = refl;
      start = omega (arith, c.requires.taken);
      ring = t.ring;
      depth = t.depth;
    }

-- too few words are free
full : (c : Then-hits-found) →
    let a = c.args in
    let ps = patterns a.automaton.now.records in
    let m = a.automaton.now.records.begun in
    let L = c.loop-i in
    Finished ps (made_good m) m.filled (position_at a.taken a.node a.first a.next a.places.now a.heights.now) a.values.now a.hits.now
    (position_at (a.taken + L.i) L.at L.oldest L.newest L.places L.heights) L.i L.found L.attempts L.hits
    (found_at a.taken a.recent.now a.values.now) a.rises.now L.rises L.invariant.taking
full c =
    let ps = patterns c.args.automaton.now.records in
    let m = c.args.automaton.now.records.begun in
    taking_full ps (made_good m) m.filled _ _ _ _ _ _ _ _ _ _ _ c.loop-i.invariant.taking c.loop-i-test.true
    (omega (arith, c.if-hits-found.true, m.patterns))

pub returns-then-hits-found : goal.returns-then-hits-found
returns-then-hits-found c =
    let L = c.loop-i in
    let t = L.invariant.taking in
    let f = full (goal.at.returns-then-hits-found c).Then-hits-found in record {
      state = f.0;
      counters = L.invariant.counters;
      minima = (omega (
        arith,
        L.invariant.counters.ordered,
        Good-few (c.args.taken + L.i) (ring_from L.oldest L.newest L.places L.heights)
            (good (c.args.taken + L.i) (ring_from L.oldest L.newest L.places L.heights) t.ring),
      ));
      node = t.node;
      within = t.within;
      done = f.1;
    }

-- no value is left
ended : (c : After-loop-i) →
    let a = c.args in
    let ps = patterns a.automaton.now.records in
    let m = a.automaton.now.records.begun in
    let L = c.loop-i in
    Finished ps (made_good m) m.filled (position_at a.taken a.node a.first a.next a.places.now a.heights.now) a.values.now a.hits.now
    (position_at (a.taken + L.i) L.at L.oldest L.newest L.places L.heights) L.i L.found L.attempts L.hits
    (found_at a.taken a.recent.now a.values.now) a.rises.now L.rises L.invariant.taking
ended c =
    let ps = patterns c.args.automaton.now.records in
    let m = c.args.automaton.now.records.begun in
    taking_ended ps (made_good m) m.filled _ _ _ _ _ _ _ _ _ _ _ c.loop-i.invariant.taking c.loop-i-test.false

pub overflow_add-attempts : goal.overflow_add-attempts
overflow_add-attempts c =
    let t = more (goal.at.overflow_add-attempts c).After-step-moved in
    omega (arith, t.few, t.within, c.requires.taken)

pub loop-i-preserved : goal.loop-i-preserved
loop-i-preserved c =
    let a = c.args in
    let L = c.loop-i in
    let r = c.step-moved in
    let e : a.taken + L.i + 1 ≡ a.taken + (L.i + 1) = omega arith in
    record {
      taking = subst (λ (n : ℕ). Taking (patterns a.automaton.now.records) (position_at a.taken a.node a.first a.next a.places.now a.heights.now)
          a.values.now a.hits.now (found_at a.taken a.recent.now a.values.now) a.rises.now
          (position_at n r.result.node r.result.first r.result.next r.new.places r.new.heights)
          (L.i + 1) (L.found + r.result.hits) (L.attempts + r.result.attempts)
          (take (2 * L.found) L.hits ++ (r.new.hits ++ drop (length L.hits - 2 * L.found) (drop (2 * L.found) L.hits)))
          (take L.found L.rises ++ (r.new.rises ++ drop (length L.rises - L.found) (drop L.found L.rises)))) e
          (more (goal.at.loop-i-preserved c).After-step-moved);
      counters = subst (λ (n : ℕ). AreCounters n r.result.first r.result.next) e r.ensures.counters;
    }

pub returns : goal.returns
returns c =
    let a = c.args in
    let L = c.loop-i in
    let xs = a.values.now in
    let t = L.invariant.taking in
    let f = ended (goal.at.returns c).After-loop-i in
    let all : L.i ≡ length xs = omega (arith, t.within, c.loop-i-test.false) in
    subst (λ (n : ℕ). IsTaken (patterns a.automaton.now.records) (position_at a.taken a.node a.first a.next a.places.now a.heights.now) xs
    a.hits.now L.hits L.places L.heights (found_at a.taken a.recent.now xs) a.rises.now L.rises
    (record { first = L.oldest; next = L.newest; node = L.at; counts = record { taken = n; hits = L.found; attempts = L.attempts } })) all
    (record {
      state = f.0;
      counters = L.invariant.counters;
      minima = (omega (
        arith,
        L.invariant.counters.ordered,
        Good-few (a.taken + L.i) (ring_from L.oldest L.newest L.places L.heights)
            (good (a.taken + L.i) (ring_from L.oldest L.newest L.places L.heights) t.ring),
      ));
      node = t.node;
      within = t.within;
      done = f.1;
    })
