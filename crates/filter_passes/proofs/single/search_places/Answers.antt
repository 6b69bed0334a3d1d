-- The loop keeps where the pass stands; what it has written and the hits from there on make the
-- list, and so do the rises.
use Rattle.std.specs.Prelude.{◌+◌}
use Rattle.lists.proofs.Prelude.{◌∙◌, ap, subst, List, map, ℕ, suc, sets, length, take, arith}
use Rattle.pattern_set.specs.PatternSet.{PatternSet}
use Rattle.pattern_set.proofs.IsSet.{set_good}
use Rattle.matching.specs.Matching.{hits_at, shortest, is_candidate, hit_words}
use Rattle.matching.specs.Rise.{rise_in}
use Rattle.filter_windows.specs.Looks.{SetOf}
use Rattle.filter_windows.specs.Patterns.{patterns}
use Rattle.filter_passes.specs.Passes.{rest_hits, NoneFrom}
use Rattle.filter_passes.proofs.Lists.{hits_all, hits_end, hits_step}
use Rattle.filter_passes.proofs.Places.{bits_le}
use Rattle.filter_passes.proofs.Scan.{Scan, Stands-start, Scan-start, Scan-skip, Scan-next, scan_end, rest_skip}
use Rattle.filter_passes.proofs.Written.{Written, Written-start, Written-none, written_room, part_room, Written-behind, written_end}
use Rattle.filter_passes.proofs.single.search_places.Goals.{In-Some}
use Rattle.filter_passes.proofs.single.search_places.Goals as goal

-- what the pass finds, of the patterns that the two tables have
found : (c : In-Some) →
    let ps = patterns c.args.tables.now.tables in
    let text = c.args.text.now in
    let q = c.in-Some.stop.at.place in
    NoneFrom ps text c.loop-stop.at.place q × SetOf ps (is_candidate (shortest 17 ps) (take (suc q) text)) c.in-Some.stop.candidates
found c =
    let text = c.args.text.now in
    let q = c.in-Some.stop.at.place in
    let h = c.in-Some.ensures in
    subst
    (λ (ps : PatternSet). NoneFrom ps text c.loop-stop.at.place q
    × SetOf ps (is_candidate (shortest 17 ps) (take (suc q) text)) c.in-Some.stop.candidates) c.requires.same (h.3, h.5)

-- where the pass stops
stopped : (c : In-Some) →
    let L = c.loop-stop in
    let a = c.args in
    let ps = patterns a.tables.now.tables in
    let text = a.text.now in
    let q = c.in-Some.stop.at.place in
    Scan ps text q L.count × Written (rise_in ps text) a.out.now L.out a.rises.now L.rises L.to (rest_hits ps text 0) (rest_hits ps text q)
stopped c =
    let L = c.loop-stop in
    let a = c.args in
    let t = a.tables.now.tables in
    let ps = patterns t in
    let text = a.text.now in
    let good = set_good t.windows.set.now t.windows.good in
    let h = c.in-Some.ensures in
    let q = c.in-Some.stop.at.place in (
      Scan-skip ps text L.at.place L.count good L.invariant.1 q h.1 (found c).0,
      Written-none (rise_in ps text) a.out.now L.out a.rises.now L.rises L.to (rest_hits ps text 0) (rest_hits ps text L.at.place) L.invariant.2
          (rest_hits ps text q) (rest_skip ps text L.at.place q good h.1 (omega (arith, h.2)) (found c).0),
    )

pub loop-stop-init : goal.loop-stop-init
loop-stop-init c =
    let a = c.args in
    let ps = patterns a.tables.now.tables in
    let text = a.text.now in
    let all = ap length (hits_all ps text) in (
      Stands-start text,
      Scan-start ps text,
      Written-start (rise_in ps text) a.out.now a.rises.now (rest_hits ps text 0) (omega (arith, c.requires.text_len_bound.1, all))
          (omega (arith, c.requires.text_in_bounds, all)),
    )

pub overflow_add-count : goal.overflow_add-count
overflow_add-count c =
    omega (
      arith,
      c.requires.text_len_bound.0,
      (stopped (goal.at.overflow_add-count c).In-Some).0.bound,
      c.in-Some.ensures.2,
      c.size-count.ensures,
      bits_le c.in-Some.stop.candidates,
    )

pub likely_among-likely-requires-clause-set_of : goal.likely_among-likely-requires-clause-set_of
likely_among-likely-requires-clause-set_of c = (found (goal.at.likely_among-likely-requires-clause-set_of c).In-Some).1

pub write_place-to-requires-clause-room : goal.write_place-to-requires-clause-room
write_place-to-requires-clause-room c =
    let L = c.loop-stop in
    let a = c.args in
    let ps = patterns a.tables.now.tables in
    let text = a.text.now in
    let q = c.in-Some.stop.at.place in
    part_room (rise_in ps text) a.out.now L.out a.rises.now L.rises L.to (rest_hits ps text 0) (rest_hits ps text q)
    (stopped (goal.at.write_place-to-requires-clause-room c).In-Some).1 (hits_at ps text q) (rest_hits ps text (q + 1))
    (hits_step ps text q (length text) c.in-Some.ensures.2)

pub overflow_add-to : goal.overflow_add-to
overflow_add-to c =
    let L = c.loop-stop in
    let a = c.args in
    let ps = patterns a.tables.now.tables in
    let text = a.text.now in
    let q = c.in-Some.stop.at.place in
    let room =
    written_room (rise_in ps text) a.out.now L.out a.rises.now L.rises L.to (rest_hits ps text 0) (rest_hits ps text q)
    (stopped (goal.at.overflow_add-to c).In-Some).1 (hits_at ps text q) (rest_hits ps text (q + 1))
    (hits_step ps text q (length text) c.in-Some.ensures.2) in
    omega (arith, room.1, c.write_place-to.ensures.value)

pub loop-stop-preserved : goal.loop-stop-preserved
loop-stop-preserved c =
    let L = c.loop-stop in
    let a = c.args in
    let t = a.tables.now.tables in
    let ps = patterns t in
    let text = a.text.now in
    let stop = c.in-Some.stop in
    let h = c.in-Some.ensures in
    let q = stop.at.place in
    let b = c.behind-at.ensures in
    let w = c.write_place-to in
    let there = stopped (goal.at.loop-stop-preserved c).In-Some in (
      b.stands,
      rw (b.place_value, c.size-count.ensures) (Scan-next ps text q L.count (set_good t.windows.set.now t.windows.good) there.0 stop.candidates
          (found (goal.at.loop-stop-preserved c).In-Some).1),
      rw b.place_value
          (Written-behind (rise_in ps text) a.out.now L.out a.rises.now L.rises L.to (rest_hits ps text 0) (rest_hits ps text q) there.1
          (hits_at ps text q) (rest_hits ps text (q + 1)) (hits_step ps text q (length text) h.2) w.new.out w.new.rises w.result
          w.ensures.out_after w.ensures.rises_after w.ensures.value),
    )

-- no place is left that has candidates
pub returns : goal.returns
returns c =
    let L = c.loop-stop in
    let a = c.args in
    let t = a.tables.now.tables in
    let ps = patterns t in
    let text = a.text.now in
    let f = rise_in ps text in
    let good = set_good t.windows.set.now t.windows.good in
    let i = L.invariant in
    let all = hits_all ps text in
    let passed = subst (λ (ps : PatternSet). NoneFrom ps text L.at.place (length text)) c.requires.same c.in_default.ensures in
    let none =
    rest_skip ps text L.at.place (length text) good i.0.0 (omega arith) passed ∙ hits_end ps text (length text) (length text) (omega arith) in
    let e =
    written_end f a.out.now L.out a.rises.now L.rises L.to (rest_hits ps text 0) (rest_hits ps text L.at.place) i.2 none in record {
      hits_value = e.0 ∙ ap length all;
      candidates_value = scan_end ps text L.at.place L.count good i.1 i.0.0 passed;
      out_after = e.1 ∙ ap (λ (v : List (ℕ × ℕ)). sets a.out.now 0 (hit_words v)) all;
      rises_after = e.2 ∙ ap (λ (v : List (ℕ × ℕ)). sets a.rises.now 0 (map f v)) all;
    }
