-- The loop keeps where the pass stands, that the blocks of the places before it with a hit are
-- marked, and that with the hits from there on no hit is left out. Where candidates were never
-- trusted, what is counted is exact.
use Rattle.std.specs.Prelude.{◌≡◌, ◌≤◌}
use Rattle.lists.proofs.Prelude.{◌∙◌, sym, false, length, arith}
use Rattle.lists.proofs.Tests.{clash}
use Rattle.pattern_set.proofs.IsSet.{set_good}
use Rattle.matching.specs.Matching.{hits, candidates}
use Rattle.filter_windows.specs.Patterns.{patterns}
use Rattle.filter_passes.specs.Passes.{HitsMarked}
use Rattle.filter_passes.proofs.HitsCounted.{HitsCounted, HitsCounted-start, HitsCounted-skip, HitsCounted-next, hits_counted}
use Rattle.filter_passes.proofs.Places.{marks_skip, bits_le}
use Rattle.filter_passes.proofs.Scan.{Scan, Stands-start, Scan-start, Scan-skip, Scan-next, scan_end}
use Rattle.filter_passes.proofs.counting.count_candidates.Goals.{In-Some, In_default, then-count-ge64+then-found-count, else-count-ge64}
use Rattle.filter_passes.proofs.counting.count_candidates.Goals as goal

-- where the pass stops
stopped : (c : In-Some) →
    let L = c.loop-stop in
    let ps = patterns c.args.tables.now.tables.now in
    let text = c.args.text.now in
    let q = c.in-Some.stop.at.place in
    Scan ps text q L.count × HitsMarked ps text L.marks.words q × HitsCounted ps text q L.found L.trusted
stopped c =
    let L = c.loop-stop in
    let t = c.args.tables.now.tables.now in
    let ps = patterns t in
    let text = c.args.text.now in
    let good = set_good t.windows.set.now t.windows.good in
    let h = c.in-Some.ensures in
    let q = c.in-Some.stop.at.place in (
      Scan-skip ps text L.at.place L.count good L.invariant.1 q h.1 h.3,
      marks_skip ps text L.marks.words L.at.place good L.invariant.2 q h.3,
      HitsCounted-skip ps text L.at.place L.found L.trusted L.invariant.3 q good h.1 (omega (arith, h.2)) h.3,
    )

-- what is counted and marked where no place is left that has candidates
ended : (c : In_default) →
    let L = c.loop-stop in
    let ps = patterns c.args.tables.now.tables.now in
    let text = c.args.text.now in
    (L.count ≡ candidates ps text)
    × ((length (hits ps text) ≤ L.found) × (L.trusted ≡ false → L.found ≡ length (hits ps text)) × (L.found ≤ 67108864))
    × HitsMarked ps text L.marks.words (length text)
ended c =
    let L = c.loop-stop in
    let t = c.args.tables.now.tables.now in
    let ps = patterns t in
    let text = c.args.text.now in
    let good = set_good t.windows.set.now t.windows.good in
    let i = L.invariant in (
      scan_end ps text L.at.place L.count good i.1 i.0.0 c.in_default.ensures,
      hits_counted ps text L.at.place L.found L.trusted i.3 good i.0.0 c.in_default.ensures c.requires.text_len_bound,
      marks_skip ps text L.marks.words L.at.place good i.2 (length text) c.in_default.ensures,
    )

pub loop-stop-init : goal.loop-stop-init
loop-stop-init c =
    let ps = patterns c.args.tables.now.tables.now in
    let text = c.args.text.now in
    (Stands-start text, Scan-start ps text, (λ q h. absurd (let z : ⊥ = omega arith in z)), HitsCounted-start ps text)

pub overflow_add-count : goal.overflow_add-count
overflow_add-count c =
    omega (
      arith,
      c.requires.text_len_bound,
      (stopped (goal.at.overflow_add-count c).In-Some).0.bound,
      c.in-Some.ensures.2,
      c.size.ensures,
      bits_le c.in-Some.stop.candidates,
    )

pub look_at-requires-clause-hits_marked : goal.look_at-requires-clause-hits_marked
look_at-requires-clause-hits_marked c = (stopped (goal.at.look_at-requires-clause-hits_marked c).In-Some).1

pub loop-stop-preserved : goal.loop-stop-preserved
loop-stop-preserved c =
    let L = c.loop-stop in
    let t = c.args.tables.now.tables.now in
    let ps = patterns t in
    let text = c.args.text.now in
    let h = c.in-Some.ensures in
    let stop = c.in-Some.stop in
    let b = c.behind-at.ensures in
    let there = stopped (goal.at.loop-stop-preserved c).In-Some in (
      b.stands,
      rw (b.place_value, c.size.ensures) (Scan-next ps text stop.at.place L.count (set_good t.windows.set.now t.windows.good) there.0 stop.candidates h.5),
      rw b.place_value c.look_at.ensures.hits_marked_2,
      rw b.place_value
          (HitsCounted-next ps text stop.at.place L.found L.trusted there.2 c.look_at.result c.if-count-ge64.trusted h.2
          c.look_at.ensures.lower_bound c.look_at.ensures.value
          (elim c.if-count-ge64.branch [ then-count-ge64+then-found-count w ↦ λ f. clash w.trusted-is f | else-count-ge64 w ↦ λ f. sym w.trusted-is ∙ f ])),
    )

pub returns-then-trusted : goal.returns-then-trusted
returns-then-trusted c =
    let e = ended (goal.at.returns-then-trusted c).In_default in
    record { candidates_value = e.0; hits_value = (e.1.0, e.1.2); hits_marked = e.2 }

pub returns-else-trusted : goal.returns-else-trusted
returns-else-trusted c =
    let e = ended (goal.at.returns-else-trusted c).In_default in
    record { candidates_value = e.0; hits_value = (e.1.1 c.if-trusted.false, e.1.2); hits_marked = e.2 }
