-- The loop takes the ranks one by one, lowest first; what it has written and the hits of the ranks
-- that are left make the hits.
use Rattle.std.specs.Prelude.{◌+◌, ◌*◌, ◌<◌}
use Rattle.lists.proofs.Prelude.{◌∙◌, ap, refl, ℤ, map, length, get_or, sets, length-set, arith}
use Rattle.lists.proofs.Order.{back_i32}
use Rattle.bit_sets.specs.BitSets.{bits}
use Rattle.filter_passes.specs.Passes.{rank_hits}
use Rattle.filter_passes.proofs.Places.{rank_first, rank_none, length-rank_hits}
use Rattle.filter_passes.proofs.Written.{Written-start, Written-hit, written_end, one_more}
use Rattle.filter_passes.proofs.place.write_few.Goals.{After-lowest-r}
use Rattle.filter_passes.proofs.place.write_few.Goals as goal

-- there is room for one hit more
room : (c : After-lowest-r) → (2 * c.loop-rest.to + 1 < length c.loop-rest.out) × (c.loop-rest.to < length c.loop-rest.rises)
room c =
    let L = c.loop-rest in
    let a = c.args in
    one_more _ a.out.now L.out a.rises.now L.rises L.to (rank_hits a.numbers.now a.p (bits a.members)) (rank_hits a.numbers.now a.p (bits L.rest))
    L.invariant _ _ (rank_first a.numbers.now a.p c.lowest-r.result (bits L.rest) _ c.lowest-r.ensures.1 refl)

pub loop-rest-init : goal.loop-rest-init
loop-rest-init c =
    let a = c.args in
    let n = length-rank_hits a.numbers.now a.p (bits a.members) in
    Written-start _ a.out.now a.rises.now (rank_hits a.numbers.now a.p (bits a.members)) (omega (arith, c.requires.0, n)) (omega (arith, c.requires.1, n))

pub bounds-out-to : goal.bounds-out-to
bounds-out-to c = omega (arith, (room (goal.at.bounds-out-to c).After-lowest-r).0)

pub bounds-out-to-in-loop-rest : goal.bounds-out-to-in-loop-rest
bounds-out-to-in-loop-rest c = simp length-set (room (goal.at.bounds-out-to-in-loop-rest c).After-lowest-r).0

pub bounds-rises-to : goal.bounds-rises-to
bounds-rises-to c = (room (goal.at.bounds-rises-to c).After-lowest-r).1

pub loop-rest-preserved : goal.loop-rest-preserved
loop-rest-preserved c =
    let L = c.loop-rest in
    let a = c.args in
    let r = c.lowest-r.result in
    let left = bits c.without_lowest-rest.result in
    Written-hit _ a.out.now L.out a.rises.now L.rises L.to (rank_hits a.numbers.now a.p (bits a.members)) (rank_hits a.numbers.now a.p (bits L.rest))
    L.invariant (a.p, get_or a.numbers.now r 0) (rank_hits a.numbers.now a.p left)
    (rank_first a.numbers.now a.p r (bits L.rest) left c.lowest-r.ensures.1 c.without_lowest-rest.ensures.0) _ refl

pub returns : goal.returns
returns c =
    let L = c.loop-rest in
    let a = c.args in
    let all = rank_hits a.numbers.now a.p (bits a.members) in
    let e =
    written_end _ a.out.now L.out a.rises.now L.rises L.to all (rank_hits a.numbers.now a.p (bits L.rest)) L.invariant
    (rank_none a.numbers.now a.p L.rest c.loop-rest-test.false) in record {
      value = e.0 ∙ length-rank_hits a.numbers.now a.p (bits a.members);
      out_after = e.1;
      rises_after = e.2 ∙ ap (λ (v : ℤ). sets a.rises.now 0 (map (λ _. v) all)) (back_i32 c.ranges.rise);
    }
