-- What the loop has written and the hits of the numbers from i on make the hits.
use Rattle.std.specs.Prelude.{◌+◌}
use Rattle.lists.proofs.Prelude.{◌∙◌, ap, refl, ℤ, map, drop, get_or, sets, arith}
use Rattle.lists.proofs.Order.{back_i32}
use Rattle.filter_passes.specs.Passes.{place_hits}
use Rattle.filter_passes.proofs.Places.{place_first, place_none, length-place_hits}
use Rattle.filter_passes.proofs.Written.{Written-start, Written-hit, written_end}
use Rattle.filter_passes.proofs.place.write_many.Goals as goal

pub loop-i-init : goal.loop-i-init
loop-i-init c =
    let a = c.args in
    let n = length-place_hits a.p a.numbers.now in
    Written-start _ a.out.now a.rises.now (place_hits a.p a.numbers.now) (omega (arith, c.requires.0, n)) (omega (arith, c.requires.1, n))

pub loop-i-preserved : goal.loop-i-preserved
loop-i-preserved c =
    let L = c.loop-i in
    let a = c.args in
    Written-hit _ a.out.now L.out a.rises.now L.rises L.i (place_hits a.p a.numbers.now) (place_hits a.p (drop L.i a.numbers.now)) L.invariant
    (a.p, get_or a.numbers.now L.i 0) (place_hits a.p (drop (L.i + 1) a.numbers.now)) (place_first a.p a.numbers.now L.i c.loop-i-test.true) _ refl

pub returns : goal.returns
returns c =
    let L = c.loop-i in
    let a = c.args in
    let all = place_hits a.p a.numbers.now in
    let e =
    written_end _ a.out.now L.out a.rises.now L.rises L.i all (place_hits a.p (drop L.i a.numbers.now)) L.invariant
    (place_none a.p a.numbers.now L.i c.loop-i-test.false) in record {
      out_after = e.1;
      rises_after = e.2 ∙ ap (λ (v : ℤ). sets a.rises.now 0 (map (λ _. v) all)) (back_i32 c.ranges.rise);
    }
