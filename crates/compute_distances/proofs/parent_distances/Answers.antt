-- A turn writes one distance more.
use Rattle.std.specs.Prelude.{◌≡◌}
use Rattle.lists.proofs.Prelude.{◌∙◌, ap, refl, List, ℕ, length, set, arith, tabulate}
use Rattle.lists.proofs.Tables.{tabulate_more}
use Rattle.cartesian.specs.Cartesian.{distance_at, distances}
use Rattle.compute_distances.proofs.parent_distances.Goals as goal

pub loop-i-init : goal.loop-i-init
unfolding tabulate
loop-i-init c = refl

pub loop-i-preserved : goal.loop-i-preserved
loop-i-preserved c =
    ap (λ (z : List ℕ). set z c.loop-i.i c.distance.result) c.loop-i.invariant
    ∙ tabulate_more (distance_at c.args.values.now) 0 c.args.out.now c.loop-i.i _ (omega arith) c.distance.ensures

pub returns : goal.returns
unfolding distances
returns c =
    let e : c.loop-i.i ≡ length c.args.values.now = omega arith in
    rw e at c.loop-i.invariant
