-- `fill_rises` meets its contract: after i turns the rise stands at the first i places.
use Rattle.std.specs.Prelude.{◌++◌}
use Rattle.lists.proofs.Prelude.{◌∙◌, ap, refl, append-nil, List, ℤ, length, replicate, drop_of_length-le, w32, to_z, of_z, arith}
use Rattle.lists.proofs.Order.{back_i32}
use Rattle.compute_rises.proofs.Rises.{Written-none, Written-next, Written-one}
use Rattle.compute_rises.proofs.fill_rises.Goals as goal

pub loop-i-init : goal.loop-i-init
loop-i-init c = Written-none _ _ _

pub loop-i-preserved : goal.loop-i-preserved
loop-i-preserved c =
    let L = c.loop-i in
    Written-next _ (length c.args.rises.now) c.args.rises.now L.rises L.i (to_z w32 (of_z w32 c.args.rise)) (omega arith)
    (omega (arith, L.invariant.sized, c.loop-i-test.true)) refl L.invariant

pub returns : goal.returns
returns c =
    let L = c.loop-i in
    let n = length c.args.rises.now in
    Written-one (to_z w32 (of_z w32 c.args.rise)) c.args.rise n c.args.rises.now L.rises L.i (back_i32 c.ranges.rise)
    (omega (arith, L.invariant.sized, c.loop-i-test.false)) L.invariant
    ∙ ap (λ (l : List ℤ). replicate n c.args.rise ++ l) (drop_of_length-le c.args.rises.now {i = n} (omega arith))
    ∙ append-nil (replicate n c.args.rise)
