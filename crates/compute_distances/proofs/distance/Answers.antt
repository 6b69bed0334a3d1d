-- The distance from the parent, and 0 where there is none.
use Rattle.std.specs.Prelude.{◌≡◌, ◌+◌, ◌-◌}
use Rattle.lists.proofs.Prelude.{◌∙◌, sym, arith, rules}
use Rattle.cartesian.proofs.Seek.{dist_none, dist_some}
use Rattle.compute_distances.proofs.distance.Goals as goal

pub returns-in-Some : goal.returns-in-Some
returns-in-Some c =
    let less : c.args.i + 1 - (c.in-Some.j + 1) ≡ c.args.i - c.in-Some.j = omega arith in
    sym less ∙ dist_some _ _ _ (sym c.in-Some.ensures.1) (λ z. omega (arith, z))

pub returns-in-None : goal.returns-in-None
returns-in-None c = dist_none _ _ _ (sym c.in-None.ensures) (search rules)
