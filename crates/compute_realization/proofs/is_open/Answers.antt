-- The place looked for is open at i exactly if it is open at j + 1, for each place j that the way
-- of links comes by: before an open place the same places are open. The way comes to the place, or
-- passes below it, or ends above it.
use Rattle.std.specs.Prelude.{◌≡◌, ◌+◌, ◌-◌, ◌≤◌}
use Rattle.lists.proofs.Prelude.{◌∙◌, ap, sym, refl, ℕ, eqb, get_or, arith, any}
use Rattle.compute_realization.specs.OpenDistances.{open_distances}
use Rattle.compute_realization.proofs.OpenDistances.{led_le, way_none, way_on, way_end}
use Rattle.compute_realization.proofs.is_open.Goals.{In-loop-j}
use Rattle.compute_realization.proofs.is_open.Goals as goal

-- the link that is read is at most its place
link-le : (c : In-loop-j) → get_or c.args.ds.now c.loop-j.j 0 ≤ c.loop-j.j
link-le c = led_le c.args.ds.now c.loop-j.j (c.requires.2 c.loop-j.j c.loop-j.invariant.0)

pub loop-j-init : goal.loop-j-init
loop-j-init c =
    let a = c.args in
    let e : a.i - 1 + 1 ≡ a.i = omega arith in
    (omega arith, sym (ap (λ (k : ℕ). any (eqb (k - a.target)) (open_distances a.ds.now k)) e))

pub returns-then-d-eq0 : goal.returns-then-d-eq0
returns-then-d-eq0 c =
    let L = c.loop-j in
    way_none _ L.j _ _ c.loop-j-test.true refl c.if-d-eq0.true ∙ sym L.invariant.1

pub overflow_sub-j-in-loop-j : goal.overflow_sub-j-in-loop-j
overflow_sub-j-in-loop-j c = omega (arith, link-le (goal.at.overflow_sub-j-in-loop-j c).In-loop-j)

pub loop-j-smaller : goal.loop-j-smaller
loop-j-smaller c = omega (arith, c.if-d-eq0.false, link-le (goal.at.loop-j-smaller c).In-loop-j)

pub loop-j-preserved : goal.loop-j-preserved
loop-j-preserved c =
    let L = c.loop-j in (
      omega arith,
      L.invariant.1 ∙ way_on _ L.j _ _ c.loop-j-test.true refl c.if-d-eq0.false (c.requires.2 L.j L.invariant.0),
    )

pub returns : goal.returns
returns c =
    let L = c.loop-j in
    way_end _ L.j _ c.loop-j-test.false ∙ sym L.invariant.1
