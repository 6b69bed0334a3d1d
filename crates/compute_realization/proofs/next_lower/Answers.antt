-- Every place after i and before j leads to i or later. So does j, where the loop goes on, and what
-- lies between j and its next lower place leads to j or later.
use Rattle.lists.proofs.Prelude.{refl, get_or, arith}
use Rattle.compute_realization.specs.NextLower.{IsNext}
use Rattle.compute_realization.proofs.NextLower.{Passed-none, Passed-more, next_root, next_before, next_none}
use Rattle.compute_realization.proofs.next_lower.Goals.{In-loop-j}
use Rattle.compute_realization.proofs.next_lower.Goals as goal

-- what was read is the next lower place of j
linked : (c : In-loop-j) → IsNext c.args.ds.now c.loop-j.j (get_or c.args.next.now c.loop-j.j 0)
linked c = c.requires.by_index c.loop-j.j c.loop-j.invariant.0 c.loop-j-test.true

pub loop-j-init : goal.loop-j-init
loop-j-init c = (omega arith, omega arith, Passed-none c.args.ds.now _)

pub returns-then-d-eq0 : goal.returns-then-d-eq0
returns-then-d-eq0 c =
    let L = c.loop-j in
    next_root _ _ L.j _ L.invariant.0 c.loop-j-test.true L.invariant.2 refl c.if-d-eq0.true

pub returns-then-d-j : goal.returns-then-d-j
returns-then-d-j c =
    let L = c.loop-j in
    next_before _ _ L.j _ L.invariant.0 c.loop-j-test.true L.invariant.2 refl c.if-d-j.true

pub loop-j-smaller : goal.loop-j-smaller
loop-j-smaller c = omega (arith, (linked (goal.at.loop-j-smaller c).In-loop-j).after, (linked (goal.at.loop-j-smaller c).In-loop-j).inside)

pub loop-j-preserved : goal.loop-j-preserved
loop-j-preserved c =
    let L = c.loop-j in
    let p = linked (goal.at.loop-j-preserved c).In-loop-j in
    let z = c.if-d-eq0.false in (
      omega (arith, p.after),
      p.inside,
      Passed-more _ _ L.j _ L.invariant.0 L.invariant.2
          (omega (arith, z), omega arith) p,
    )

pub returns : goal.returns
returns c =
    let L = c.loop-j in
    next_none _ _ L.j L.invariant.0 L.invariant.1 c.loop-j-test.false L.invariant.2
