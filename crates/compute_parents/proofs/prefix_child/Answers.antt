-- The walk begins at j - 1, goes down the links, and ends at the place sought.
use Rattle.std.specs.Prelude.{◌≡◌, ◌+◌, ◌-◌}
use Rattle.lists.proofs.Prelude.{◌∙◌, sym, refl, arith}
use Rattle.compute_parents.specs.Steps.{is_root_from}
use Rattle.compute_parents.proofs.Walk.{leads_on, walk_ends, walk_goes_on, child_some}
use Rattle.compute_parents.proofs.prefix_child.Goals as goal

pub loop-k-init : goal.loop-k-init
loop-k-init c =
    let e : c.args.j - 1 + 1 ≡ c.args.j = omega arith in
    record { before = omega arith; last = rw e refl }

pub loop-k-smaller : goal.loop-k-smaller
loop-k-smaller c =
    let p = leads_on c.args.ds.now c.left_start-start.result c.loop-k.k (sym c.is_root.ensures ∙ c.loop-k-test.true) in
    omega (arith, p.0, p.1, c.link-k.ensures)

pub loop-k-preserved : goal.loop-k-preserved
loop-k-preserved c =
    let start = c.left_start-start.result in
    let L = c.loop-k in
    let on = walk_goes_on c.args.ds.now start L.k c.requires.ds_value (omega arith) (sym c.is_root.ensures ∙ c.loop-k-test.true) in
    record { before = omega (arith, c.link-k.ensures); last = L.invariant.last ∙ rw c.link-k.ensures on }

pub returns : goal.returns
returns c =
    let ds = c.args.ds.now in
    let L = c.loop-k in
    let found = walk_ends (is_root_from ds c.left_start-start.result) L.k (sym c.is_root.ensures ∙ c.loop-k-test.false) ∙ sym L.invariant.last in
    sym (child_some ds c.args.j L.k c.requires.ds_value c.requires.j_in_bounds (omega (arith, c.left_start-start.ensures))
    (rw c.left_start-start.ensures at found))
