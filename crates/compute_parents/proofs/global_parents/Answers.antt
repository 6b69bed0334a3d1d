-- A turn stores what one place more tells; what all places tell are the global parents.
use Rattle.std.specs.Prelude.{◌≡◌}
use Rattle.lists.proofs.Prelude.{◌∙◌, ap, length, arith}
use Rattle.compute_parents.specs.Steps.{with_place}
use Rattle.compute_parents.proofs.Steps.{parents_none, place_more, parents_all}
use Rattle.compute_parents.proofs.global_parents.Goals as goal

pub loop-j-init : goal.loop-j-init
loop-j-init c = parents_none c.args.ds.now c.args.out.now

pub loop-j-preserved : goal.loop-j-preserved
loop-j-preserved c =
    let L = c.loop-j in
    c.add_place.ensures
    ∙ ap (with_place c.args.ds.now L.j) L.invariant
    ∙ place_more c.args.ds.now L.j c.args.out.now c.requires.ds_value (omega arith) (omega arith)

pub returns : goal.returns
returns c =
    let ds = c.args.ds.now in
    let e : c.loop-j.j ≡ length ds = omega arith in
    rw (← parents_all ds) (rw e at c.loop-j.invariant)
