-- A turn takes the walk one place on, or ends it.
use Rattle.lists.proofs.Prelude.{◌∙◌, sym, refl, arith, below_more, below_none}
use Rattle.realization.proofs.Walk.{realizable-walk}
use Rattle.compute_realization.specs.OpenDistances.{open_distances}
use Rattle.compute_realization.proofs.OpenDistances.{walk_on, walk_stop, walk_end}
use Rattle.compute_realization.proofs.OpenBits.{OpenBits-none, OpenBits-on}
use Rattle.compute_realization.proofs.is_realizable.Goals as goal

pub loop-i-init : goal.loop-i-init
unfolding open_distances
loop-i-init c = record { led = below_none _; walked = realizable-walk _; bits = OpenBits-none }

pub returns-then-not-leads_back : goal.returns-then-not-leads_back
returns-then-not-leads_back c =
    let L = c.loop-i in
    sym (L.invariant.walked ∙ walk_stop _ L.i (omega arith) (sym c.leads_back.ensures ∙ c.if-not-leads_back.true))

pub loop-i-preserved : goal.loop-i-preserved
loop-i-preserved c =
    let L = c.loop-i in
    let led = sym c.leads_back.ensures ∙ c.if-not-leads_back.false in
    record {
      led = below_more _ _ L.invariant.led led;
      walked = L.invariant.walked ∙ walk_on _ L.i (omega arith) led;
      bits = OpenBits-on _ L.i _ L.near c.near_after-near.result refl L.invariant.bits c.near_after-near.ensures;
    }

pub returns : goal.returns
returns c = let L = c.loop-i in sym (L.invariant.walked ∙ walk_end _ _ L.i (omega arith))
