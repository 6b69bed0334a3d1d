-- A distance of 64 or more shuts every near place; a nearer one leaves what is not nearer.
use Rattle.std.specs.Prelude.{◌&&◌}
use Rattle.lists.proofs.Prelude.{◌∙◌, ap, Bool}
use Rattle.bit_sets.specs.BitSets.{bit_at}
use Rattle.compute_realization.proofs.OpenBits.{OpenBits-far, OpenBits-near}
use Rattle.compute_realization.proofs.near_after.Goals as goal

pub returns-then-d-ge64 : goal.returns-then-d-ge64
returns-then-d-ge64 c = λ os o. OpenBits-far _ os c.if-d-ge64.true

pub returns : goal.returns
returns c = λ os o.
    let a = c.args in
    OpenBits-near a.near c.common.result a.d os o
    (λ j h. c.common.ensures j h ∙ ap (λ (b : Bool). bit_at a.near j && b) (c.not_nearer.ensures j h))
