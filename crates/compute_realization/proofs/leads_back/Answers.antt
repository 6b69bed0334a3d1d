-- A near distance is looked up among the bits; one that is more than its place leads out of the
-- list; any other leads to an open place exactly if the place i - d is open.
use Rattle.lists.proofs.Prelude.{◌∙◌, refl, arith}
use Rattle.compute_realization.proofs.OpenDistances.{leads_out, leads_some}
use Rattle.compute_realization.proofs.leads_back.Goals as goal

pub returns-then-d-lt64 : goal.returns-then-d-lt64
returns-then-d-lt64 c = c.has.ensures ∙ c.requires.2 _ c.if-d-lt64.true

pub returns-then-d-i : goal.returns-then-d-i
returns-then-d-i c = leads_out _ _ _ _ refl c.if-d-i.true

pub returns : goal.returns
returns c = c.is_open.ensures ∙ leads_some _ _ _ _ refl (λ z. omega (arith, z, c.if-d-lt64.false)) c.if-d-i.false
