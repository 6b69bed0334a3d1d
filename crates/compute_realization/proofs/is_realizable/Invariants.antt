-- The walk over the whole list answers what the walk from place i on answers with what is open
-- there, as long as every distance before i leads to an open place. The bits are the near ones of
-- what is open.
use Rattle.std.specs.Prelude.{◌≡◌}
use Rattle.lists.proofs.Prelude.{drop}
use Rattle.realization.specs.Realization.{realizable}
use Rattle.realization.specs.Walk.{walk}
use Rattle.compute_realization.specs.OpenDistances.{open_distances, Led, OpenBits}
use Rattle.compute_realization.proofs.is_realizable.Given as goal

abbrev pub invariant-loop-i : goal.invariant-loop-i
invariant-loop-i l = record {
  led : Led l.ds l.i;
  walked : realizable l.ds ≡ walk (open_distances l.ds l.i) (drop l.i l.ds);
  bits : OpenBits l.near (open_distances l.ds l.i);
}
