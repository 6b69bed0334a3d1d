-- A place that leads into the part is no root, and neither is any place between it and the one that
-- it leads to, so each link keeps the last root below the place; the walk ends at it.
use Rattle.std.specs.Prelude.{◌≡◌, ◌+◌, ◌<◌}
use Rattle.lists.proofs.Prelude.{last_below}
use Rattle.compute_parents.specs.Steps.{is_root_from}
use Rattle.compute_parents.proofs.prefix_child.Given as goal

abbrev pub invariant-loop-k : goal.invariant-loop-k
invariant-loop-k l = record {
  before : l.k < l.j;
  last : last_below (is_root_from l.ds l.start) l.j ≡ last_below (is_root_from l.ds l.start) (l.k + 1);
}

abbrev pub decreases-loop-k : goal.decreases-loop-k
decreases-loop-k l = l.k
