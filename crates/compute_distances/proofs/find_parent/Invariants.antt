-- The parent sought is found below i exactly if it is found below k. A place above the value at i
-- has its parent, and all between the two, out of the search, and its distance is what `out` has
-- there.
use Rattle.std.specs.Prelude.{◌≡◌, ◌≤◌}
use Rattle.lists.proofs.Prelude.{pos, get_or}
use Rattle.cartesian.specs.Cartesian.{seek}
use Rattle.compute_distances.proofs.find_parent.Given as goal

abbrev pub invariant-loop-k : goal.invariant-loop-k
invariant-loop-k l = record {
  within : l.k ≤ l.i;
  same : seek l.values (get_or l.values l.i (pos 0)) l.i ≡ seek l.values (get_or l.values l.i (pos 0)) l.k;
}

abbrev pub decreases-loop-k : goal.decreases-loop-k
decreases-loop-k l = l.k
