-- `keep` meets its contract: before each turn the open minima from the counter `at` on are above
-- the value, so what is kept is what is kept of those before it; `close_three` has closed some of
-- them. The measure is their number.
use Rattle.std.specs.Prelude.{◌≡◌, ◌-◌, ◌≤◌}
use Rattle.lists.proofs.Prelude.{pos, get_or}
use Rattle.search_model.specs.Ring.{kept}
use Rattle.open_minima.specs.Pushes.{ring_from}
use Rattle.open_minima.proofs.Pushing.{kept_before}
use Rattle.open_minima.proofs.keep.Given as goal

abbrev pub invariant-loop-at : goal.invariant-loop-at
invariant-loop-at l =
    (l.start ≤ l.at) × (l.at ≤ l.next) × (kept (ring_from l.start l.next l.places l.heights) (get_or l.values l.i (pos 0))
    ≡ kept_before l.start l.next l.places l.heights
    (get_or l.values l.i (pos 0)) l.taken l.at)

abbrev pub decreases-loop-at : goal.decreases-loop-at
decreases-loop-at l = l.at - l.start
