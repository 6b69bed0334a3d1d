-- The loop keeps where it stands, and that the places behind it have no candidates: at a gap there
-- are none.
use Rattle.std.specs.Prelude.{◌-◌, ◌≤◌}
use Rattle.lists.proofs.Prelude.{length}
use Rattle.filter_windows.specs.Patterns.{patterns}
use Rattle.filter_passes.specs.Passes.{Stands, NoneFrom}
use Rattle.filter_passes.proofs.scanning.next_stop.Given as goal

abbrev pub invariant-loop-at : goal.invariant-loop-at
invariant-loop-at l =
    Stands l.text l.at.place l.at.own l.at.begin
    × (l.fn.from.place ≤ l.at.place)
    × NoneFrom (patterns l.tables.tables.now) l.text l.fn.from.place l.at.place

abbrev pub decreases-loop-at : goal.decreases-loop-at
decreases-loop-at l = length l.text - l.at.place
