-- The loop keeps where it stands, and that the places behind it have no candidates.
use Rattle.std.specs.Prelude.{◌-◌, ◌%◌, ◌≤◌, ◌<◌}
use Rattle.lists.proofs.Prelude.{length}
use Rattle.filter_windows.specs.Patterns.{patterns}
use Rattle.filter_passes.specs.Passes.{Stands, NoneFrom}
use Rattle.filter_passes.proofs.scanning.next_look.Given as goal

abbrev pub invariant-loop-place : goal.invariant-loop-place
invariant-loop-place l =
    (l.place < length l.text)
    × Stands l.text l.place (l.bits % 65536) l.fn.from.begin
    × (l.fn.from.place ≤ l.place)
    × NoneFrom (patterns l.tables.tables.now) l.text l.fn.from.place l.place

abbrev pub decreases-loop-place : goal.decreases-loop-place
decreases-loop-place l = length l.text - l.place
