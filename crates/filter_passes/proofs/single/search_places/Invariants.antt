-- The loop keeps where the pass stands; what it has written and the hits from there on make the
-- list, and so do the rises.
use Rattle.std.specs.Prelude.{◌-◌}
use Rattle.lists.proofs.Prelude.{length}
use Rattle.matching.specs.Rise.{rise_in}
use Rattle.filter_windows.specs.Patterns.{patterns}
use Rattle.filter_passes.specs.Passes.{rest_hits, Stands}
use Rattle.filter_passes.proofs.Scan.{Scan}
use Rattle.filter_passes.proofs.Written.{Written}
use Rattle.filter_passes.proofs.single.search_places.Given as goal

abbrev pub invariant-loop-stop : goal.invariant-loop-stop
invariant-loop-stop l =
    Stands l.text l.at.place l.at.own l.at.begin
    × Scan (patterns l.tables.tables) l.text l.at.place l.count
    × Written (rise_in (patterns l.tables.tables) l.text) l.initial.out l.out l.initial.rises l.rises l.to
    (rest_hits (patterns l.tables.tables) l.text 0) (rest_hits (patterns l.tables.tables) l.text l.at.place)

abbrev pub decreases-loop-stop : goal.decreases-loop-stop
decreases-loop-stop l = length l.text - l.at.place
