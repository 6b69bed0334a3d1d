-- The loop keeps where the pass stands, that the blocks of the places before it with a hit are
-- marked, and that with the hits from there on no hit is left out. Where candidates were never
-- trusted, what is counted is exact.
use Rattle.std.specs.Prelude.{◌-◌}
use Rattle.lists.proofs.Prelude.{length}
use Rattle.filter_windows.specs.Patterns.{patterns}
use Rattle.filter_passes.specs.Passes.{Stands, HitsMarked}
use Rattle.filter_passes.proofs.HitsCounted.{HitsCounted}
use Rattle.filter_passes.proofs.Scan.{Scan}
use Rattle.filter_passes.proofs.counting.count_candidates.Given as goal

abbrev pub invariant-loop-stop : goal.invariant-loop-stop
invariant-loop-stop l =
    Stands l.text l.at.place l.at.own l.at.begin
    × Scan (patterns l.tables.tables.now) l.text l.at.place l.count
    × HitsMarked (patterns l.tables.tables.now) l.text l.marks.words l.at.place
    × HitsCounted (patterns l.tables.tables.now) l.text l.at.place l.found l.trusted

abbrev pub decreases-loop-stop : goal.decreases-loop-stop
decreases-loop-stop l = length l.text - l.at.place
