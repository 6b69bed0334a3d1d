-- The loop takes the likely patterns group by group; what is found are those that it has taken and
-- that have a hit.
use Rattle.lists.proofs.Prelude.{suc, take}
use Rattle.pattern_set.specs.PatternSet.{patterns_of}
use Rattle.filter_plan.specs.Plan.{is_hit}
use Rattle.filter_tables.specs.Tables.{ranked}
use Rattle.filter_windows.specs.Groups.{LikelyGroups}
use Rattle.filter_windows.proofs.RankSets.{Found}
use Rattle.filter_windows.proofs.tables.WindowTables.verified.Given as goal

abbrev pub invariant-loop-g : goal.invariant-loop-g
invariant-loop-g l =
    Found l.likely l.rest l.found (λ r. is_hit (take (suc l.p) l.text) (ranked (patterns_of l.self.set.now) r))
    × LikelyGroups (patterns_of l.self.set.now) (take (suc l.p) l.text) l.rest

abbrev pub decreases-loop-g : goal.decreases-loop-g
decreases-loop-g l = l.rest
