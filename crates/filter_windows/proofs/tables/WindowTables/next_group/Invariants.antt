-- The loop takes the ranks left lowest first, each with the ranks of equal patterns; those it has
-- taken have no hit. Where one has a hit, those of its length that are left are its equal patterns
-- or have none.
use Rattle.lists.proofs.Prelude.{suc, take}
use Rattle.pattern_set.specs.PatternSet.{patterns_of}
use Rattle.filter_windows.proofs.Groups.{Passed}
use Rattle.filter_windows.proofs.tables.WindowTables.next_group.Given as goal

abbrev pub invariant-loop-rest : goal.invariant-loop-rest
invariant-loop-rest l = Passed (patterns_of l.self.set.now) (take (suc l.p) l.text) l.left l.rest

abbrev pub decreases-loop-rest : goal.decreases-loop-rest
decreases-loop-rest l = l.rest
