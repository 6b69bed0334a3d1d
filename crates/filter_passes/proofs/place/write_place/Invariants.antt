-- The loop takes the likely patterns group by group; what it has written and the hits of those that
-- are left make the place's hits.
use Rattle.lists.proofs.Prelude.{suc, take}
use Rattle.matching.specs.Matching.{hits_at}
use Rattle.matching.specs.Rise.{rise_in}
use Rattle.filter_windows.specs.Groups.{LikelyGroups}
use Rattle.filter_windows.specs.Patterns.{patterns}
use Rattle.filter_passes.proofs.GroupHits.{hits_of}
use Rattle.filter_passes.proofs.Written.{Written}
use Rattle.filter_passes.proofs.place.write_place.Given as goal

abbrev pub invariant-loop-group : goal.invariant-loop-group
invariant-loop-group l =
    Written (rise_in (patterns l.tables.tables) l.text) l.initial.out l.out l.initial.rises l.rises l.to (hits_at (patterns l.tables.tables) l.text l.p)
    (hits_of (patterns l.tables.tables) l.text l.p l.tables.tables.windows.numbers.now l.rest)
    × LikelyGroups (patterns l.tables.tables) (take (suc l.p) l.text) l.rest

abbrev pub decreases-loop-group : goal.decreases-loop-group
decreases-loop-group l = l.rest
