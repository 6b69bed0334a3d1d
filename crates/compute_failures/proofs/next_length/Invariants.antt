-- `next_length` meets its contract: m is always the length of a tail that fits, and no longer one
-- leads to the answer (`Candidate`). The next shorter such tail is the longest of this tail itself,
-- which `out` has. The measure is m.
use Rattle.compute_failures.proofs.Laws.{Candidate}
use Rattle.compute_failures.proofs.next_length.Given as goal

abbrev pub invariant-loop-m : goal.invariant-loop-m
invariant-loop-m l = Candidate l.ds l.i l.m

abbrev pub decreases-loop-m : goal.decreases-loop-m
decreases-loop-m l = l.m
