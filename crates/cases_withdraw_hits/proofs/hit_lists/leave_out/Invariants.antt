-- `leave_out`: a hit is put at most once.
use Rattle.std.specs.Prelude.{◌≤◌}
use Rattle.cases_withdraw_hits.proofs.hit_lists.leave_out.Given as goal

abbrev pub invariant-loop-i : goal.invariant-loop-i
invariant-loop-i l = l.to ≤ l.i
