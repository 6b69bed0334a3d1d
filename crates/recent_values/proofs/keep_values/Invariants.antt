-- `keep_values` meets its contract: before each turn the values before i are kept, from the first
-- one put on.
use Rattle.std.proofs.Common.{◌≡◌}
use Rattle.recent_values.proofs.Checks.{kept_to}
use Rattle.recent_values.proofs.keep_values.Given as goal

abbrev pub invariant-loop-i : goal.invariant-loop-i
invariant-loop-i l =
    l.search.state ≡ record l.initial.search.state { recent = kept_to l.start l.initial.i l.initial.search.state.recent l.values l.i }
