-- `minima_are_kept` meets its contract: before each turn the first i open minima have the values
-- kept for their places.
use Rattle.std.proofs.Common.{◌≡◌}
use Rattle.lists.specs.Prelude.{true}
use Rattle.open_minima.specs.Parts.{ring_of}
use Rattle.recent_values.proofs.Checks.{kept_below}
use Rattle.recent_values.proofs.minima_are_kept.Given as goal

abbrev pub invariant-loop-i : goal.invariant-loop-i
invariant-loop-i l = kept_below (ring_of l.search.state) l.search.state.recent l.i ≡ true
