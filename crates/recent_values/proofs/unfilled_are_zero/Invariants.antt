-- `unfilled_are_zero` meets its contract: before each turn the slots below i are filled or 0.
use Rattle.std.proofs.Common.{◌≡◌}
use Rattle.lists.specs.Prelude.{true}
use Rattle.recent_values.proofs.Checks.{fine_below}
use Rattle.recent_values.proofs.unfilled_are_zero.Given as goal

abbrev pub invariant-loop-i : goal.invariant-loop-i
invariant-loop-i l = fine_below l.search.state.recent l.search.state.taken l.i ≡ true
