-- `are_in_order` meets its contract: the first i open minima have their next ones follow.
use Rattle.std.proofs.Common.{◌≡◌}
use Rattle.lists.specs.Prelude.{true}
use Rattle.open_minima.specs.Parts.{ring_of, in_order}
use Rattle.open_minima.proofs.Search.are_in_order.Given as goal

abbrev pub invariant-loop-i : goal.invariant-loop-i
invariant-loop-i l = in_order (ring_of l.self.state) l.i ≡ true
