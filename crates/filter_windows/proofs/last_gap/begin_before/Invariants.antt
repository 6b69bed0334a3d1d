-- The loop keeps that the values from place p on are samples.
use Rattle.std.specs.Prelude.{◌≤◌}
use Rattle.filter_windows.proofs.Samples.{Samples}
use Rattle.filter_windows.proofs.last_gap.begin_before.Given as goal

abbrev pub invariant-loop-last : goal.invariant-loop-last
invariant-loop-last l = (l.done ≤ l.last) × Samples l.text l.last l.first
