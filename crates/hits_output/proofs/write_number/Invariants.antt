-- The digits that are still to be written and what stands behind them are the digits and what stood
-- behind those.
use Rattle.std.specs.Prelude.{◌≡◌, ◌++◌}
use Rattle.lists.proofs.Prelude.{length, drop}
use Rattle.hits_output.specs.Output.{digits}
use Rattle.hits_output.proofs.Digits.{last_digits}
use Rattle.hits_output.proofs.write_number.Given as goal

abbrev pub invariant-loop-i : goal.invariant-loop-i
invariant-loop-i l = last_digits l.i l.rest ++ drop l.i l.out ≡ digits l.v ++ drop (length (digits l.v)) l.initial.out
