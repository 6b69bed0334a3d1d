-- `put_piece`: what is put stays within the array.
use Rattle.std.specs.Prelude.{◌≤◌}
use Rattle.lists.proofs.Prelude.{length}
use Rattle.cases_hits.proofs.inputs.put_piece.Given as goal

abbrev pub invariant-loop : goal.invariant-loop
invariant-loop l = l.end ≤ length l.out
