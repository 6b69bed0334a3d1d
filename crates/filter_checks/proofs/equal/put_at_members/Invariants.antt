-- What is stored and the value at the members that are left make the table.
use Rattle.std.specs.Prelude.{◌≡◌}
use Rattle.bit_sets.specs.BitSets.{bits}
use Rattle.filter_checks.proofs.EqualRanks.{stored}
use Rattle.filter_checks.proofs.equal.put_at_members.Given as goal

abbrev pub invariant-loop-s : goal.invariant-loop-s
invariant-loop-s g l = stored l.table (bits l.s-iterator.0) l.value ≡ stored l.initial.table (bits l.members) l.value
