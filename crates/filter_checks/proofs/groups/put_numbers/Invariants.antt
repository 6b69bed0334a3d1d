-- What is written and the numbers of the members that are left, from place `to` on, make the table.
use Rattle.std.specs.Prelude.{◌≡◌, ◌+◌}
use Rattle.lists.proofs.Prelude.{length, get_or, sets, map}
use Rattle.bit_sets.specs.BitSets.{bits}
use Rattle.filter_checks.proofs.groups.put_numbers.Given as goal

abbrev pub invariant-loop-s : goal.invariant-loop-s
invariant-loop-s l = record {
  left : l.to + length (bits l.s-iterator.0) ≡ l.at + length (bits l.members);
  words : sets l.grouped l.to (map (λ s. get_or l.numbers s 0) (bits l.s-iterator.0))
      ≡ sets l.initial.grouped l.at (map (λ s. get_or l.numbers s 0) (bits l.members));
}
