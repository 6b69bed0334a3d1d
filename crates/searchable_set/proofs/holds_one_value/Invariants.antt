-- No pattern before j has one value.
use Rattle.std.specs.Prelude.{◌≡◌}
use Rattle.lists.proofs.Prelude.{false, take}
use Rattle.pattern_set.specs.PatternSet.{holds_one_value}
use Rattle.searchable_set.proofs.holds_one_value.Given as goal

abbrev pub invariant-loop-j : goal.invariant-loop-j
invariant-loop-j l = holds_one_value (take l.j l.set) ≡ false
