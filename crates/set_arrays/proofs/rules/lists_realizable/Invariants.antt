-- The lists passed are realizable.
use Rattle.set_arrays.specs.Rules.{ListsRealizable}
use Rattle.set_arrays.proofs.rules.lists_realizable.Given as goal

abbrev pub invariant-loop-j : goal.invariant-loop-j
invariant-loop-j l = ListsRealizable l.words l.j
