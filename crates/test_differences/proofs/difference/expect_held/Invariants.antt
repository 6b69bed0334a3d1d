-- `expect_held` meets its contract: what is told from a place on is what is told of the whole.
use Rattle.std.specs.Prelude.{◌≡◌}
use Rattle.lists.proofs.Prelude.{drop}
use Rattle.test_differences.specs.Difference.{compared_held}
use Rattle.test_differences.proofs.difference.expect_held.Given as goal

abbrev pub invariant-loop-i : goal.invariant-loop-i
invariant-loop-i g l = compared_held g.T.Number.value l.part l.from l.v (drop l.from l.got) ≡ compared_held g.T.Number.value l.part l.i l.v (drop l.i l.got)
