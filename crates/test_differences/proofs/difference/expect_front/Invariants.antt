-- `expect_front` meets its contract: what is told from a place on is what is told of the whole.
use Rattle.std.specs.Prelude.{◌≡◌}
use Rattle.lists.proofs.Prelude.{drop}
use Rattle.test_differences.specs.Difference.{compared_front}
use Rattle.test_differences.proofs.difference.expect_front.Given as goal

abbrev pub invariant-loop-i : goal.invariant-loop-i
invariant-loop-i g l = compared_front g.T.Number.value l.part 0 l.v l.expected l.got
    ≡ compared_front g.T.Number.value l.part l.i l.v (drop l.i l.expected) (drop l.i l.got)
