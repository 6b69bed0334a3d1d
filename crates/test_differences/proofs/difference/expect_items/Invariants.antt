-- `expect_items` meets its contract: what is told from a place on is what is told of the whole.
use Rattle.std.specs.Prelude.{◌≡◌}
use Rattle.lists.proofs.Prelude.{drop}
use Rattle.test_differences.specs.Difference.{compared_items}
use Rattle.test_differences.proofs.difference.expect_items.Given as goal

abbrev pub invariant-loop-i : goal.invariant-loop-i
invariant-loop-i g l = compared_items g.T.Number.value l.part 0 l.expected l.got ≡ compared_items g.T.Number.value l.part l.i (drop l.i l.expected)
    (drop l.i l.got)
