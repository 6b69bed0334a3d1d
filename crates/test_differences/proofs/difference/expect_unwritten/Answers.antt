-- `expect_unwritten` meets its contract: nothing is told exactly if all words are as they were.
use Rattle.lists.proofs.Prelude.{◌∙◌, ap}
use Rattle.test_differences.specs.Difference.{is_nothing}
use Rattle.test_differences.proofs.Nothing.{nothing_held}
use Rattle.test_differences.proofs.difference.expect_unwritten.Goals as goal

pub returns : goal.returns
returns c =
    let told = c.expect_held.ensures.told in
    record { told = told; nothing = ap is_nothing told ∙ nothing_held _ _ _ _ }
