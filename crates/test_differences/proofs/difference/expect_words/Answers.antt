-- `expect_words` meets its contract: nothing is told exactly if the words expected begin with those
-- of the array.
use Rattle.lists.proofs.Prelude.{◌∙◌, ap}
use Rattle.test_differences.specs.Difference.{is_nothing}
use Rattle.test_differences.proofs.Nothing.{nothing_words}
use Rattle.test_differences.proofs.difference.expect_words.Goals as goal

pub returns : goal.returns
returns c =
    let told = c.expect_items.ensures.told in
    record { told = told; nothing = ap is_nothing told ∙ nothing_words _ _ }
