-- `expect_written` meets its contract: nothing is told exactly if the array begins with the words
-- and all behind them are as they were.
use Rattle.lists.proofs.Prelude.{◌∙◌, ap}
use Rattle.test_differences.specs.Difference.{is_nothing}
use Rattle.test_differences.proofs.Nothing.{nothing_front}
use Rattle.test_differences.proofs.difference.expect_written.Goals as goal

pub returns : goal.returns
returns c =
    let told = c.expect_front.ensures.told in
    record { told = told; nothing = ap is_nothing told ∙ nothing_front _ _ _ _ _ }
