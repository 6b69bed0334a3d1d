-- The words are copied.
use Rattle.lists.proofs.Prelude.{◌∙◌}
use Rattle.withdraw_pattern.proofs.Replacing.{copied}
use Rattle.withdraw_pattern.proofs.moves.move_down.Goals as goal

pub returns : goal.returns
returns c = c.copy_within.ensures.after ∙ copied c.args.words.now c.args.at c.args.by c.args.n c.requires
