-- The library's search looks for the value that is a gap.
use Rattle.lists.proofs.Prelude.{◌∙◌}
use Rattle.gaps.proofs.Laws.{contains_gap}
use Rattle.gaps.proofs.hold_gap.Goals as goal

pub returns : goal.returns
returns c = c.contains.ensures.value ∙ contains_gap c.args.values.now
