-- Where nothing is stored, the set is empty.
use Rattle.filter_passes.proofs.MarkedBlocks.{mark_none}
use Rattle.filter_passes.proofs.marks.Marks.mark_if.Goals as goal

pub returns-else-found-ne0 : goal.returns-else-found-ne0
returns-else-found-ne0 c = mark_none c.args.self.now.words c.args.p c.args.found c.if-found-ne0.false
