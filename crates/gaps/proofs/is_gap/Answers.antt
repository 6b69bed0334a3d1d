-- The bits of the element are the gap's exactly if the value is.
use Rattle.lists.proofs.Prelude.{pos, get_or, arith}
use Rattle.gaps.proofs.Laws.{gap_bits}
use Rattle.gaps.proofs.is_gap.Goals as goal

pub returns : goal.returns
returns c = gap_bits (get_or c.args.values.now c.args.i (pos 0)) (omega arith)
