-- `read_input` meets its contract.
use Rattle.std.proofs.Common.{rules}
use Rattle.hits_input.proofs.Inputs.{too_long, no_patterns, no_text, all_read}
use Rattle.hits_input.proofs.read_input.Goals as goal

pub returns-then-bytes-gt65536 : goal.returns-then-bytes-gt65536
returns-then-bytes-gt65536 c = too_long c.args.bytes.now c.if-bytes-gt65536.true

pub returns-in_err-patterns : goal.returns-in_err-patterns
returns-in_err-patterns c =
    rw c.from_residual.ensures (no_patterns c.args.bytes.now c.if-bytes-gt65536.false c.new-lines.ensures c.in_err-patterns.ensures)

pub returns-in_err-size : goal.returns-in_err-size
returns-in_err-size c =
    rw c.from_residual-in_err-size.ensures
    (no_text c.args.bytes.now c.if-bytes-gt65536.false c.new-lines.ensures _ c.in_ok-patterns.ensures c.args.text.now c.read_text.new.text (search rules)
    c.in_err-size.ensures)

pub returns : goal.returns
returns c = all_read c.args.bytes.now c.if-bytes-gt65536.false c.new-lines.ensures _ c.in_ok-patterns.ensures _ _ c.in_ok-size.ensures
