-- Without a minus the digits are the number.
use Rattle.std.proofs.Common.{rules}
use Rattle.hits_input.proofs.Numbers.{plain_none, plain_some}
use Rattle.hits_input.proofs.read_number.Goals as goal

pub returns-in_err-size-2 : goal.returns-in_err-size-2
returns-in_err-size-2 c = search (rules, plain_none)

pub returns : goal.returns
returns c = search (rules, plain_some)
