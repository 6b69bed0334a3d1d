-- A byte that is no digit, and a number that goes past the limit, end the look; and the digits come
-- to an end.
use Rattle.std.proofs.Common.{rules}
use Rattle.hits_input.proofs.Numbers.{digits_some, digit_more, digit_bad, digit_over, digits_end}
use Rattle.hits_input.proofs.read_size.Goals as goal

pub returns-then-not-is_ascii_digit-clause-value : goal.returns-then-not-is_ascii_digit-clause-value
returns-then-not-is_ascii_digit-clause-value c = search (rules, digits_some, digit_bad)

pub returns-then-size-limit-clause-value : goal.returns-then-size-limit-clause-value
returns-then-size-limit-clause-value c = search (rules, digits_some, digit_more, digit_over)

pub returns-clause-value : goal.returns-clause-value
returns-clause-value c = search (rules, digits_some, digits_end)
