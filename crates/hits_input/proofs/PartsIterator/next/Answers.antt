-- A part ends at the first separator, or with what is left.
use Rattle.std.proofs.Common.{rules}
use Rattle.lists.proofs.Prelude.{ap, length, arith}
use Rattle.hits_input.proofs.Cutting.{part_ended, part_last}
use Rattle.hits_input.proofs.PartsIterator.next.Goals as goal

pub returns-in-Some-clause-steps : goal.returns-in-Some-clause-steps
returns-in-Some-clause-steps c = part_ended _ _ c.in_ok-rest.rest c.in-Some.end c.in_ok-rest.was (search rules) (search rules) (search rules)

pub returns-in-Some-clause-goes : goal.returns-in-Some-clause-goes
returns-in-Some-clause-goes c =
    let e = part_ended c.args.self.now.separator _ c.in_ok-rest.rest c.in-Some.end c.in_ok-rest.was (search rules) (search rules) (search rules) in
    record { on = λ _. (tt, tt, omega (arith, ap length e)); keeps = tt; rests = λ _. tt }

pub returns-in-None-clause-steps : goal.returns-in-None-clause-steps
returns-in-None-clause-steps c = part_last _ _ c.in_ok-rest.rest c.in_ok-rest.was (search rules)

pub returns-in-None-clause-goes : goal.returns-in-None-clause-goes
returns-in-None-clause-goes c =
    let e = part_last c.args.self.now.separator _ c.in_ok-rest.rest c.in_ok-rest.was (search rules) in
    record { on = λ _. (tt, tt, omega (arith, ap length e)); keeps = tt; rests = λ _. tt }
