-- What is prepared is the callee's, and the piece goes by its refusal.
use Rattle.lists.proofs.Prelude.{◌∙◌, ap, sym, take, arith}
use Rattle.answers.proofs.Refusals.{number_positive}
use Rattle.hits_calls.specs.Prepared.{parts_of, refused_of}
use Rattle.hits_pieces.proofs.Said.{said_refused, said_header}
use Rattle.hits_pieces.proofs.first.say_prepared.Goals as goal

pub returns-in-Err : goal.returns-in-Err
returns-in-Err c =
    let a = c.args in
    let w = c.write_refused-bytes in
    record {
      said = said_refused (parts_of 0 (take a.k a.ends.now) a.values.now) a.set.now a.automaton.now a.out.now a.size
          c.from.result (c.from.ensures ∙ sym (ap refused_of c.in-Err.is) ∙ c.prepare.ensures.value)
          w.result (omega (arith, c.from.ensures, number_positive c.in-Err.r)) w.ensures.value.0 w.ensures.out_after;
      set_after = c.prepare.ensures.set_after;
      automaton_after = c.prepare.ensures.automaton_after;
    }

pub returns-in-Ok : goal.returns-in-Ok
returns-in-Ok c =
    let a = c.args in
    let w = c.write_header-header in
    record {
      said = said_header (parts_of 0 (take a.k a.ends.now) a.values.now) a.set.now a.automaton.now a.out.now a.size
          0 (sym (ap refused_of c.in-Ok.is) ∙ c.prepare.ensures.value)
          w.result (omega arith) w.ensures.value.0 w.ensures.out_after;
      set_after = c.prepare.ensures.set_after;
      automaton_after = c.prepare.ensures.automaton_after;
    }
