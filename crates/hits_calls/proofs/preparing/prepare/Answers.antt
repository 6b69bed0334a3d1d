-- Each call leaves what its entry says, and the first refusal ends it.
use Rattle.std.specs.Prelude.{◌≡◌}
use Rattle.std.proofs.Common.{rules}
use Rattle.lists.proofs.Prelude.{◌∙◌, ap, arith}
use Rattle.answers.specs.Told.{number}
use Rattle.answers.proofs.Refusals.{number_positive}
use Rattle.hits_calls.specs.Prepared.{refused_of}
use Rattle.hits_calls.proofs.Prepared.{empty_refused, set_added, set_refused, set_made}
use Rattle.hits_calls.proofs.preparing.prepare.Goals as goal

pub returns-in_err-empty_set : goal.returns-in_err-empty_set
returns-in_err-empty_set c =
    let r = c.in_err-empty_set.field-0.0 in
    let f : refused_of c.from_residual.result ≡ number r = search rules in
    let m = set_refused _ c.args.set.now c.args.automaton.now _ (number r)
    (empty_refused _ _ _ (number r) (ap (λ z. z.0) c.in_err-empty_set.ensures.result_value) c.in_err-empty_set.ensures.out_after (number_positive r))
    (number_positive r) in
    record { value = f ∙ m.0; set_after = m.1.0; automaton_after = m.1.1 }

pub returns-in_err-add_all : goal.returns-in_err-add_all
returns-in_err-add_all c =
    let r = c.in_err-add_all.field-0.0 in
    let f : refused_of c.from_residual-in_err-add_all.result ≡ number r = search rules in
    let m = set_refused _ c.args.set.now c.args.automaton.now _ (number r)
    (set_added _ _ _ 0 (ap (λ z. z.0) c.in_ok-empty_set.ensures.result_value) c.in_ok-empty_set.ensures.out_after (omega arith)
    (number r) _ c.in_err-add_all.ensures.value c.in_err-add_all.ensures.set_after)
    (number_positive r) in
    record { value = f ∙ m.0; set_after = m.1.0; automaton_after = m.1.1 }

pub returns-in_err-build_automaton : goal.returns-in_err-build_automaton
returns-in_err-build_automaton c =
    let r = c.in_err-build_automaton.field-0.0 in
    let f : refused_of c.from_residual-in_err-build_automaton.result ≡ number r = search rules in
    let m = set_made _ c.args.set.now c.args.automaton.now _ 0
    (set_added _ _ _ 0 (ap (λ z. z.0) c.in_ok-empty_set.ensures.result_value) c.in_ok-empty_set.ensures.out_after (omega arith)
    0 _ c.in_ok-add_all.ensures.value c.in_ok-add_all.ensures.set_after)
    (omega arith) (number r) _ (ap (λ z. z.0) c.in_err-build_automaton.ensures.result_value) c.in_err-build_automaton.ensures.out_after in
    record { value = f ∙ m.0; set_after = m.1.0; automaton_after = m.1.1 }

pub returns : goal.returns
returns c =
    let m = set_made _ c.args.set.now c.args.automaton.now _ 0
    (set_added _ _ _ 0 (ap (λ z. z.0) c.in_ok-empty_set.ensures.result_value) c.in_ok-empty_set.ensures.out_after (omega arith)
    0 _ c.in_ok-add_all.ensures.value c.in_ok-add_all.ensures.set_after)
    (omega arith) 0 _ (ap (λ z. z.0) c.in_ok-build_automaton.ensures.result_value) c.in_ok-build_automaton.ensures.out_after in
    record { value = m.0; set_after = m.1.0; automaton_after = m.1.1 }
