-- To add what is left to the set as it is comes to the same as to add all of it.
use Rattle.std.specs.Prelude.{◌≡◌}
use Rattle.std.proofs.Common.{rules}
use Rattle.lists.proofs.Prelude.{◌∙◌, ap, sym, refl, List, ℕ, arith}
use Rattle.answers.specs.Told.{number}
use Rattle.answers.proofs.Refusals.{number_positive}
use Rattle.hits_calls.specs.Prepared.{refused_of}
use Rattle.hits_calls.proofs.Prepared.{add_refused, add_more, add_none}
use Rattle.hits_calls.proofs.preparing.add_all.Goals as goal

pub returns-in_err-add_pattern-clause-value : goal.returns-in_err-add_pattern-clause-value
returns-in_err-add_pattern-clause-value c =
    let L = c.loop-told in
    let r = c.in_err-add_pattern.field-0.0 in
    let f : refused_of c.from_residual.result ≡ number r = search rules in
    let e = L.invariant ∙ add_refused L.from L.told-index _ _ _ _ _ _ _ (number r) c.loop-told-test.true refl c.min-end.ensures
    c.min-start.ensures (ap (λ z. z.0) c.in_err-add_pattern.ensures.result_value) c.in_err-add_pattern.ensures.words_after (number_positive r) in
    f ∙ sym (ap (λ (z : ℕ × List ℕ). z.0) e)

pub returns-in_err-add_pattern-clause-set_after : goal.returns-in_err-add_pattern-clause-set_after
returns-in_err-add_pattern-clause-set_after c =
    let L = c.loop-told in
    let r = c.in_err-add_pattern.field-0.0 in
    let e = L.invariant ∙ add_refused L.from L.told-index _ _ _ _ _ _ _ (number r) c.loop-told-test.true refl c.min-end.ensures
    c.min-start.ensures (ap (λ z. z.0) c.in_err-add_pattern.ensures.result_value) c.in_err-add_pattern.ensures.words_after (number_positive r) in
    sym (ap (λ (z : ℕ × List ℕ). z.1) e)

pub loop-told-preserved : goal.loop-told-preserved
loop-told-preserved c =
    let L = c.loop-told in
    L.invariant ∙ add_more L.from L.told-index _ _ _ _ _ _ _ 0 c.loop-told-test.true refl c.min-end.ensures
    c.min-start.ensures (ap (λ z. z.0) c.in_ok-add_pattern.ensures.result_value) c.in_ok-add_pattern.ensures.words_after (omega arith)

pub returns-clause-value : goal.returns-clause-value
returns-clause-value c =
    let L = c.loop-told in
    sym (ap (λ (z : ℕ × List ℕ). z.0) (L.invariant ∙ add_none L.from L.told-index _ _ L.set c.loop-told-test.false))

pub returns-clause-set_after : goal.returns-clause-set_after
returns-clause-set_after c =
    let L = c.loop-told in
    sym (ap (λ (z : ℕ × List ℕ). z.1) (L.invariant ∙ add_none L.from L.told-index _ _ L.set c.loop-told-test.false))
