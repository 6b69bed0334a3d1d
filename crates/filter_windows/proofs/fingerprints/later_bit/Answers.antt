-- Each way through the code is one of the new bit behind the first place.
use Rattle.lists.proofs.Prelude.{◌∙◌, sym, arith}
use Rattle.filter_windows.proofs.Rolling.{new_bit_next}
use Rattle.filter_windows.proofs.fingerprints.later_bit.Goals as goal

pub returns-then-not_below : goal.returns-then-not_below
returns-then-not_below c =
    let a = c.args in
    (new_bit_next a.text.now a.p _ (λ e. omega (arith, c.requires.0)) (sym c.not_below.ensures ∙ c.if-not_below.true), omega arith)

pub returns-else-not_below : goal.returns-else-not_below
returns-else-not_below c =
    let a = c.args in
    (new_bit_next a.text.now a.p _ (λ e. omega (arith, c.requires.0)) (sym c.not_below.ensures ∙ c.if-not_below.false), omega arith)
