-- `compare` meets its contract: the machine compares the bits of the numbers.
use Rattle.std.specs.Prelude.{◌≡◌}
use mir.Syntax.{w128}
use Rattle.lists.proofs.Prelude.{◌∙◌, ap, ap₂, sym, refl, true, false, eqb, eq-eqb, eqb-true, ne_eqb, ℤ, eq_z, SFits, of_z, to_z, to_z-of_z}
use Rattle.lists.proofs.Tests.{true-T, T-true, test_ext}
use Rattle.lists.proofs.Order.{eq_z_eq, eq_z_refl}
use Rattle.test_differences.specs.Difference.{differs, compared}
use Rattle.test_differences.proofs.difference.compare.Goals as goal

bits_same : (a b : ℤ) → SFits w128 a → SFits w128 b → eqb (of_z w128 a) (of_z w128 b) ≡ eq_z a b
bits_same a b f g =
    test_ext (eqb (of_z w128 a) (of_z w128 b)) (eq_z a b)
    (λ t.
    let bits = eqb-true (of_z w128 a) (of_z w128 b) (true-T _ t) in
    let e : a ≡ b = sym (to_z-of_z w128 a f) ∙ ap (to_z w128) bits ∙ to_z-of_z w128 b g in
    rw e (T-true _ (eq_z_refl b)))
    (λ t. T-true _ (eq-eqb (of_z w128 a) (of_z w128 b) (ap (of_z w128) (eq_z_eq a b (true-T _ t)))))

pub returns-then-expected-got : goal.returns-then-expected-got
unfolding compared
returns-then-expected-got c =
    let a = c.args in
    let f = c.ranges in
    rw (sym (bits_same a.expected a.got f.expected f.got) ∙ eq-eqb _ _ c.if-expected-got.true) refl

pub returns : goal.returns
unfolding compared
returns c =
    let a = c.args in
    let f = c.ranges in
    let differ : eq_z a.expected a.got ≡ false =
    sym (bits_same a.expected a.got f.expected f.got) ∙ ne_eqb _ _ c.if-expected-got.false in
    rw differ
    (c.differ.ensures ∙ ap₂ (differs a.part a.place) (to_z-of_z w128 a.expected f.expected) (to_z-of_z w128 a.got f.got))
