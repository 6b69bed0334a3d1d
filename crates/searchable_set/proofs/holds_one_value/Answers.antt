-- No pattern before j has one value.
use Rattle.std.specs.Prelude.{◌<◌}
use Rattle.lists.proofs.Prelude.{◌∙◌, ap, sym, List, [], ℕ, length, arith, eq-eqb, ne_eqb}
use Rattle.lists.proofs.Members.{scan_start, scan_more, scan_found}
use Rattle.pattern_set.specs.PatternSet.{has_one_value}
use Rattle.searchable_set.proofs.holds_one_value.Goals as goal

pub loop-j-init : goal.loop-j-init
loop-j-init c = scan_start has_one_value c.args.set.now

pub returns-then-pattern-eq1 : goal.returns-then-pattern-eq1
returns-then-pattern-eq1 c =
    let inside : c.loop-j.j < length c.args.set.now = omega (arith, c.loop-j-test.true, c.len-j-end.ensures.count) in
    sym (scan_found has_one_value c.args.set.now [] c.loop-j.j inside
    (eq-eqb _ 1 (sym (ap (λ (l : List ℕ). length l) c.pattern.ensures.pattern) ∙ c.if-pattern-eq1.true)))

pub loop-j-preserved : goal.loop-j-preserved
loop-j-preserved c =
    let inside : c.loop-j.j < length c.args.set.now = omega (arith, c.loop-j-test.true, c.len-j-end.ensures.count) in
    scan_more has_one_value c.args.set.now [] c.loop-j.j c.loop-j.invariant inside
    (ne_eqb _ 1 (λ e. c.if-pattern-eq1.false (ap (λ (l : List ℕ). length l) c.pattern.ensures.pattern ∙ e)))
