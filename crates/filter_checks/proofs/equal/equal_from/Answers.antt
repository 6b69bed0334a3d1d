-- Rank s is entered where its pattern equals that of rank r; behind the first pattern of another
-- length there is no more.
use Rattle.std.specs.Prelude.{◌≡◌, ◌<◌}
use Rattle.lists.proofs.Prelude.{◌∙◌, ap, ap₂, sym, ℕ, same, length, arith}
use Rattle.bit_sets.specs.BitSets.{bit_at}
use Rattle.pattern_set.specs.PatternSet.{patterns_of}
use Rattle.pattern_set.proofs.IsSet.{set_good}
use Rattle.filter_tables.specs.Tables.{ranked}
use Rattle.filter_checks.proofs.EqualRanks.{ranked_slice, pointwise_same, equal_yes, equal_no, equal_end}
use Rattle.filter_checks.proofs.equal.equal_from.Goals.{After-pattern-other, then-eq, else-eq}
use Rattle.filter_checks.proofs.equal.equal_from.Goals as goal

-- the rank that is looked at is one of a pattern
inside : (c : After-pattern-other) → c.loop-s.s < length (patterns_of c.args.set.now)
inside c = omega (arith, c.loop-s-test.true, c.len-s-end.ensures.count, ap length c.of-patterns.ensures)

-- what is compared are the patterns of the two ranks
patterns : (c : After-pattern-other) →
    let ps = patterns_of c.args.set.now in
    (c.pattern-pattern.result.now ≡ ranked ps c.args.r) × (c.pattern-other.result.now ≡ ranked ps c.loop-s.s)
patterns c =
    let ps = patterns_of c.args.set.now in
    let view = c.of-patterns in (
      ranked_slice ps view.result c.args.numbers.now c.args.r c.number_at.result c.pattern-pattern.result.now view.ensures c.requires.ranks
          c.requires.r_in_bounds c.number_at.ensures c.pattern-pattern.ensures.pattern,
      ranked_slice ps view.result c.args.numbers.now c.loop-s.s c.number_at-in-loop-s.result c.pattern-other.result.now view.ensures c.requires.ranks
          (inside c) c.number_at-in-loop-s.ensures c.pattern-other.ensures.pattern,
    )

pub loop-s-preserved : goal.loop-s-preserved
loop-s-preserved c =
    let L = c.loop-s in
    let r = c.args.r in
    let ps = patterns_of c.args.set.now in
    let d = (goal.at.loop-s-preserved c).After-pattern-other in
    let e = sym (c.eq.ensures ∙ pointwise_same c.pattern-pattern.result.now c.pattern-other.result.now ∙ ap₂ same (patterns d).0 (patterns d).1) in
    let l : r < L.s = omega (arith, L.auto.s) in
    elim c.if-eq.branch [
      | then-eq w ↦ equal_yes ps r L.s L.equal c.if-eq.equal l L.invariant (e ∙ w.if-eq.true)
          (λ s h. ap (λ (m : ℕ). bit_at m s) w.equal-is ∙ w.with_bit-equal-then-eq.ensures s h)
      | else-eq w ↦ equal_no ps r L.s L.equal c.if-eq.equal l L.invariant (e ∙ w.if-eq.false) w.equal-is
    ]

pub returns-then-other-pattern : goal.returns-then-other-pattern
returns-then-other-pattern c =
    let L = c.loop-s in
    let d = (goal.at.returns-then-other-pattern c).After-pattern-other in
    equal_end (patterns_of c.args.set.now) c.args.r L.s L.equal (set_good c.args.set.now c.requires.set) (omega (arith, L.auto.s)) (inside d)
    (λ q. c.if-other-pattern.true (ap length (patterns d).1 ∙ q ∙ sym (ap length (patterns d).0))) L.invariant
