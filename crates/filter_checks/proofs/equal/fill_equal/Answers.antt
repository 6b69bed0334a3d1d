-- A rank that has no set yet equals none before it, and gets one with those that equal it.
use Rattle.std.specs.Prelude.{◌+◌, ◌<◌}
use Rattle.lists.proofs.Prelude.{◌∙◌, ap, sym, subst, List, ℕ, length, get_or, arith}
use Rattle.set_access.proofs.Laws.{count_le}
use Rattle.pattern_set.specs.PatternSet.{patterns_of}
use Rattle.filter_checks.proofs.EqualRanks.{FilledBelow, filled_pass, filled_more, filled_all}
use Rattle.filter_checks.proofs.equal.fill_equal.Goals.{else-equal-r-eq0, then-equal-r-eq0}
use Rattle.filter_checks.proofs.equal.fill_equal.Goals as goal

pub loop-r-preserved : goal.loop-r-preserved
loop-r-preserved c =
    let L = c.loop-r in
    let ws = c.args.set.now in
    let ps = patterns_of ws in
    let lt : L.r < length ps = omega (arith, c.loop-r-test.true, c.len-r-end.ensures.count, ap length c.of.ensures) in
    let few = count_le ws c.requires.set in
    elim c.if-equal-r-eq0.branch [
      | then-equal-r-eq0 w ↦ filled_more ps L.r L.equal lt few L.invariant c.if-equal-r-eq0.equal w.equal_from-members.result
          w.if-equal-r-eq0.true w.equal_from-members.ensures
          (λ i h. ap (λ (l : List ℕ). get_or l i 0) w.equal-is ∙ w.put_at_members.ensures i h 0)
      | else-equal-r-eq0 w ↦ subst (FilledBelow ps (L.r + 1)) (sym w.equal-is) (filled_pass ps L.r L.equal lt few L.invariant w.if-equal-r-eq0.false)
    ]

pub returns : goal.returns
returns c =
    filled_all (patterns_of c.args.set.now) c.loop-r.r c.loop-r.equal (omega (arith, c.loop-r-test.false, c.len-r-end.ensures.count, ap length c.of.ensures))
    c.loop-r.invariant
