-- The words of pattern j leave those of the patterns before it as they are.
use Rattle.std.specs.Prelude.{◌+◌, ◌≤◌, ◌<◌}
use Rattle.lists.proofs.Prelude.{◌∙◌, ap, sym, subst, flatten, length, arith}
use Rattle.pattern_set.specs.PatternSet.{patterns_of}
use Rattle.pattern_set.proofs.IsSet.{set_good}
use Rattle.set_access.proofs.Laws.{total_le}
use Rattle.filter_checks.proofs.Places.{ComparisonsBelow, comparisons_more, comparisons_length}
use Rattle.filter_checks.proofs.comparisons.fill_comparisons.Goals as goal

pub loop-j-preserved : goal.loop-j-preserved
loop-j-preserved c =
    let L = c.loop-j in
    let ws = c.args.set.now in
    let ps = patterns_of ws in
    let good = set_good ws c.requires.set in
    let lt : L.j < length ps = omega (arith, c.loop-j-test.true, c.len-j-end.ensures.count, ap length c.of.ensures) in
    let room : length (flatten ps) ≤ length L.out = omega (arith, total_le ws c.requires.set, L.invariant.long) in
    let e = c.add_comparisons.ensures.out_after in record {
      long = ap length e ∙ comparisons_length ps good L.out room L.j lt ∙ L.invariant.long;
      below = subst (ComparisonsBelow ps (L.j + 1)) (sym e) (comparisons_more ps good L.out room L.j lt L.invariant.below);
    }
