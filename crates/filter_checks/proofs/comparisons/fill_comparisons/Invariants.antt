-- The words of the patterns below j lie where they belong.
use Rattle.std.specs.Prelude.{◌≡◌}
use Rattle.lists.proofs.Prelude.{length}
use Rattle.pattern_set.specs.PatternSet.{patterns_of}
use Rattle.filter_checks.proofs.Places.{ComparisonsBelow}
use Rattle.filter_checks.proofs.comparisons.fill_comparisons.Given as goal

abbrev pub invariant-loop-j : goal.invariant-loop-j
invariant-loop-j l = record {
  long : length l.out ≡ 4096;
  below : ComparisonsBelow (patterns_of l.set) l.j l.out;
}
