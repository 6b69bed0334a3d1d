-- The groups of the ranks that were seen are written one behind the other: with a rank all that
-- equal it were seen, so those that equal a rank that was not are new as well.
use Rattle.pattern_set.specs.PatternSet.{patterns_of}
use Rattle.filter_checks.proofs.Grouping.{Grouped}
use Rattle.filter_checks.proofs.groups.fill_groups.Given as goal

abbrev pub invariant-loop-r : goal.invariant-loop-r
invariant-loop-r l = Grouped (patterns_of l.set) l.numbers l.equal l.r l.seen l.at l.grouped l.words
