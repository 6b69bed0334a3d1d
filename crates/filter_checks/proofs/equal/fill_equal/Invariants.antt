-- Each rank that equals one below r has its set, and the others have none yet.
use Rattle.pattern_set.specs.PatternSet.{patterns_of}
use Rattle.filter_checks.proofs.EqualRanks.{FilledBelow}
use Rattle.filter_checks.proofs.equal.fill_equal.Given as goal

abbrev pub invariant-loop-r : goal.invariant-loop-r
invariant-loop-r l = FilledBelow (patterns_of l.set) l.r l.equal
