-- The set has the equal ranks below s. Behind the first pattern of another length all are shorter,
-- so there is none.
use Rattle.pattern_set.specs.PatternSet.{patterns_of}
use Rattle.filter_checks.specs.Equal.{EqualFrom}
use Rattle.filter_checks.proofs.equal.equal_from.Given as goal

abbrev pub invariant-loop-s : goal.invariant-loop-s
invariant-loop-s l = EqualFrom (patterns_of l.set) l.r l.s l.equal
