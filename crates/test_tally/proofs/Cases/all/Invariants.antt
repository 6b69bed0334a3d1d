-- As many cases more are counted as there were turns, each by what its call told.
use Rattle.std.specs.Prelude.{◌≡◌, ◌+◌, ◌%◌, ◌^◌}
use Rattle.test_tally.specs.Tally.{IsCounted}
use Rattle.test_tally.proofs.Cases.all.Given as goal

abbrev pub invariant-loop-i : goal.invariant-loop-i
invariant-loop-i g l = record {
  cases : l.self.tally.cases % 2 ^ 64 ≡ (l.initial.self.tally.cases + l.i) % 2 ^ 64;
  counted : IsCounted (λ i d. goal.F-post g l.case i d) l.initial.self.tally l.i l.self.tally;
}
