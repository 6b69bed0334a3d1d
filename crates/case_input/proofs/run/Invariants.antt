-- Each turn counts a case, by what its call told, and at most one of them as failed; with those
-- that may be run still they are 100,000 at most.
use Rattle.std.specs.Prelude.{◌+◌, ◌≤◌}
use Rattle.test_tally.specs.Tally.{no_cases, IsCounted}
use Rattle.case_input.proofs.run.Given as goal

abbrev pub invariant-loop-reached : goal.invariant-loop-reached
invariant-loop-reached g l =
    let t = l.reached.cases.tally in record {
      most : t.cases + l.reached.left ≤ 100000;
      failed : t.failed ≤ t.cases;
      counted : IsCounted (λ i d. (from : _) × (first : _) × (behind : _) × goal.F-post g l.case from first d behind) no_cases t.cases t;
    }

abbrev pub decreases-loop-reached : goal.decreases-loop-reached
decreases-loop-reached g l = l.reached.left
