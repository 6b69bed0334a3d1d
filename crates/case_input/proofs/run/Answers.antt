-- `run` meets its contract: a turn counts one case more, by what its call told.
use Rattle.std.specs.Prelude.{◌≡◌, ◌≤◌, ◌<◌}
use Rattle.lists.proofs.Prelude.{sym, subst, ℕ, suc, arith, Option, None, Some}
use Rattle.test_differences.specs.declared.difference.Difference.{Difference}
use Rattle.test_tally.specs.declared.Tally.{Tally}
use Rattle.test_tally.specs.Tally.{no_cases, counted, IsCounted}
use Rattle.case_input.proofs.run.Goals as goal

one_more : (t u : Tally) (d : Option Difference) → u ≡ counted t d → t.cases < 100000 → u.cases ≡ suc t.cases
one_more t u d e h = rw e (omega arith)

failed_too : (t u : Tally) (d : Option Difference) → u ≡ counted t d → t.failed ≤ t.cases → t.cases < 100000 → u.failed ≤ u.cases
failed_too t u None e k h = rw e (omega arith)
failed_too t u (Some x) e k h = rw e (omega arith)

told_too : (is_of : ℕ → Option Difference → Type 0) (t u : Tally) (d : Option Difference) → u ≡ counted t d → t.cases < 100000
    → IsCounted is_of no_cases t.cases t → is_of t.cases d → IsCounted is_of no_cases u.cases u
told_too is_of t u d e h told is =
    subst (λ (n : ℕ). IsCounted is_of no_cases n u) (sym (one_more t u d e h)) (t, d, told, is, e)

pub loop-reached-preserved : goal.loop-reached-preserved
loop-reached-preserved g c =
    let before = c.loop-reached.invariant in
    let t = c.loop-reached.reached.cases.tally in
    let u = c.next_case.new.self.cases.tally in
    let d = c.case-d.result in
    let e = c.next_case.ensures.counted in
    let few : t.cases < 100000 = omega arith in
    let more = one_more t u d e few in record {
      most = omega (arith, more);
      failed = failed_too t u d e before.failed few;
      counted = told_too _ t u d e few before.counted (_, _, _, c.case-d.ensures);
    }
