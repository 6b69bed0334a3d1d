-- A turn writes one failure length more.
use Rattle.std.specs.Prelude.{◌≡◌}
use Rattle.lists.proofs.Prelude.{◌∙◌, ap, refl, List, ℕ, suc, length, set, arith, tabulate}
use Rattle.lists.proofs.Tables.{tabulate_more}
use Rattle.realization.specs.Realization.{failure_length, failure_lengths}
use Rattle.compute_failures.proofs.Laws.{failure_lt}
use Rattle.compute_failures.proofs.failure_lengths.Goals as goal

pub loop-i-init : goal.loop-i-init
unfolding tabulate
loop-i-init c = refl

pub overflow_cast-out : goal.overflow_cast-out
overflow_cast-out c = record { fits = omega (arith, c.next_length.ensures, failure_lt c.args.ds.now (suc c.loop-i.i) (omega arith)) }

pub loop-i-preserved : goal.loop-i-preserved
loop-i-preserved c =
    let L = c.loop-i in
    ap (λ (z : List ℕ). set z L.i c.next_length.result) L.invariant
    ∙ tabulate_more (λ j. failure_length c.args.ds.now (suc j)) 0 c.args.out.now L.i _ (omega arith) c.next_length.ensures

pub returns : goal.returns
unfolding failure_lengths
returns c =
    let e : c.loop-i.i ≡ length c.args.ds.now = omega arith in
    rw e at c.loop-i.invariant
