-- The first i words are those of the list, and the words from i on are as they came.
use Rattle.std.specs.Prelude.{◌≡◌, ◌++◌}
use Rattle.lists.proofs.Prelude.{◌∙◌, ap, refl, List, ℕ, get_or, take, drop, set, length-set, arith}
use Rattle.lists.proofs.Parts.{fill_more}
use Rattle.compute_next.proofs.copy_front.Goals as goal

pub loop-i-preserved : goal.loop-i-preserved
loop-i-preserved c =
    let L = c.loop-i in
    let ds = c.args.ds.now in
    let x = get_or ds L.i 0 in (
      length-set L.out L.i x ∙ L.invariant.0,
      ap (λ (o : List ℕ). set o L.i x) L.invariant.1 ∙ fill_more 0 ds c.args.out.now L.i x (omega arith) (omega arith) refl,
    )

pub returns : goal.returns
returns c =
    let L = c.loop-i in
    let e : L.i ≡ c.args.n = omega arith in
    L.invariant.1 ∙ ap (λ (k : ℕ). take k c.args.ds.now ++ drop k c.args.out.now) e
