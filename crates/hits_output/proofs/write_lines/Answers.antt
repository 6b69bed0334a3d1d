-- The line of one hit more stands behind the others.
use Rattle.lists.proofs.Prelude.{◌∙◌, ap, refl, List, ℕ, length, length-append, arith}
use Rattle.pattern_set.specs.PatternSet.{patterns_of}
use Rattle.matching.specs.HitsIn.{hit_in, hits_in}
use Rattle.hits_output.specs.Output.{hit_line, hit_lines}
use Rattle.hits_output.proofs.Lines.{written, written_more, lines_start, lines_more}
use Rattle.hits_output.proofs.write_lines.Goals as goal

pub loop-i-init : goal.loop-i-init
loop-i-init c = rw (lines_start (patterns_of c.args.set.now) c.args.hits.now) (refl, omega arith, refl)

pub loop-i-preserved : goal.loop-i-preserved
loop-i-preserved c =
    let L = c.loop-i in
    let w = c.write_hit-at.ensures in
    let ps = patterns_of c.args.set.now in
    let e = lines_more ps c.args.hits.now L.i in (
      omega (
        arith,
        L.invariant.0,
        w.value.0,
        ap length e,
        length-append (hit_lines ps (hits_in c.args.hits.now L.i))
            (hit_line ps (hit_in c.args.hits.now L.i)),
      ),
      omega (arith, L.invariant.1, w.value.1),
      written_more _ _ _ _ _ L.at _ L.invariant.2 L.invariant.0 refl w.out_after ∙ ap (λ (l : List ℕ). written l c.args.out.now) e,
    )
