-- A place that is looked at has as many hits as are found, and they mark its block. One that is not
-- has at most as many as it has candidates, and its block is marked.
use Rattle.lists.proofs.Prelude.{◌∙◌, arith}
use Rattle.pattern_set.proofs.IsSet.{set_good}
use Rattle.filter_windows.specs.Patterns.{patterns}
use Rattle.filter_passes.proofs.Places.{marks_next, hits_at_size, hits_at_candidates, hits_at-le, bits_le}
use Rattle.filter_passes.proofs.counting.look_at.Goals as goal

pub returns-then-is_marked-clause-lower_bound : goal.returns-then-is_marked-clause-lower_bound
returns-then-is_marked-clause-lower_bound c =
    let t = c.args.tables.now in
    let stop = c.args.stop in (
      omega (
        arith,
        c.size.ensures,
        hits_at_candidates (patterns t) c.args.text.now stop.at.place stop.candidates (set_good t.windows.set.now t.windows.good)
            c.requires.set_of,
      ),
      omega (arith, c.size.ensures, bits_le stop.candidates),
    )

pub returns : goal.returns
returns c =
    let t = c.args.tables.now in
    let ps = patterns t in
    let text = c.args.text.now in
    let p = c.args.stop.at.place in
    let good = set_good t.windows.set.now t.windows.good in
    let r = c.hits_among-found in
    let e = c.size-2.ensures ∙ hits_at_size ps text p t.windows.numbers.now r.result good t.filled.check.ranks r.ensures in record {
      hits_marked_2 = marks_next ps text c.args.marks.now.words p good c.requires.hits_marked _ r.result r.ensures c.mark_if.ensures;
      lower_bound = (omega (arith, e), omega (arith, e, hits_at-le ps text p good));
      value = λ _. e;
    }
