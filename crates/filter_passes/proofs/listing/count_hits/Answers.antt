-- The loop's count and the hits from the block's first place on make the hits of the text; a block
-- without a mark has none. Where the samples begin is known behind the last block looked at.
use Rattle.std.specs.Prelude.{◌≡◌, ◌+◌, ◌-◌, ◌*◌, ◌≤◌, ◌<◌}
use Rattle.lists.proofs.Prelude.{◌∙◌, ap, sym, length, arith}
use Rattle.pattern_set.proofs.IsSet.{set_good}
use Rattle.filter_windows.specs.Patterns.{patterns}
use Rattle.filter_windows.proofs.Samples.{Since-start, Since-same}
use Rattle.filter_passes.proofs.Lists.{hits_all, hits_end, hits_from-le, length_block_step, block_pass}
use Rattle.filter_passes.proofs.listing.count_hits.Goals.{else-is_marked, then-is_marked}
use Rattle.filter_passes.proofs.listing.count_hits.Goals as goal

pub overflow_add-count : goal.overflow_add-count
overflow_add-count c =
    let L = c.loop-block in
    let t = c.args.tables.now in
    let text = c.args.text.now in
    omega (
      arith,
      c.requires.text_len_bound,
      c.count_block-counted.ensures.hits_value,
      length_block_step (patterns t) text (64 * L.block) c.min-end.result (omega (arith, c.loop-block-test.true, c.div_ceil-block-end.ensures))
          c.min-end.ensures,
      L.invariant.2,
      hits_from-le (patterns t) text 0 (length text - 0) (set_good t.windows.set.now t.windows.good),
    )

pub loop-block-init : goal.loop-block-init
loop-block-init c = (omega arith, Since-start c.args.text.now, omega arith)

pub loop-block-preserved : goal.loop-block-preserved
loop-block-preserved c =
    let L = c.loop-block in
    let t = c.args.tables.now in
    let ps = patterns t in
    let text = c.args.text.now in
    let first = 64 * L.block in
    let lt : first < length text = omega (arith, c.loop-block-test.true, c.div_ceil-block-end.ensures) in
    let next : 64 * (L.block + 1) ≡ first + 64 = omega arith in
    elim c.if-is_marked.branch [
      | then-is_marked w ↦ (
        omega (arith, w.done-is, w.min-end.ensures, next),
        Since-same text c.if-is_marked.done c.if-is_marked.begin w.min-end.result w.count_block-counted.result.begin w.done-is w.begin-is
            w.count_block-counted.ensures.since,
        rw next (omega (
          arith,
          w.count-is,
          w.count_block-counted.ensures.hits_value,
          length_block_step ps text first w.min-end.result lt w.min-end.ensures,
          L.invariant.2,
        )),
      )
      | else-is_marked w ↦ let none =
          block_pass ps text c.args.marks.now.words first L.block (set_good t.windows.set.now t.windows.good) c.requires.hits_marked
          (sym c.is_marked.ensures ∙ w.if-is_marked.false) (omega arith) lt in (
            omega (arith, w.done-is, L.invariant.0, next),
            Since-same text c.if-is_marked.done c.if-is_marked.begin L.done L.begin w.done-is w.begin-is L.invariant.1,
            rw next (omega (arith, w.count-is, ap length none, L.invariant.2)),
          )
    ]

pub returns : goal.returns
returns c =
    let L = c.loop-block in
    let ps = patterns c.args.tables.now in
    let text = c.args.text.now in
    let end : length text ≤ 64 * L.block = omega (arith, c.loop-block-test.false, c.div_ceil-block-end.ensures) in
    omega (arith, L.invariant.2, ap length (hits_end ps text (64 * L.block) (length text) end), ap length (hits_all ps text))
