-- What the loop has written and the hits from the block's first place on make the list, and so do
-- the rises; a block without a mark has no hit. Where the samples begin is known behind the last
-- block looked at.
use Rattle.std.specs.Prelude.{◌≡◌, ◌++◌, ◌+◌, ◌-◌, ◌*◌, ◌≤◌, ◌<◌}
use Rattle.lists.proofs.Prelude.{◌∙◌, ap, sym, List, map, ℕ, sets, length, arith}
use Rattle.pattern_set.proofs.IsSet.{set_good}
use Rattle.matching.specs.Matching.{hit_words}
use Rattle.matching.specs.Rise.{rise_in}
use Rattle.filter_windows.specs.Patterns.{patterns}
use Rattle.filter_windows.proofs.Samples.{Since-start, Since-same}
use Rattle.filter_passes.specs.Passes.{hits_from, rest_hits}
use Rattle.filter_passes.proofs.Lists.{hits_all, hits_end, block_step_to, block_pass}
use Rattle.filter_passes.proofs.Written.{Written-start, Written-none, written_room, part_room, Written-behind, written_end}
use Rattle.filter_passes.proofs.listing.write_hits.Goals.{else-is_marked, then-is_marked, After-min-end}
use Rattle.filter_passes.proofs.listing.write_hits.Goals as goal

-- the hits from the block's first place on are those of the block, and those behind it
here : (c : After-min-end) →
    let ps = patterns c.args.tables.now.tables in
    let first = 64 * c.loop-block.block in
    rest_hits ps c.args.text.now first ≡ hits_from ps c.args.text.now first (c.min-end.result - first) ++ rest_hits ps c.args.text.now (first + 64)
here c =
    block_step_to (patterns c.args.tables.now.tables) c.args.text.now (64 * c.loop-block.block) c.min-end.result
    (omega (arith, c.loop-block-test.true, c.div_ceil-block-end.ensures)) c.min-end.ensures

pub loop-block-init : goal.loop-block-init
loop-block-init c =
    let a = c.args in
    let ps = patterns a.tables.now.tables in
    let text = a.text.now in
    let all = ap length (hits_all ps text) in (
      omega arith,
      Since-start text,
      Written-start (rise_in ps text) a.out.now a.rises.now (rest_hits ps text 0) (omega (arith, c.requires.text_in_bounds, all))
          (omega (arith, c.requires.text_in_bounds_2, all)),
    )

pub write_block-listed-requires-clause-first_in_bounds : goal.write_block-listed-requires-clause-first_in_bounds
write_block-listed-requires-clause-first_in_bounds c =
    let L = c.loop-block in
    let a = c.args in
    let ps = patterns a.tables.now.tables in
    let text = a.text.now in
    let first = 64 * L.block in
    (part_room (rise_in ps text) a.out.now L.out a.rises.now L.rises L.to (rest_hits ps text 0) (rest_hits ps text first) L.invariant.2
    (hits_from ps text first (c.min-end.result - first)) (rest_hits ps text (first + 64))
    (here (goal.at.write_block-listed-requires-clause-first_in_bounds c).After-min-end)).0

pub write_block-listed-requires-clause-first_in_bounds_2 : goal.write_block-listed-requires-clause-first_in_bounds_2
write_block-listed-requires-clause-first_in_bounds_2 c =
    let L = c.loop-block in
    let a = c.args in
    let ps = patterns a.tables.now.tables in
    let text = a.text.now in
    let first = 64 * L.block in
    (part_room (rise_in ps text) a.out.now L.out a.rises.now L.rises L.to (rest_hits ps text 0) (rest_hits ps text first) L.invariant.2
    (hits_from ps text first (c.min-end.result - first)) (rest_hits ps text (first + 64))
    (here (goal.at.write_block-listed-requires-clause-first_in_bounds_2 c).After-min-end)).1

pub overflow_add-to : goal.overflow_add-to
overflow_add-to c =
    let L = c.loop-block in
    let a = c.args in
    let ps = patterns a.tables.now.tables in
    let text = a.text.now in
    let first = 64 * L.block in
    let room =
    written_room (rise_in ps text) a.out.now L.out a.rises.now L.rises L.to (rest_hits ps text 0) (rest_hits ps text first) L.invariant.2
    (hits_from ps text first (c.min-end.result - first)) (rest_hits ps text (first + 64)) (here (goal.at.overflow_add-to c).After-min-end) in
    omega (arith, room.1, c.write_block-listed.ensures.hits_value)

pub loop-block-preserved : goal.loop-block-preserved
loop-block-preserved c =
    let L = c.loop-block in
    let a = c.args in
    let t = a.tables.now.tables in
    let ps = patterns t in
    let text = a.text.now in
    let f = rise_in ps text in
    let first = 64 * L.block in
    let lt : first < length text = omega (arith, c.loop-block-test.true, c.div_ceil-block-end.ensures) in
    let next : 64 * (L.block + 1) ≡ first + 64 = omega arith in
    elim c.if-is_marked.branch [
      | then-is_marked w ↦ let b = w.write_block-listed in (
        omega (arith, w.done-is, w.min-end.ensures, next),
        Since-same text c.if-is_marked.done c.if-is_marked.begin w.min-end.result b.result.begin w.done-is w.begin-is b.ensures.since,
        rw (w.out-is, w.rises-is, w.to-is, next)
            (Written-behind f a.out.now L.out a.rises.now L.rises L.to (rest_hits ps text 0) (rest_hits ps text first) L.invariant.2
            (hits_from ps text first (w.min-end.result - first)) (rest_hits ps text (first + 64))
            (block_step_to ps text first w.min-end.result lt w.min-end.ensures) b.new.out b.new.rises b.result.hits b.ensures.out_after
            b.ensures.rises_after b.ensures.hits_value),
      )
      | else-is_marked w ↦ let none =
          block_pass ps text a.marks.now.words first L.block (set_good t.windows.set.now t.windows.good) c.requires.hits_marked
          (sym c.is_marked.ensures ∙ w.if-is_marked.false) (omega arith) lt in (
            omega (arith, w.done-is, L.invariant.0, next),
            Since-same text c.if-is_marked.done c.if-is_marked.begin L.done L.begin w.done-is w.begin-is L.invariant.1,
            rw (w.out-is, w.rises-is, w.to-is, next)
                (Written-none f a.out.now L.out a.rises.now L.rises L.to (rest_hits ps text 0) (rest_hits ps text first) L.invariant.2
                (rest_hits ps text (first + 64)) none),
          )
    ]

pub returns : goal.returns
returns c =
    let L = c.loop-block in
    let a = c.args in
    let ps = patterns a.tables.now.tables in
    let text = a.text.now in
    let f = rise_in ps text in
    let end : length text ≤ 64 * L.block = omega (arith, c.loop-block-test.false, c.div_ceil-block-end.ensures) in
    let all = hits_all ps text in
    let e =
    written_end f a.out.now L.out a.rises.now L.rises L.to (rest_hits ps text 0) (rest_hits ps text (64 * L.block)) L.invariant.2
    (hits_end ps text (64 * L.block) (length text) end) in record {
      value = e.0 ∙ ap length all;
      out_after = e.1 ∙ ap (λ (v : List (ℕ × ℕ)). sets a.out.now 0 (hit_words v)) all;
      rises_after = e.2 ∙ ap (λ (v : List (ℕ × ℕ)). sets a.rises.now 0 (map f v)) all;
    }
