-- `write_answer` is safe and ends: the piece lies in the buffer, and the values that are searched
-- in their array.
use Rattle.std.specs.Prelude.{◌≤◌}
use Rattle.lists.proofs.Prelude.{length, length-take, arith}
use Rattle.hits_pieces.proofs.Said.{first_within}
use Rattle.hits.proofs.write_answer.Goals.{After-first_piece-f}
use Rattle.hits.proofs.write_answer.Goals as goal

abbrev Within : After-first_piece-f → Type 0
Within f =
    (f.first_piece-f.result.bytes ≤ length f.first_piece-f.new.out)
    × (f.first_piece-f.result.size ≤ length f.first_piece-f.new.text)

within : (f : After-first_piece-f) → Within f
within f = first_within f.first_piece-f.ensures

pub slice_bounds-write_all-end : goal.slice_bounds-write_all-end
slice_bounds-write_all-end c = (within (goal.at.slice_bounds-write_all-end c).After-first_piece-f).0

pub slice_bounds-write_all-end-2 : goal.slice_bounds-write_all-end-2
slice_bounds-write_all-end-2 c =
    let w : Within (goal.at.slice_bounds-write_all-end-2 c).After-first_piece-f = within (goal.at.slice_bounds-write_all-end-2 c).After-first_piece-f in
    simp length-take (omega (arith, w.0))

pub slice_bounds-text-end : goal.slice_bounds-text-end
slice_bounds-text-end c =
    (within (goal.at.slice_bounds-text-end c).After-first_piece-f).1

pub slice_bounds-write_pieces-end : goal.slice_bounds-write_pieces-end
slice_bounds-write_pieces-end c =
    let h : Within (goal.at.slice_bounds-write_pieces-end c).After-first_piece-f = within (goal.at.slice_bounds-write_pieces-end c).After-first_piece-f in
    simp length-take (omega (arith, h.1))
