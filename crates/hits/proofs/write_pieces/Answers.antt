-- `write_pieces` is safe and ends: a piece lies in the buffer, and every piece but the last brings
-- the search nearer to its end.
use Rattle.std.specs.Prelude.{◌≤◌}
use Rattle.lists.proofs.Prelude.{length, length-take, not-false, arith}
use Rattle.hits_pieces.proofs.Next.{next_within}
use Rattle.hits.proofs.write_pieces.Goals.{After-next_piece-piece}
use Rattle.hits.proofs.write_pieces.Goals as goal

-- the piece lies in the buffer
abbrev Within : After-next_piece-piece → Type 0
Within n = n.next_piece-piece.result.bytes ≤ length n.next_piece-piece.new.out

within : (n : After-next_piece-piece) → Within n
within n = next_within n.next_piece-piece.ensures.next

pub slice_bounds-write_all-end : goal.slice_bounds-write_all-end
slice_bounds-write_all-end c = within (goal.at.slice_bounds-write_all-end c).After-next_piece-piece

pub slice_bounds-write_all-end-in-loop-piece : goal.slice_bounds-write_all-end-in-loop-piece
slice_bounds-write_all-end-in-loop-piece c =
    let w : Within (goal.at.slice_bounds-write_all-end-in-loop-piece c).After-next_piece-piece = within
    (goal.at.slice_bounds-write_all-end-in-loop-piece c).After-next_piece-piece in
    simp length-take (omega (arith, w))

pub loop-piece-smaller : goal.loop-piece-smaller
loop-piece-smaller c =
    c.next_piece-piece.ensures.progress_bound (not-false _ c.if-not-piece.false)
