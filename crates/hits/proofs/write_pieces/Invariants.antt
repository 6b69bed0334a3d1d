-- `write_pieces` is safe and ends: a piece lies in the buffer, and every piece but the last brings
-- the search nearer to its end.
use Rattle.std.specs.Prelude.{◌≡◌, ◌*◌, ◌≤◌}
use Rattle.lists.proofs.Prelude.{length}
use Rattle.hits_pieces.specs.Said.{progress_of, left}
use Rattle.hits.proofs.write_pieces.Given as goal

abbrev pub invariant-loop-piece : goal.invariant-loop-piece
invariant-loop-piece l =
    (63 ≤ length l.out) × (length l.hits ≤ 2 * length l.rises) × (length l.out ≡ length l.initial.out) × (length l.hits ≡ length l.initial.hits)
    × (length l.rises ≡ length l.initial.rises)

abbrev pub decreases-loop-piece : goal.decreases-loop-piece
decreases-loop-piece l = left (length l.text) (progress_of l.p)
