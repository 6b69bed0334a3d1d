-- `next_piece` meets its contract: where the values have ended it is the closing line, else what
-- one call more leaves, and each brings the search nearer to its end (`next_less`).
use Rattle.std.specs.Prelude.{◌<◌}
use Rattle.lists.proofs.Prelude.{◌∙◌, refl, sym, subst, length}
use Rattle.lists.proofs.Tests.{clash}
use Rattle.hits_calls.specs.Called.{hit_front}
use Rattle.hits_printed.specs.Pieces.{Progress}
use Rattle.hits_pieces.specs.Said.{progress_of, left}
use Rattle.hits_pieces.proofs.Next.{piece_closing}
use Rattle.hits_pieces.proofs.Less.{next_less}
use Rattle.hits_pieces.proofs.search.next_piece.Goals as goal

pub returns-then-p : goal.returns-then-p
returns-then-p c =
    let a = c.args in record {
      next = piece_closing a.set.now a.automaton.now a.text.now a.p a.hits.now a.out.now c.write_closing-bytes.result c.if-p.true
          c.write_closing-bytes.ensures.value.0 c.write_closing-bytes.ensures.out_after;
      progress_bound = λ e. clash e refl;
    }

pub returns : goal.returns
returns c =
    let a = c.args in
    let q = c.call_once.ensures in
    let n = length a.text.now in record {
      next = q;
      progress_bound = λ e. subst (λ (p : Progress). left n p < left n (progress_of a.p)) (sym q.progress)
          (next_less a.set.now a.automaton.now a.text.now (length (hit_front a.hits.now a.out.now)) (progress_of a.p) (sym q.more ∙ e));
    }
