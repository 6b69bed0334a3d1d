-- What a piece in the buffer is, by the pieces of `hits_printed`, and how much a search has left.
use Rattle.std.specs.Prelude.{◌≡◌, ◌++◌, ◌-◌}
use Rattle.lists.specs.Prelude.{cond, Option, Some, List, [], ℕ, suc, ℤ, length, take, drop}
use Rattle.hits_input.specs.Input.{Input}
use Rattle.hits_printed.specs.Pieces as pieces
use Rattle.hits_pieces.specs.declared.first.First.{First}
use Rattle.hits_pieces.specs.declared.search.Progress.{Progress}
use Rattle.hits_pieces.specs.declared.search.Piece.{Piece}

-- ---- the first piece

-- r tells of the piece q, behind which a search over so many values follows if more follows, and
-- the buffer begins with it; later bytes are as they were
pub record IsSaid (q : pieces.Piece) (n : ℕ) (out out_after : List ℕ) (r : First) : Type 0 where
  pub bytes : r.bytes ≡ length q.text
  pub text : out_after ≡ q.text ++ drop (length q.text) out
  pub more : r.more ≡ q.more
  pub size : r.size ≡ n

-- the first piece, where these patterns were read
abbrev pub piece_for : List (List ℤ) → List ℕ → List ℕ → pieces.Piece
piece_for xss set automaton = pieces.first_piece (Some (record { patterns = xss; text = [] })) set automaton

-- the first piece for what was read, and what the arrays hold then. Of the array of the text only
-- its values are told, and of an input that is none nothing
pub record IsFirst (o : Option Input) (set automaton out : List ℕ) (text : List ℤ) (set_after automaton_after out_after : List ℕ) (r : First) : Type 0 where
  pub said : IsSaid (pieces.first_piece o set automaton) (length (pieces.text_for o)) out out_after r
  pub values : take (length (pieces.text_for o)) text ≡ pieces.text_for o
  pub patterns : set_after ≡ pieces.set_for o set
  pub nodes : automaton_after ≡ pieces.automaton_for o set automaton

-- ---- the pieces of a search

abbrev pub progress_of : Progress → pieces.Progress
progress_of p = record { state = p.state; attempts = p.attempts; ended = p.ended }

-- r tells of the piece q, and the buffer begins with it; later bytes are as they were
pub record IsNext (q : pieces.Piece) (out out_after : List ℕ) (r : Piece) : Type 0 where
  pub bytes : r.bytes ≡ length q.text
  pub text : out_after ≡ q.text ++ drop (length q.text) out
  pub more : r.more ≡ q.more
  pub progress : progress_of r.progress ≡ q.progress

-- how many calls a search over a text of n values can still make
abbrev pub left : ℕ → pieces.Progress → ℕ
left n p = cond p.ended 0 (suc (n - p.state.taken))
