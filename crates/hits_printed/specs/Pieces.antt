-- The output of the program `hits`, piece by piece, as its functions leave it in the lent buffer:
-- what each piece is by the entries' definitions, and the theorem that all of them are what is
-- printed.
use Rattle.std.specs.Prelude.{◌≡◌, ◌++◌, ◌+◌, ◌%◌, ◌^◌, ◌≤◌}
use Rattle.lists.specs.Prelude.{Bool, true, false, cond, Option, None, Some, List, [], ℕ, eqb, ℤ, pos, length, drop, replicate}
use Rattle.answers.specs.declared.SearchState.{SearchState}
use Rattle.answers.specs.Told.{new_search}
use Rattle.pattern_set.specs.PatternSet.{patterns_of}
use Rattle.search_model.specs.Search.{position_of, call, state_after}
use Rattle.entries.specs.Entries.{first_met, unless, stream_conditions}
use Rattle.hits_input.specs.Input.{Input, read_input}
use Rattle.hits_output.specs.Output.{header, hit_lines, closing_line, refused_line, bad_line}
use Rattle.hits_calls.specs.Prepared.{make_set, make_both}
use Rattle.hits_printed.specs.Printed.{printed}

-- how far the search has come: the state that the last call handed back, the attempts of all calls,
-- and whether the values have ended
pub record Progress : Type 0 where
  pub state : SearchState
  pub attempts : ℕ
  pub ended : Bool

-- a piece of the output, whether more follows it, and how far the search has come then
pub record Piece : Type 0 where
  pub text : List ℕ
  pub more : Bool
  pub progress : Progress

-- ---- the first piece

-- before the first call
abbrev pub start : Progress
start = record { state = new_search; attempts = 0; ended = false }

-- set and automaton in their arrays, where the input was read
abbrev pub set_for : Option Input → List ℕ → List ℕ
set_for None set = set
set_for (Some i) set = (make_set i.patterns set).1

abbrev pub automaton_for : Option Input → List ℕ → List ℕ → List ℕ
automaton_for None set automaton = automaton
automaton_for (Some i) set automaton = (make_both i.patterns set automaton).1

abbrev pub text_for : Option Input → List ℤ
text_for None = []
text_for (Some i) = i.text

-- `bad input`, a refusal, or the header, behind which more follows
abbrev pub first_piece : Option Input → List ℕ → List ℕ → Piece
first_piece None set automaton = record { text = bad_line; more = false; progress = start }
first_piece (Some i) set automaton =
    let r = (make_both i.patterns set automaton).0 in
    cond (eqb r 0) (record { text = header; more = true; progress = start }) (record { text = refused_line r; more = false; progress = start })

-- ---- the pieces behind it

-- the attempts, where the values have ended; else the lines of the hits of one call more, which has
-- so many words for hits and as many for rises, or its refusal
unfoldable pub next_piece : List ℕ → List ℕ → List ℤ → ℕ → Progress → Piece
next_piece set automaton text room p =
    let xs = drop p.state.taken text in
    let c = call (patterns_of set) (position_of p.state) room xs in
    let r = first_met (stream_conditions set automaton p.state xs (replicate room 0) (replicate room (pos 0))) in
    let next : Progress = record { state = state_after p.state xs c; attempts = (p.attempts + c.attempts) % 2 ^ 64; ended = eqb c.ended 1 } in
    cond p.ended (record { text = closing_line p.attempts; more = false; progress = p })
    (unless r (record { text = hit_lines (patterns_of set) c.hits; more = true; progress = next })
    (record { text = refused_line r; more = false; progress = p }))

-- the pieces from p on, one after the other until no more follow, come to an end and are these
-- bytes
pub data Prints (set automaton : List ℕ) (text : List ℤ) (room : ℕ) : Piece → List ℕ → Type 0 where
  last : {p : Piece} {bytes : List ℕ} → p.more ≡ false → bytes ≡ p.text → Prints set automaton text room p bytes
  before : {p : Piece} {bytes rest : List ℕ} → p.more ≡ true → bytes ≡ p.text ++ rest
      → Prints set automaton text room (next_piece set automaton text room p.progress) rest → Prints set automaton text room p bytes

-- THE THEOREM: from any bytes, with arrays that are long enough, the pieces are what is printed
abbrev pub PiecesTheorem : Type 0
PiecesTheorem = (bytes set automaton : List ℕ) (room : ℕ) → 1090 ≤ length set → 16384 ≤ length automaton → 128 ≤ room
    → Prints (set_for (read_input bytes) set) (automaton_for (read_input bytes) set automaton) (text_for (read_input bytes)) room
    (first_piece (read_input bytes) set automaton) (printed bytes)
