-- What one call of the program tells, and what it leaves in the arrays.
use Rattle.std.specs.Prelude.{◌≡◌, ◌&&◌, ◌++◌, ◌*◌, ◌/◌, Result, Ok, Err}
use Rattle.lists.specs.Prelude.{Bool, false, List, [], ℕ, min, eqb, ℤ, length, take, drop}
use Rattle.answers.specs.declared.{SearchState.{SearchState}, Refusal.{Refusal}}
use Rattle.answers.specs.Told.{number}
use Rattle.pattern_set.specs.PatternSet.{patterns_of}
use Rattle.entries.specs.Entries.{first_met, unless, told, after, Counts, stream_conditions, stream_call, stream_entry, stream_rises, stream_state}
use Rattle.hits_output.specs.Output.{hit_lines}
use Rattle.hits_calls.specs.declared.calls.{Step.{Step}, Batch.{Batch}}

-- the front of the hit array that is lent to the search: a line has at most 63 bytes, and the text
-- of all hits fits the buffer
abbrev pub hit_front : List ℕ → List ℕ → List ℕ
hit_front hits out = take (min (length hits) (2 * (length out / 63))) hits

-- what the call tells
abbrev pub tells : List ℕ → List ℕ → SearchState → List ℤ → List ℕ → List ℤ → ℕ × Counts
tells ws automaton st xs hits rises = told (0, 0, 0, 0) (stream_entry ws automaton st xs hits rises)

-- the text of the call's hits; none where it is refused
abbrev pub batch : List ℕ → List ℕ → SearchState → List ℤ → List ℕ → List ℤ → List ℕ
batch ws automaton st xs hits rises =
    unless (first_met (stream_conditions ws automaton st xs hits rises)) (hit_lines (patterns_of ws) (stream_call ws st xs hits).hits) []

-- a refusal, whether values are left, hits and attempts
abbrev pub summed : ℕ → Bool → ℕ → ℕ → ℕ × (Bool × ℕ × ℕ)
summed refused more hits attempts = (refused, (more, hits, attempts))

-- of what a call tells; values are left where it is accepted and full
abbrev pub summary : ℕ × Counts → ℕ × (Bool × ℕ × ℕ)
summary t = summed t.0 (eqb t.0 0 && eqb t.1.0 0) t.1.2 t.1.3

-- the same of what a call answers
abbrev pub told_batch : Result Batch Refusal → ℕ × (Bool × ℕ × ℕ)
told_batch (Ok b) = summed 0 b.more b.hits b.attempts
told_batch (Err r) = summed (number r) false 0 0

-- the bytes of the text of its hits; none where it is refused
abbrev pub bytes_of : Result Batch Refusal → ℕ
bytes_of (Ok b) = b.bytes
bytes_of (Err r) = 0

-- a call as the program makes it: what it answers, and what it leaves in the arrays
pub record IsCalled (ws automaton : List ℕ) (st : SearchState) (xs : List ℤ) (hits : List ℕ) (second : List ℤ) (out hits_after : List ℕ) (left : List ℤ)
    (out_after : List ℕ) (r : Step) : Type 0 where
  -- its refusal, whether values are left, its hits and attempts
  pub answer : told_batch r.answer ≡ summary (tells ws automaton st xs (hit_front hits out) second)
  -- the state that it hands back
  pub state : r.state ≡ stream_state ws automaton st xs (hit_front hits out) second
  -- the words of its hits, in the front of the hit array that was lent
  pub words : hits_after ≡ after (stream_entry ws automaton st xs (hit_front hits out) second) (hit_front hits out) ++ drop (length (hit_front hits out)) hits
  -- the rises over them
  pub rises : left ≡ after (stream_rises ws automaton st xs (hit_front hits out) second) second
  -- the text of its hits, and its length
  pub bytes : bytes_of r.answer ≡ length (batch ws automaton st xs (hit_front hits out) second)
  pub text : out_after ≡ batch ws automaton st xs (hit_front hits out) second ++ drop (length (batch ws automaton st xs (hit_front hits out) second)) out
