-- What each answer tells: the number of the refusal, 0 where there is none, and the counts, 0 where
-- it is refused.
use Rattle.std.specs.Prelude.{Result, Ok, Err}
use Rattle.lists.specs.Prelude.{ℕ, pos, replicate, Option, None, Some}
use Rattle.answers.specs.declared.{Refusal.{Refusal}, SetSize.{SetSize}, AutomatonSize.{AutomatonSize}, Filtered.{Filtered}}
use Rattle.answers.specs.declared.{End.{End}, Progress.{Progress}, Hit.{Hit}, FirstHit.{FirstHit}, SearchState.{SearchState}}

-- Document 01: When the finder declines; from 12 on document 02
abbrev pub number : Refusal → ℕ
number Refusal.Empty = 1
number Refusal.TooLong = 2
number Refusal.CodeTooLong = 3
number Refusal.NotRealizable = 4
number Refusal.BrokenSet = 5
number Refusal.SetFull = 6
number Refusal.OtherAutomaton = 7
number Refusal.BrokenState = 8
number Refusal.TextTooLong = 9
number Refusal.ArrayTooShort = 10
number Refusal.ListTooLong = 11
number Refusal.CatalogueTooLong = 12
number Refusal.HoldsGap = 13
number Refusal.NoSuchPattern = 14
number Refusal.OneValue = 15

-- refusal and number: the words written, or a code
abbrev pub told_number : Result ℕ Refusal → ℕ × ℕ
told_number (Ok n) = (0, n)
told_number (Err r) = (number r, 0)

-- refusal; 1 where the list is the last of its catalogue; number of words
abbrev pub told_next : Result (Option ℕ) Refusal → ℕ × (ℕ × ℕ)
told_next (Ok (Some n)) = (0, (0, n))
told_next (Ok None) = (0, (1, 0))
told_next (Err r) = (number r, (0, 0))

-- refusal, patterns and distances
abbrev pub told_size : Result SetSize Refusal → ℕ × (ℕ × ℕ)
told_size (Ok s) = (0, (s.patterns, s.distances))
told_size (Err r) = (number r, (0, 0))

-- refusal, nodes and words
abbrev pub told_built : Result AutomatonSize Refusal → ℕ × (ℕ × ℕ)
told_built (Ok a) = (0, (a.nodes, a.words))
told_built (Err r) = (number r, (0, 0))

-- refusal, hits and candidates
abbrev pub told_filtered : Result Filtered Refusal → ℕ × (ℕ × ℕ)
told_filtered (Ok f) = (0, (f.hits, f.candidates))
told_filtered (Err r) = (number r, (0, 0))

-- 1 where the values ended and 0 where the call is full
abbrev pub told_end : End → ℕ
told_end End.Ended = 1
told_end End.Full = 0

-- refusal; how the call ended; values taken, hits and attempts
abbrev pub told_streamed : Result Progress Refusal → ℕ × (ℕ × ℕ × ℕ × ℕ)
told_streamed (Ok p) = (0, (told_end p.end, p.counts.taken, p.counts.hits, p.counts.attempts))
told_streamed (Err r) = (number r, (0, 0, 0, 0))

-- 1 where there is a hit and 0 where there is none; its last place, its pattern number and the
-- values read
abbrev pub told_hit : Option Hit → ℕ → ℕ × ℕ × ℕ × ℕ
told_hit (Some h) read = (1, h.last, h.pattern, read)
told_hit None read = (0, 0, 0, read)

-- refusal, and the hit
abbrev pub told_first : Result FirstHit Refusal → ℕ × (ℕ × ℕ × ℕ × ℕ)
told_first (Ok f) = (0, told_hit f.hit f.read)
told_first (Err r) = (number r, (0, 0, 0, 0))

-- ---- The state of a new search. Document 01: A new search starts with nothing taken, rung 0 and
-- no open low. Document 02, 2.7: The readings not yet filled are 0.

abbrev pub new_search : SearchState
new_search = record { taken = 0; node = 0; minima = 0; first = 0; places = replicate 256 0; values = replicate 256 (pos 0); recent = replicate 256 (pos 0) }
