-- What is told of an answer, against the one that is expected, or against the number of a refusal.
-- The counts are compared where the entry does not refuse.
use Rattle.std.specs.Prelude.{Result, Ok, Err}
use Rattle.std.specs.Option.{option_or}
use Rattle.lists.specs.Prelude.{ℕ, pos, Option, None, Some}
use Rattle.answers.specs.Told.{number, told_end}
use Rattle.answers.specs.declared.{Refusal.{Refusal}, SetSize.{SetSize}, AutomatonSize.{AutomatonSize}, Filtered.{Filtered}}
use Rattle.answers.specs.declared.{Counts.{Counts}, Progress.{Progress}, Hit.{Hit}, FirstHit.{FirstHit}}
use Rattle.test_differences.specs.declared.difference.Part.{Part}
use Rattle.test_differences.specs.declared.difference.Difference.{Difference}
use Rattle.test_differences.specs.Difference.{compared}

-- a number that is told
abbrev pub compared_number : Part → ℕ → ℕ → Option Difference
compared_number part expected got = compared part 0 (pos expected) (pos got)

-- the words written
abbrev pub compared_written : ℕ → ℕ → Option Difference
compared_written want got = compared_number Part.Written want got

-- the code of a list
abbrev pub compared_code : ℕ → ℕ → Option Difference
compared_code want got = compared_number Part.Code want got

-- the words written, or none where the list is the last of its catalogue: 1 where it is
abbrev pub compared_list : Option ℕ → Option ℕ → Option Difference
compared_list (Some n) (Some m) = compared_number Part.Written n m
compared_list None None = None
compared_list (Some n) None = compared_number Part.Last 0 1
compared_list None (Some m) = compared_number Part.Last 1 0

-- patterns and distances
abbrev pub compared_set : SetSize → SetSize → Option Difference
compared_set want got =
    option_or (compared_number Part.Patterns want.patterns got.patterns) (compared_number Part.Distances want.distances got.distances)

-- nodes and words
abbrev pub compared_automaton : AutomatonSize → AutomatonSize → Option Difference
compared_automaton want got =
    option_or (compared_number Part.Nodes want.nodes got.nodes) (compared_number Part.AutomatonWords want.words got.words)

-- hits and candidates
abbrev pub compared_filtered : Filtered → Filtered → Option Difference
compared_filtered want got =
    option_or (compared_number Part.Hits want.hits got.hits) (compared_number Part.Candidates want.candidates got.candidates)

-- values taken, hits and attempts
abbrev pub compared_counts : Counts → Counts → Option Difference
compared_counts want got =
    option_or
    (option_or (compared_number Part.Taken want.taken got.taken) (compared_number Part.Hits want.hits got.hits))
    (compared_number Part.Attempts want.attempts got.attempts)

-- how a call ended, 1 where no value is left, and its counts
abbrev pub compared_progress : Progress → Progress → Option Difference
compared_progress want got =
    option_or (compared_number Part.Ended (told_end want.end) (told_end got.end)) (compared_counts want.counts got.counts)

-- whether there is a hit, 1 where there is, and last place, pattern number and values read
abbrev pub compared_hit : Option Hit → Option Hit → ℕ → ℕ → Option Difference
compared_hit (Some w) (Some g) read got =
    option_or
    (option_or (compared_number Part.LastPlace w.last g.last) (compared_number Part.Pattern w.pattern g.pattern))
    (compared_number Part.Read read got)
compared_hit None None read got = compared_number Part.Read read got
compared_hit (Some w) None read got = compared_number Part.Found 1 0
compared_hit None (Some g) read got = compared_number Part.Found 0 1

abbrev pub compared_first : FirstHit → FirstHit → Option Difference
compared_first want got = compared_hit want.hit got.hit want.read got.read

-- the number of a refusal; 0 where there is none
abbrev pub number_of : {A : Type 0} → Result A Refusal → ℕ
number_of (Ok x) = 0
number_of (Err r) = number r

-- an answer, by what differs in the counts
abbrev pub compared_answer : {A : Type 0} → (A → A → Option Difference) → Result A ℕ → Result A Refusal → Option Difference
compared_answer counts (Ok want) (Ok got) = counts want got
compared_answer counts (Ok want) (Err r) = compared_number Part.Refusal 0 (number r)
compared_answer counts (Err n) (Ok got) = compared_number Part.Refusal n 0
compared_answer counts (Err n) (Err r) = compared_number Part.Refusal n (number r)
