-- What is known of a set array once it is checked for a search.
use Rattle.std.specs.Prelude.{◌≡◌, Result}
use Rattle.lists.specs.Prelude.{List, flatten, ℕ, T, length}
use Rattle.answers.specs.declared.{Refusal.{Refusal}, SetSize.{SetSize}}
use Rattle.pattern_set.specs.PatternSet.{IsSet, patterns_of, may_search}
use Rattle.entries.specs.Checks.{Checks}
use Rattle.entries.specs.Entries.{set_conditions}

-- it holds a set that may be searched, of so many patterns and distances; or the first condition
-- that is met has the number told
abbrev pub IsSearchable : List ℕ → Result SetSize Refusal → Type 0
IsSearchable ws result =
    Checks (set_conditions ws)
    (λ s. IsSet ws × T (may_search (patterns_of ws)) × (s.patterns ≡ length (patterns_of ws)) × (s.distances ≡ length (flatten (patterns_of ws)))) result
