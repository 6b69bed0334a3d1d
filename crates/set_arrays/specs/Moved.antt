-- A set array as a pattern is added to it in place.
use Rattle.std.specs.Prelude.{◌++◌, ◌+◌}
use Rattle.std.specs.List.{copy_within}
use Rattle.lists.specs.Prelude.{List, ℕ, length, drop, set}
use Rattle.pattern_set.specs.PatternSet.{PatternSet, set_words}

-- a set of k patterns and n distances is to hold one pattern of m distances more: room for them,
-- with the counts and the new offset
abbrev pub with_room : ℕ → ℕ → ℕ → List ℕ → List ℕ
with_room k n m ws = set (set (set (copy_within ws (3 + k) (3 + k + n) (3 + k + 1)) (3 + k) (n + m)) 0 (k + 1)) 1 (n + m)

-- the array with the words of the set at its front
abbrev pub with_set : PatternSet → List ℕ → List ℕ
with_set ps ws = set_words ps ++ drop (length (set_words ps)) ws
