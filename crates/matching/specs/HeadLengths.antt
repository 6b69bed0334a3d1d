-- The suffixes of a text that have the tree of some head.
use Rattle.std.specs.Prelude.{◌∷◌}
use Rattle.lists.specs.Prelude.{cond, List, [], ℕ, zero, suc, ℤ, last_of}
use Rattle.pattern_set.specs.PatternSet.{PatternSet}
use Rattle.matching.specs.Matching.{head_tree}

-- the lengths, at most n, of the suffixes of a text that have the tree of some head, longest first;
-- the empty one has
unfoldable pub head_lengths : PatternSet → List ℤ → ℕ → List ℕ
head_lengths ps text zero = 0 ∷ []
head_lengths ps text (suc n) = cond (head_tree ps (last_of (suc n) text)) (suc n ∷ head_lengths ps text n) (head_lengths ps text n)
