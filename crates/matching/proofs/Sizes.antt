-- A window with the tree of a pattern is as long as the pattern.
use Rattle.std.specs.Prelude.{◌≡◌}
use Rattle.lists.proofs.Prelude.{◌∙◌, ap, sym, List, [], ℕ, ℤ, T, length, get_or}
use Rattle.cartesian.proofs.Sizes.{size-tree, size-tree_of}
use Rattle.cartesian.specs.Cartesian.{size}
use Rattle.pattern_set.specs.PatternSet.{PatternSet}
use Rattle.matching.specs.Matching.{has_tree}
use Rattle.matching.proofs.Trees.{has_tree-tree}

-- the length of pattern j
abbrev pub pattern_length : PatternSet → ℕ → ℕ
pattern_length ps j = length (get_or ps j [])

pub has_tree-length : (window : List ℤ) (p : List ℕ) → T (has_tree window p) → length window ≡ length p
has_tree-length window p t = sym (size-tree window) ∙ ap size (has_tree-tree window p t) ∙ size-tree_of p
