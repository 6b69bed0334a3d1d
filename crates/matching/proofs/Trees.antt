-- A window has the tree of a pattern exactly if it holds no gap and its tree is the pattern's.
use Rattle.std.specs.Prelude.{◌≡◌}
use Rattle.lists.proofs.Prelude.{refl, Bool, true, false, not, List, ℕ, ℤ, T}
use Rattle.lists.proofs.Tests.{and_split, and_join}
use Rattle.gaps.specs.Gaps.{holds_gap}
use Rattle.cartesian.specs.Cartesian.{tree, same_tree, tree_of}
use Rattle.cartesian.proofs.Matching.{same_tree_eq, eq_same_tree}
use Rattle.matching.specs.Matching.{has_tree}

-- a test that is not passed
pub not_passed : (b : Bool) → T (not b) → b ≡ false
not_passed true t = absurd t
not_passed false t = refl

pub passed_not : (b : Bool) → b ≡ false → T (not b)
passed_not b e = rw e tt

pub has_tree_whole : (window : List ℤ) (p : List ℕ) → T (has_tree window p) → holds_gap window ≡ false
unfolding has_tree
has_tree_whole window p t = not_passed (holds_gap window) (and_split (not (holds_gap window)) (same_tree (tree window) (tree_of p)) t).0

pub has_tree-tree : (window : List ℤ) (p : List ℕ) → T (has_tree window p) → tree window ≡ tree_of p
unfolding has_tree
has_tree-tree window p t = same_tree_eq (tree window) (tree_of p) (and_split (not (holds_gap window)) (same_tree (tree window) (tree_of p)) t).1

pub tree-has_tree : (window : List ℤ) (p : List ℕ) → holds_gap window ≡ false → tree window ≡ tree_of p → T (has_tree window p)
unfolding has_tree
tree-has_tree window p e q =
    and_join (not (holds_gap window)) (same_tree (tree window) (tree_of p)) (passed_not (holds_gap window) e) (eq_same_tree (tree window) (tree_of p) q)
