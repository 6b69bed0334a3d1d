-- THE MATCHING LAW: two lists have equal trees exactly if their distances are equal. And that
-- `same_tree` decides equality.
use Rattle.std.specs.Prelude.{◌≡◌, ◌↔◌}
use Rattle.lists.proofs.Prelude.{sym, refl, subst, ap₂, List, ℤ, T}
use Rattle.lists.proofs.Tests.{and_split, and_join}
use Rattle.cartesian.specs.Cartesian.{Tree, leaf, node, tree, same_tree, distances}
use Rattle.cartesian.proofs.HasTree.{HasTree, tree_has}
use Rattle.cartesian.proofs.Structure.{same_tree_lem}
use Rattle.cartesian.proofs.Injective.{same_distances}

pub trees_iff_distances : (xs ys : List ℤ) → (tree xs ≡ tree ys) ↔ (distances xs ≡ distances ys)
trees_iff_distances xs ys = (
  λ e. same_tree_lem (tree_has xs) (subst (λ (t : Tree). HasTree ys t) (sym e) (tree_has ys)),
  λ e. same_distances (tree_has xs) (tree_has ys) e,
)

pub same_tree_eq : (t u : Tree) → T (same_tree t u) → t ≡ u
unfolding same_tree
same_tree_eq leaf leaf h = refl
same_tree_eq leaf (node m s) h = absurd h
same_tree_eq (node l r) leaf h = absurd h
same_tree_eq (node l r) (node m s) h =
    let p = and_split (same_tree l m) (same_tree r s) h in
    ap₂ node (same_tree_eq l m p.0) (same_tree_eq r s p.1)

same_tree_refl : (t : Tree) → T (same_tree t t)
unfolding same_tree
same_tree_refl leaf = tt
same_tree_refl (node l r) = and_join (same_tree l l) (same_tree r r) (same_tree_refl l) (same_tree_refl r)

pub eq_same_tree : (t u : Tree) → t ≡ u → T (same_tree t u)
eq_same_tree t u e = subst (λ (v : Tree). T (same_tree t v)) e (same_tree_refl t)
