-- `realizable` decides exactly whether some values have a list of distances: values that have it
-- have the tree that the list stands for, and the left turns of that tree have it too.
use Rattle.std.specs.Prelude.{◌≡◌, ◌↔◌}
use Rattle.lists.proofs.Prelude.{◌∙◌, ap, sym, subst, List, ℕ, T}
use Rattle.lists.proofs.Same.{same_eq, eq_same}
use Rattle.cartesian.specs.Cartesian.{Tree, tree, distances, tree_of}
use Rattle.cartesian.proofs.HasTree.{tree_has}
use Rattle.cartesian.proofs.Structure.{tree_distances, distances_tree}
use Rattle.cartesian.proofs.Injective.{Ok, tree_distances-Ok}
use Rattle.cartesian.proofs.TreeOf.{tree_of-distances}
use Rattle.realization.specs.Realization.{Realizable, realizable, least_realization}
use Rattle.realization.proofs.LeftTurns.{turns_distances}

least_has : (ds : List ℕ) → Realizable ds → distances (least_realization ds) ≡ ds
unfolding Realizable least_realization
least_has ds (xs, e) =
    turns_distances (tree_of ds) ∙ ap tree_distances (ap tree_of (sym e) ∙ tree_of-distances xs) ∙ sym (distances_tree (tree_has xs)) ∙ e

-- THE DECISION: a list passes the test exactly if some values have it
pub realizable_iff : (ds : List ℕ) → T (realizable ds) ↔ Realizable ds
unfolding Realizable realizable
realizable_iff ds = (
  λ t. (least_realization ds, same_eq (distances (least_realization ds)) ds t),
  λ p. eq_same (distances (least_realization ds)) ds (least_has ds p),
)

pub realizable_tree : (ds : List ℕ) → T (realizable ds) → (t : Tree) × (tree_distances t ≡ ds)
unfolding Realizable
realizable_tree ds h =
    let p = (realizable_iff ds).0 h in
    (tree p.0, sym (distances_tree (tree_has p.0)) ∙ p.1)

-- each distance is at most its place
pub Realizable-Ok : (ds : List ℕ) → Realizable ds → Ok 0 ds
unfolding Realizable
Realizable-Ok ds r = subst (Ok 0) (sym (distances_tree (tree_has r.0)) ∙ r.1) (tree_distances-Ok (tree r.0))
