-- A tree has as many places as its list, of values or of distances.
use Rattle.std.specs.Prelude.{◌≡◌, ◌∷◌, ◌+◌, ◌-◌, ◌≤◌}
use Rattle.lists.proofs.Prelude.{◌∙◌, ap, refl, ap₂, List, [], ℕ, zero, suc, ℤ, length, take, drop, length-append, length-take}
use Rattle.lists.proofs.Prelude.{length-drop, le_refl, arith}
use Rattle.cartesian.specs.Cartesian.{Tree, size, tree, cut_from, root_place, tree_of_within, tree_of}
use Rattle.cartesian.proofs.HasTree.{HasTree, empty, root, tree_has}
use Rattle.cartesian.proofs.TreeOf.{root_place_lt, tree_of-cons}
use Rattle.cartesian.proofs.Window.{length-cut_from}

size_has : {xs : List ℤ} {t : Tree} → HasTree xs t → size t ≡ length xs
unfolding size
size_has empty = refl
size_has (root l r x hl hr tl tr) = rw length-append (ap₂ (λ (a b : ℕ). a + suc b) (size_has tl) (size_has tr))

pub size-tree : (xs : List ℤ) → size (tree xs) ≡ length xs
size-tree xs = size_has (tree_has xs)

size_within : (n : ℕ) (ds : List ℕ) → length ds ≤ n → size (tree_of ds) ≡ length ds
unfolding size tree_of tree_of_within
size_within zero [] h = refl
size_within zero (d ∷ ds) h = absurd (let z : ⊥ = omega arith in z)
size_within (suc n) [] h = refl
size_within (suc n) (d ∷ ds) h =
    let p = root_place (d ∷ ds) in
    let q = root_place_lt d ds in
    let left : length (take p (d ∷ ds)) ≡ p = simp length-take (omega arith) in
    let right : length (cut_from 0 (drop (suc p) (d ∷ ds))) ≡ length ds - p = simp (length-cut_from, length-drop) (omega arith) in
    let a = size_within n (take p (d ∷ ds)) (omega arith) in
    let b = size_within n (cut_from 0 (drop (suc p) (d ∷ ds))) (omega arith) in
    ap size (tree_of-cons d ds) ∙ (omega arith)

pub size-tree_of : (ds : List ℕ) → size (tree_of ds) ≡ length ds
size-tree_of ds = size_within (length ds) ds (le_refl (length ds))
