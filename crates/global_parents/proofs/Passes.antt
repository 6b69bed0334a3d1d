-- THE LAW OF THE CHECK: the values of a window pass the comparisons with their global parents
-- exactly if the window has the tree that the distances stand for. That a left child is above its
-- parent and a right child not below it makes, by transitivity, all before a root above it and all
-- after it not below it.
use Rattle.std.specs.Prelude.{◌≡◌, ◌↔◌, ◌∷◌, ◌++◌, ◌+◌, ◌≤◌, ◌<◌, ◌≤ℤ◌, ◌<ℤ◌}
use Rattle.lists.proofs.Prelude.{◌∙◌, ap, sym, refl, subst, Bool, List, [], ℕ, suc, ℤ, pos, ≤ℤ_refl}
use Rattle.lists.proofs.Prelude.{<ℤ-≤ℤ_trans, T, length, get_or, length-append, get_or_at, le_refl, arith}
use Rattle.lists.proofs.Order.{≤ℤ-trans}
use Rattle.lists.proofs.Places.{Place, before, here, after, place, get_or_before, get_or_after, split_length}
use Rattle.lists.proofs.Members.{all_below, below_all}
use Rattle.cartesian.specs.Cartesian.{Tree, leaf, node, size, tree, distances}
use Rattle.cartesian.proofs.HasTree.{Over, HasTree, empty, root, tree_has, Over-at, Over-get}
use Rattle.cartesian.proofs.Seek.{length-distances}
use Rattle.cartesian.proofs.Structure.{tree_distances, distances_tree, length-tree_distances}
use Rattle.cartesian.proofs.Injective.{tree_distances_injective}
use Rattle.global_parents.specs.GlobalParents.{global_parent}
use Rattle.global_parents.specs.Passes.{passes_at, passes}
use Rattle.global_parents.specs.Parents.{parents_from, parents}
use Rattle.global_parents.proofs.Parts.{parent_left, parent_root, parent_right}
use Rattle.global_parents.proofs.Parents.{global_parent_tree}
use Rattle.global_parents.proofs.Comparison.{value, passes_not_above, passes_below, below_passes, not_above_passes}

-- every place of a tree whose first place is a and whose root has the parent g passes
abbrev Passing : List ℤ → ℕ → ℕ → Tree → Type 0
Passing ws a g t = (k : ℕ) → k < size t → T (passes_at ws (get_or (parents_from a g t) k 0) (a + k))

Passing-left : (ws : List ℤ) (a g : ℕ) (l r : Tree) → Passing ws a g (node l r) → Passing ws a (a + size l) l
unfolding size
Passing-left ws a g l r p k h = rw (parent_left a g l r k h) at (p k (omega arith))

Passing-root : (ws : List ℤ) (a g : ℕ) (l r : Tree) → Passing ws a g (node l r) → T (passes_at ws g (a + size l))
unfolding size
Passing-root ws a g l r p = rw (parent_root a g l r) at (p (size l) (omega arith))

Passing-right : (ws : List ℤ) (a g : ℕ) (l r : Tree) → Passing ws a g (node l r) → Passing ws (suc (a + size l)) (a + size l) r
unfolding size
Passing-right ws a g l r p k h =
    let e : suc (a + size l) + k ≡ a + (size l + suc k) = omega arith in
    rw e (rw (parent_right a g l r k) at (p (size l + suc k) (omega arith)))

Passing-node : (ws : List ℤ) (a g : ℕ) (l r : Tree) → Passing ws a (a + size l) l → T (passes_at ws g (a + size l))
    → Passing ws (suc (a + size l)) (a + size l) r → Passing ws a g (node l r)
unfolding size
Passing-node ws a g l r pl p pr k h = go k (place (size l) (size r) k h)
  where
    go : (k : ℕ) → Place (size l) (size r) k → T (passes_at ws (get_or (parents_from a g (node l r)) k 0) (a + k))
    go k (before h) = rw (parent_left a g l r k h) (pl k h)
    go _ here = rw (parent_root a g l r) p
    go _ (after k h) =
        let e : a + (size l + suc k) ≡ suc (a + size l) + k = omega arith in
        rw (parent_right a g l r k, e) (pr k h)

-- the root of the tree passes
abbrev RootPasses : List ℤ → ℕ → ℕ → Tree → Type 0
RootPasses ws a g leaf = Unit {0}
RootPasses ws a g (node l r) = T (passes_at ws g (a + size l))

root_among : (ws : List ℤ) (a g : ℕ) (t : Tree) → ((k : ℕ) → k < size t → T (passes_at ws g (a + k))) → RootPasses ws a g t
unfolding size
root_among ws a g leaf f = tt
root_among ws a g (node l r) f = f (size l) (omega arith)

-- no value of a node is below its root, if none on its left or right is
root_lowest : (ws : List ℤ) (a n m : ℕ) → ((k : ℕ) → k < n → value ws (a + n) ≤ℤ value ws (a + k))
    → ((k : ℕ) → k < m → value ws (a + n) ≤ℤ value ws (suc (a + n) + k)) → (k : ℕ) → k < n + suc m → value ws (a + n) ≤ℤ value ws (a + k)
root_lowest ws a n m hl hr k h = go k (place n m k h)
  where
    go : (k : ℕ) → Place n m k → value ws (a + n) ≤ℤ value ws (a + k)
    go k (before h) = hl k h
    go _ here = ≤ℤ_refl (value ws (a + n))
    go _ (after k h) =
        let e : a + (n + suc k) ≡ suc (a + n) + k = omega arith in
        rw e (hr k h)

-- by transitivity no value of the tree is below the parent of its root
Passing-not_below : (ws : List ℤ) (a g : ℕ) (t : Tree) → Passing ws a g t → (k : ℕ) → k < size t → value ws g ≤ℤ value ws (a + k)
unfolding size
Passing-not_below ws a g leaf p k h = absurd (let z : ⊥ = omega arith in z)
Passing-not_below ws a g (node l r) p k h =
    ≤ℤ-trans (passes_not_above ws g (a + size l) (Passing-root ws a g l r p))
    (root_lowest ws a (size l) (size r) (Passing-not_below ws a (a + size l) l (Passing-left ws a g l r p))
    (Passing-not_below ws (suc (a + size l)) (a + size l) r (Passing-right ws a g l r p)) k h)

-- and all are above it where the parent is to the right of them
Passing-above : (ws : List ℤ) (a g : ℕ) (t : Tree) → Passing ws a g t → a + size t ≤ g → (k : ℕ) → k < size t → value ws g <ℤ value ws (a + k)
unfolding size
Passing-above ws a g leaf p q k h = absurd (let z : ⊥ = omega arith in z)
Passing-above ws a g (node l r) p q k h =
    <ℤ-≤ℤ_trans (passes_below ws g (a + size l) (omega arith) (Passing-root ws a g l r p))
    (root_lowest ws a (size l) (size r) (Passing-not_below ws a (a + size l) l (Passing-left ws a g l r p))
    (Passing-not_below ws (suc (a + size l)) (a + size l) r (Passing-right ws a g l r p)) k h)

-- us stand in ws from place a on
abbrev Reads : List ℤ → ℕ → List ℤ → Type 0
Reads ws a us = (k : ℕ) → k < length us → value ws (a + k) ≡ value us k

Reads-left : (ws : List ℤ) (a : ℕ) (l r : List ℤ) (x : ℤ) → Reads ws a (l ++ (x ∷ r)) → Reads ws a l
Reads-left ws a l r x f k h = f k (rw length-append (omega arith)) ∙ get_or_before l x r (pos 0) (length l) k refl h

Reads-root : (ws : List ℤ) (a n : ℕ) (l r : List ℤ) (x : ℤ) → length l ≡ n → Reads ws a (l ++ (x ∷ r)) → value ws (a + n) ≡ x
Reads-root ws a n l r x e f = f n (rw length-append (omega arith)) ∙ get_or_at l x r (pos 0) n e

Reads-right : (ws : List ℤ) (a n : ℕ) (l r : List ℤ) (x : ℤ) → length l ≡ n → Reads ws a (l ++ (x ∷ r)) → Reads ws (suc (a + n)) r
Reads-right ws a n l r x e f k h =
    let q : suc (a + n) + k ≡ a + (n + suc k) = omega arith in
    rw q (f (n + suc k) (rw length-append (omega arith)) ∙ get_or_after l x r (pos 0) n k e)

-- ---- values that pass have the tree

Over-left : (ws : List ℤ) (a g : ℕ) (l : List ℤ) (x : ℤ) (t : Tree) → length l ≡ size t → Reads ws a l → value ws g ≡ x → a + size t ≤ g
    → Passing ws a g t → Over (λ y. x <ℤ y) l
Over-left ws a g l x t e f q h p = Over-at (λ y. x <ℤ y) l (λ j k. rw (q, f j k) at (Passing-above ws a g t p h j (omega arith)))

Over-right : (ws : List ℤ) (a g : ℕ) (r : List ℤ) (x : ℤ) (t : Tree) → length r ≡ size t → Reads ws a r → value ws g ≡ x → Passing ws a g t
    → Over (λ y. x ≤ℤ y) r
Over-right ws a g r x t e f q p = Over-at (λ y. x ≤ℤ y) r (λ j k. rw (q, f j k) at (Passing-not_below ws a g t p j (omega arith)))

Passing-has : (ws : List ℤ) (a g : ℕ) (us : List ℤ) (t : Tree) → length us ≡ size t → Reads ws a us → Passing ws a g t → HasTree us t
unfolding size
Passing-has ws a g [] leaf e f p = empty
Passing-has ws a g (u ∷ us) leaf e f p = absurd (let z : ⊥ = omega arith in z)
Passing-has ws a g us (node tl tr) e f p =
    let s = split_length (pos 0) us (size tl) (size tr) e in
    let l = s.0 in
    let x = s.1 in
    let r = s.2 in
    let reads : Reads ws a (l ++ (x ∷ r)) = rw s.5 at f in
    let fl = Reads-left ws a l r x reads in
    let fr = Reads-right ws a (size tl) l r x s.3 reads in
    let q = Reads-root ws a (size tl) l r x s.3 reads in
    let pl = Passing-left ws a g tl tr p in
    let pr = Passing-right ws a g tl tr p in
    rw s.5
    (root l r x (Over-left ws a (a + size tl) l x tl s.3 fl q (le_refl (a + size tl)) pl)
    (Over-right ws (suc (a + size tl)) (a + size tl) r x tr s.4 fr q pr)
    (Passing-has ws a (a + size tl) l tl s.3 fl pl) (Passing-has ws (suc (a + size tl)) (a + size tl) r tr s.4 fr pr))

-- ---- values that have the tree pass

length_has : {us : List ℤ} {t : Tree} → HasTree us t → length us ≡ size t
length_has {us} {t} h = sym (length-distances us) ∙ ap length (distances_tree h) ∙ length-tree_distances t

-- all values of a node pass the comparison with its root
root_passes : (ws : List ℤ) (a n m : ℕ) (l r : List ℤ) (x : ℤ) → length l ≡ n → length r ≡ m → Reads ws a (l ++ (x ∷ r)) → Over (λ y. x <ℤ y) l
    → Over (λ y. x ≤ℤ y) r
    → (k : ℕ) → Place n m k → T (passes_at ws (a + n) (a + k))
root_passes ws a n m l r x e d f hl hr k (before h) =
    let q : value ws (a + n) ≡ x = Reads-root ws a n l r x e f in
    let h' : k < length l = omega arith in
    below_passes ws (a + n) (a + k) (rw (q, Reads-left ws a l r x f k h') (Over-get hl k h'))
root_passes ws a n m l r x e d f hl hr _ here = not_above_passes ws (a + n) (a + n) (le_refl (a + n)) (≤ℤ_refl (value ws (a + n)))
root_passes ws a n m l r x e d f hl hr _ (after k h) =
    let q : value ws (a + n) ≡ x = Reads-root ws a n l r x e f in
    let h' : k < length r = omega arith in
    let i : a + (n + suc k) ≡ suc (a + n) + k = omega arith in
    not_above_passes ws (a + n) (a + (n + suc k)) (omega arith) (rw (i, q, Reads-right ws a n l r x e f k h') (Over-get hr k h'))

has-Passing : (ws : List ℤ) {us : List ℤ} {t : Tree} → HasTree us t → (a g : ℕ) → Reads ws a us → RootPasses ws a g t → Passing ws a g t
unfolding size
has-Passing ws empty a g f p k h = absurd (let z : ⊥ = omega arith in z)
has-Passing ws (root l r x {tl} {tr} hl hr tl' tr') a g f p k h =
    let n = size tl in
    let e = length_has tl' in
    let against = root_passes ws a n (size tr) l r x e (length_has tr') f hl hr in
    Passing-node ws a g tl tr
    (λ i j. has-Passing ws tl' a (a + n) (Reads-left ws a l r x f) (root_among ws a (a + n) tl (λ k h. against k (before h))) i j)
    p
    (λ i j. has-Passing ws tr' (suc (a + n)) (a + n) (Reads-right ws a n l r x e f)
    (root_among ws (suc (a + n)) (a + n) tr
    (λ k h. let i : suc (a + n) + k ≡ a + (n + suc k) = omega arith in rw i (against (n + suc k) (after k h)))) i j)
    k h

-- ---- the check

-- every value passes the comparison with its parent in the tree
abbrev PassesParents : List ℤ → Tree → Type 0
PassesParents ws t = (k : ℕ) → k < size t → T (passes_at ws (get_or (parents t) k 0) k)

Reads-self : (ws : List ℤ) → Reads ws 0 ws
Reads-self ws k h = let e : 0 + k ≡ k = omega arith in rw e refl

has_passes : (ws : List ℤ) (t : Tree) → HasTree ws t → PassesParents ws t
unfolding parents size
has_passes ws leaf h k i = absurd (let z : ⊥ = omega arith in z)
has_passes ws (node l r) h k i =
    let e : 0 + size l ≡ size l = omega arith in
    let d : 0 + k ≡ k = omega arith in
    rw d at (has-Passing ws h 0 (size l) (Reads-self ws) (rw e (not_above_passes ws (size l) (size l) (le_refl (size l)) (≤ℤ_refl (value ws (size l))))) k i)

passes_has : (ws : List ℤ) (t : Tree) → length ws ≡ size t → PassesParents ws t → HasTree ws t
unfolding parents size
passes_has [] leaf e f = empty
passes_has (w ∷ ws) leaf e f = absurd (let z : ⊥ = omega arith in z)
passes_has ws (node l r) e f =
    Passing-has ws 0 (size l) ws (node l r) e (Reads-self ws) (λ k h. let d : 0 + k ≡ k = omega arith in rw d (f k h))

passes_parents : (t : Tree) (ws : List ℤ) → T (passes (tree_distances t) ws) ↔ PassesParents ws t
unfolding passes
passes_parents t ws =
    let test : ℕ → Bool = λ i. passes_at ws (global_parent (tree_distances t) i) i in
    let n = length (tree_distances t) in (
      λ p k h. rw (global_parent_tree t k h) at (all_below test n p k (rw length-tree_distances h)),
      λ f. below_all test n (λ k h. let i : k < size t = rw length-tree_distances at h in rw (global_parent_tree t k i) (f k i)),
    )

-- THE LAW
pub passes_iff : (xs ws : List ℤ) → length ws ≡ length xs → T (passes (distances xs) ws) ↔ (tree ws ≡ tree xs)
passes_iff xs ws h =
    let t = tree xs in
    let d : distances xs ≡ tree_distances t = distances_tree (tree_has xs) in
    let e : length ws ≡ size t = h ∙ length_has (tree_has xs) in
    rw d (
      λ p. tree_distances_injective (tree ws) t (sym (distances_tree (tree_has ws)) ∙ distances_tree (passes_has ws t e ((passes_parents t ws).0 p))),
      λ q. (passes_parents t ws).1 (has_passes ws t (subst (λ (u : Tree). HasTree ws u) q (tree_has ws))),
    )

-- the root is its own parent
tree_root : (t : Tree) → 0 < size t → (i : ℕ) × (i < size t) × (global_parent (tree_distances t) i ≡ i)
unfolding parents size
tree_root leaf h = absurd (let z : ⊥ = omega arith in z)
tree_root (node l r) h =
    let k : size l < size (node l r) = omega arith in
    (size l, k, global_parent_tree (node l r) (size l) k ∙ parent_root 0 (size l) l r)

pub root_parent : (xs : List ℤ) → 0 < length xs → (i : ℕ) × (i < length xs) × (global_parent (distances xs) i ≡ i)
root_parent xs h =
    let d : distances xs ≡ tree_distances (tree xs) = distances_tree (tree_has xs) in
    let e = length_has (tree_has xs) in
    let r = tree_root (tree xs) (omega (arith, e)) in
    (r.0, omega (arith, e, r.1), ap (λ (l : List ℕ). global_parent l r.0) d ∙ r.2)
