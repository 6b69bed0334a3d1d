-- Links do not cross: where place k of a tree leads to a place before it, each place between the
-- two leads to a place that is not before that one.
use Rattle.std.specs.Prelude.{◌≡◌, ◌⊎◌, ◌+◌, ◌-◌, ◌≤◌, ◌<◌}
use Rattle.lists.proofs.Prelude.{refl, inl, inr, ℕ, zero, suc, get_or, arith}
use Rattle.lists.proofs.Places.{Place, before, here, after, place}
use Rattle.cartesian.specs.Cartesian.{Tree, leaf, node, size}
use Rattle.cartesian.proofs.Structure.{or_else, tree_distances}
use Rattle.global_parents.proofs.Parts.{distance_left, distance_root, distance_right}

-- the distance at a place of a tree
abbrev pub distance : Tree → ℕ → ℕ
distance t k = get_or (tree_distances t) k 0

-- a distance on the right of a root is the distance to the root where it is 0 in the right subtree,
-- and else the one there
abbrev pub RightDistance : Tree → Tree → ℕ → Type 0
RightDistance l r k =
    ((distance r k ≡ 0) × (distance (node l r) (size l + suc k) ≡ suc k))
    ⊎ ((0 < distance r k) × (distance (node l r) (size l + suc k) ≡ distance r k))

pub right_distance : (l r : Tree) (k : ℕ) → k < size r → RightDistance l r k
right_distance l r k h = go (distance r k) (distance_right l r k h)
  where
    go : (d : ℕ) → distance (node l r) (size l + suc k) ≡ or_else d (suc k)
        → ((d ≡ 0) × (distance (node l r) (size l + suc k) ≡ suc k)) ⊎ ((0 < d) × (distance (node l r) (size l + suc k) ≡ d))
    go zero e = inl (refl, e)
    go (suc d) e = inr (omega arith, e)

-- a distance on the right of a root does not lead past the root
right_le : (l r : Tree) (k : ℕ) → distance r k ≤ k → RightDistance l r k → distance (node l r) (size l + suc k) ≤ suc k
right_le l r k h (inl p) = omega (arith, p.1)
right_le l r k h (inr p) = omega (arith, p.1)

pub right_positive : (l r : Tree) (k : ℕ) → RightDistance l r k → 0 < distance (node l r) (size l + suc k)
right_positive l r k (inl p) = omega (arith, p.1)
right_positive l r k (inr p) = omega (arith, p.0, p.1)

-- a distance is at most its place
pub distance-le : (t : Tree) (k : ℕ) → k < size t → distance t k ≤ k
unfolding size
distance-le leaf k h = absurd (let z : ⊥ = omega arith in z)
distance-le (node l r) k h = go k (place (size l) (size r) k h) (distance-le l) (distance-le r)
  where
    go : (k : ℕ) → Place (size l) (size r) k → ((i : ℕ) → i < size l → distance l i ≤ i) → ((i : ℕ) → i < size r → distance r i ≤ i) → distance (node l r) k ≤ k
    go k (before h) hl hr = rw (distance_left l r k h) (hl k h)
    go _ here hl hr = rw (distance_root l r) (omega arith)
    go _ (after k h) hl hr = omega (arith, right_le l r k (hr k h) (right_distance l r k h))

-- place i leads to a place, and to none before the one that k leads to
abbrev pub Nested : Tree → ℕ → ℕ → Type 0
Nested t k i = (0 < distance t i) × (k + distance t i ≤ i + distance t k)

Nested-right : (l r : Tree) (k i : ℕ) → i < size r → RightDistance l r k → RightDistance l r i
    → size l + suc k < size l + suc i + distance (node l r) (size l + suc k) → (k < i + distance r k → Nested r k i)
    → Nested (node l r) (size l + suc k) (size l + suc i)
Nested-right l r k i h (inl a) b q f =
    let d = right_le l r i (distance-le r i h) b in
    (right_positive l r i b, omega (arith, a.1))
Nested-right l r k i h (inr a) (inl b) q f =
    let n = f (omega (arith, a.1)) in
    absurd (let z : ⊥ = omega (arith, n.0, b.0) in z)
Nested-right l r k i h (inr a) (inr b) q f =
    let n = f (omega (arith, a.1)) in
    (omega (arith, b.0, b.1), omega (arith, a.1, b.1, n.1))

pub nested : (t : Tree) (k i : ℕ) → k < size t → i < k → k < i + distance t k → Nested t k i
unfolding size
nested leaf k i h p q = absurd (let z : ⊥ = omega arith in z)
nested (node l r) k i h p q = go k (place (size l) (size r) k h) p q (nested l) (nested r)
  where
    go : (k : ℕ) → Place (size l) (size r) k → i < k → k < i + distance (node l r) k
        → ((k i : ℕ) → k < size l → i < k → k < i + distance l k → Nested l k i)
        → ((k i : ℕ) → k < size r → i < k → k < i + distance r k → Nested r k i)
        → Nested (node l r) k i
    go k (before h) p q hl hr =
        let h' : i < size l = omega arith in
        rw (distance_left l r k h, distance_left l r i h') (hl k i h p (rw (distance_left l r k h) at q))
    go _ here p q hl hr = absurd (let z : ⊥ = omega (arith, distance_root l r) in z)
    go _ (after k h) p q hl hr =
        let j = i - suc (size l) in
        let b = right_le l r k (distance-le r k h) (right_distance l r k h) in
        let e : i ≡ size l + suc j = omega arith in
        let h' : j < size r = omega arith in
        rw e (Nested-right l r k j h' (right_distance l r k h) (right_distance l r j h') (rw e at q) (hr k j h (omega arith)))
