-- The value at a place is one more than at the next lower place, and 0 where there is none: by
-- induction on the tree. A place left of a root has its next lower place there or at the root; a
-- root has none, as all after it lead to it or to a later place; a place right of a root has the
-- one that it has in the right part, as a distance to the root leads before it.
use Rattle.std.specs.Prelude.{◌≡◌, ◌∷◌, ◌+◌, ◌-◌, ◌≤◌, ◌<◌, ◌+ℤ◌}
use Rattle.lists.proofs.Prelude.{◌∙◌, ap, sym, refl, subst, true, List, [], map, ℕ, zero, suc, pos, length, get_or}
use Rattle.lists.proofs.Prelude.{length-map, get_or-map, get_or_at, add-one, dec_lt, arith}
use Rattle.lists.proofs.Tests.{T-true}
use Rattle.lists.proofs.Places.{Place, before, here, after, place, get_or_before, get_or_after}
use Rattle.cartesian.proofs.Sizes.{size-tree_of}
use Rattle.realization.proofs.LeftTurns.{length_turns}
use Rattle.cartesian.proofs.Injective.{Ok-at, tree_distances-Ok}
use Rattle.cartesian.proofs.Structure.{distance_left, distance_root, distance_right, or_else, tree_distances, length-tree_distances}
use Rattle.cartesian.specs.Cartesian.{Tree, leaf, node, size, tree_of}
use Rattle.realization.specs.Realization.{realizable, left_turns, least_realization}
use Rattle.realization.proofs.LeastRealization.{tree_distances-tree_of}
use Rattle.compute_realization.specs.NextLower.{Reaches, IsNext}

-- ---- the distances and the left-turn counts at a place of a tree

module _ (l r : Tree) where
  left_turns_lem : (m : ℕ) → m < size l → get_or (left_turns (node l r)) m 0 ≡ suc (get_or (left_turns l) m 0)
  unfolding left_turns
  left_turns_lem m h =
      get_or_before (map suc (left_turns l)) 0 (left_turns r) 0 (size l) m (length-map (left_turns l) suc ∙ length_turns l) h
      ∙ map_at (left_turns l) m (rw length_turns h)
    where
      map_at : (xs : List ℕ) (m : ℕ) → m < length xs → get_or (map suc xs) m 0 ≡ suc (get_or xs m 0)
      map_at [] m h = absurd (let z : ⊥ = omega arith in z)
      map_at (x ∷ xs) zero h = refl
      map_at (x ∷ xs) (suc m) h = map_at xs m (omega arith)

  root_turns : get_or (left_turns (node l r)) (size l) 0 ≡ 0
  unfolding left_turns
  root_turns = get_or_at (map suc (left_turns l)) 0 (left_turns r) 0 (size l) (length-map (left_turns l) suc ∙ length_turns l)

  right_turns : (m : ℕ) → get_or (left_turns (node l r)) (size l + suc m) 0 ≡ get_or (left_turns r) m 0
  unfolding left_turns
  right_turns m = get_or_after (map suc (left_turns l)) 0 (left_turns r) 0 (size l) m (length-map (left_turns l) suc ∙ length_turns l)

  -- ---- the next lower place in a part of the tree

  left-Reaches : (i m : ℕ) → m < size l → Reaches (tree_distances (node l r)) i m → Reaches (tree_distances l) i m
  left-Reaches i m h p = rw (distance_left l r m h) at p

  left-Reaches-back : (i m : ℕ) → m < size l → Reaches (tree_distances l) i m → Reaches (tree_distances (node l r)) i m
  left-Reaches-back i m h p = rw (distance_left l r m h) p

  root-Reaches : (i : ℕ) → Reaches (tree_distances (node l r)) i (size l) → ⊥
  root-Reaches i p = omega (arith, distance_root l r, p.0)

  right-Reaches : (k m : ℕ) → m < size r → Reaches (tree_distances (node l r)) (size l + suc k) (size l + suc m) → Reaches (tree_distances r) k m
  right-Reaches k m h p = go (get_or (tree_distances r) m 0) (rw (distance_right l r m h) at p)
    where
      go : (d : ℕ) → (0 < or_else d (suc m)) × (size l + suc k + or_else d (suc m) ≤ size l + suc m) → (0 < d) × (k + d ≤ m)
      go zero p = absurd (let z : ⊥ = omega (arith, p.1) in z)
      go (suc d) p = (omega arith, omega (arith, p.1))

  right-Reaches-back : (k m : ℕ) → m < size r → Reaches (tree_distances r) k m → Reaches (tree_distances (node l r)) (size l + suc k) (size l + suc m)
  right-Reaches-back k m h p = rw (distance_right l r m h) (go (get_or (tree_distances r) m 0) p)
    where
      go : (d : ℕ) → (0 < d) × (k + d ≤ m) → (0 < or_else d (suc m)) × (size l + suc k + or_else d (suc m) ≤ size l + suc m)
      go zero p = absurd (let z : ⊥ = omega (arith, p.0) in z)
      go (suc d) p = (omega arith, omega (arith, p.1))

  -- every place right of the root reaches it
  root_reached : (m : ℕ) → m < size r → Reaches (tree_distances (node l r)) (size l) (size l + suc m)
  root_reached m h = rw (distance_right l r m h) (go (get_or (tree_distances r) m 0) (Ok-at 0 (tree_distances r) m (tree_distances-Ok r)))
    where
      go : (d : ℕ) → d ≤ 0 + m → (0 < or_else d (suc m)) × (size l + or_else d (suc m) ≤ size l + suc m)
      go zero p = (omega arith, omega arith)
      go (suc d) p = (omega arith, omega arith)

length-node : (l r : Tree) → length (tree_distances (node l r)) ≡ size l + suc (size r)
unfolding size
length-node l r = length-tree_distances (node l r)

next_left : (l r : Tree) (i j : ℕ) → j ≤ size l → IsNext (tree_distances (node l r)) i j → IsNext (tree_distances l) i j
next_left l r i j h p = record {
  after = p.after;
  inside = rw length-tree_distances h;
  between = λ m a b. left-Reaches l r i m (omega arith) (p.between m a b);
  lower = λ a q. p.lower (rw length-node (omega arith)) (left-Reaches-back l r i j (rw length-tree_distances at a) q);
}

next_right : (l r : Tree) (k m : ℕ) → m ≤ size r → IsNext (tree_distances (node l r)) (size l + suc k) (size l + suc m) → IsNext (tree_distances r) k m
next_right l r k m h p = record {
  after = omega (arith, p.after);
  inside = rw length-tree_distances h;
  between = λ q a b. right-Reaches l r k q (omega arith) (p.between (size l + suc q) (omega arith) (omega arith));
  lower = λ a q. let b : m < size r = rw length-tree_distances at a in p.lower (rw length-node (omega arith)) (right-Reaches-back l r k m b q);
}

-- the next lower place of a place left of the root is not right of it
left_of : (l r : Tree) (i j : ℕ) → i < size l → IsNext (tree_distances (node l r)) i j → j ≤ size l
left_of l r i j h p = go (dec_lt (size l) j)
  where
    go : Dec (size l < j) → j ≤ size l
    go (yes a) = absurd (root-Reaches l r i (p.between (size l) h a))
    go (no f) = omega arith

-- ---- the value by the next lower place

-- what the value at i is, where j is the next lower place
abbrev pub Rises : List ℕ → ℕ → ℕ → ℕ → Type 0
Rises xs n i j = (j < n → get_or xs i 0 ≡ suc (get_or xs j 0)) × (n ≤ j → get_or xs i 0 ≡ 0)

Rises-left : (l r : Tree) (i j : ℕ) → i < size l → IsNext (tree_distances (node l r)) i j → Rises (left_turns l) (size l) i j
    → Rises (left_turns (node l r)) (size l + suc (size r)) i j
Rises-left l r i j a p ih =
    let b = left_of l r i j a p in
    (λ q. left_turns_lem l r i a ∙ ap suc (go b (dec_lt j (size l))), λ q. absurd (let z : ⊥ = omega arith in z))
  where
    go : j ≤ size l → Dec (j < size l) → get_or (left_turns l) i 0 ≡ get_or (left_turns (node l r)) j 0
    go b (yes c) = ih.0 c ∙ sym (left_turns_lem l r j c)
    go b (no f) = let e : j ≡ size l = omega arith in rw (e, root_turns l r) (ih.1 (omega arith))

Rises-root : (l r : Tree) (j : ℕ) → IsNext (tree_distances (node l r)) (size l) j → Rises (left_turns (node l r)) (size l + suc (size r)) (size l) j
Rises-root l r j p = (
  λ q.
      let k = j - suc (size l) in
      let e : size l + suc k ≡ j = omega (arith, p.after) in
      absurd (p.lower (rw length-node q) (subst (λ (m : ℕ). Reaches (tree_distances (node l r)) (size l) m) e (root_reached l r k (omega (arith, p.after))))),
  λ q. root_turns l r,
)

Rises-right : (l r : Tree) (k m : ℕ) → Rises (left_turns r) (size r) k m
    → Rises (left_turns (node l r)) (size l + suc (size r)) (size l + suc k) (size l + suc m)
Rises-right l r k m ih = (λ q. rw (right_turns l r k, right_turns l r m) (ih.0 (omega arith)), λ q. rw (right_turns l r k) (ih.1 (omega arith)))

pub turns_next : (t : Tree) (i j : ℕ) → i < size t → IsNext (tree_distances t) i j → Rises (left_turns t) (size t) i j
unfolding size
turns_next leaf i j h p = absurd (let z : ⊥ = omega arith in z)
turns_next (node l r) i j h p = go (place (size l) (size r) i h) p (turns_next l) (turns_next r)
  where
    go : {i : ℕ} → Place (size l) (size r) i → IsNext (tree_distances (node l r)) i j
        → ((i j : ℕ) → i < size l → IsNext (tree_distances l) i j → Rises (left_turns l) (size l) i j)
        → ((i j : ℕ) → i < size r → IsNext (tree_distances r) i j → Rises (left_turns r) (size r) i j)
        → Rises (left_turns (node l r)) (size l + suc (size r)) i j
    go {i} (before a) p hl hr = Rises-left l r i j a p (hl i j a (next_left l r i j (left_of l r i j a p) p))
    go here p hl hr = Rises-root l r j p
    go (after k a) p hl hr =
        let m = j - suc (size l) in
        let e : j ≡ size l + suc m = omega (arith, p.after) in
        let b : m ≤ size r = omega (arith, p.after, p.inside, length-node l r) in
        subst (λ (n : ℕ). Rises (left_turns (node l r)) (size l + suc (size r)) (size l + suc k) n) (sym e)
        (Rises-right l r k m (hr k m a (next_right l r k m b (subst (λ (n : ℕ). IsNext (tree_distances (node l r)) (size l + suc k) n) e p))))

-- ---- the same of the least realization

least-Rises : (ds : List ℕ) (i j : ℕ) → realizable ds ≡ true → i < length ds → IsNext ds i j → Rises (left_turns (tree_of ds)) (length ds) i j
least-Rises ds i j e h p =
    let d : tree_distances (tree_of ds) ≡ ds = tree_distances-tree_of ds (T-true (realizable ds) e) in
    let s = size-tree_of ds in
    subst (λ (n : ℕ). Rises (left_turns (tree_of ds)) n i j) s
    (turns_next (tree_of ds) i j (rw s h) (subst (λ (l : List ℕ). IsNext l i j) (sym d) p))

pub least_more : (ds : List ℕ) (i j : ℕ) → realizable ds ≡ true → i < length ds → IsNext ds i j → j < length ds
    → get_or (least_realization ds) i (pos 0) ≡ get_or (least_realization ds) j (pos 0) +ℤ pos 1
unfolding least_realization
least_more ds i j e h p q =
    let t = left_turns (tree_of ds) in
    rw (get_or-map pos t i 0, get_or-map pos t j 0, add-one) (ap pos ((least-Rises ds i j e h p).0 q))

pub least_zero : (ds : List ℕ) (i j : ℕ) → realizable ds ≡ true → i < length ds → IsNext ds i j → length ds ≤ j → get_or (least_realization ds) i (pos 0)
    ≡ pos 0
unfolding least_realization
least_zero ds i j e h p q = rw (get_or-map pos (left_turns (tree_of ds)) i 0) (ap pos ((least-Rises ds i j e h p).1 q))

-- ---- the search for the next lower place, from left to right: what it has passed reaches i

-- every place after i and before j reaches i
abbrev pub Passed : List ℕ → ℕ → ℕ → Type 0
Passed ds i j = (m : ℕ) → i < m → m < j → Reaches ds i m

pub Passed-none : (ds : List ℕ) (i : ℕ) → Passed ds i (i + 1)
Passed-none ds i m a b = absurd (let z : ⊥ = omega arith in z)

-- what lies between j and its next lower place reaches j, so i too
pub Passed-more : (ds : List ℕ) (i j k : ℕ) → i < j → Passed ds i j → Reaches ds i j → IsNext ds j k → Passed ds i k
Passed-more ds i j k h f r p m a b = go (dec_lt m j) (dec_lt j m)
  where
    go : Dec (m < j) → Dec (j < m) → Reaches ds i m
    go (yes l) d = f m a l
    go (no g) (yes l) = let q = p.between m l b in (q.0, omega (arith, q.1))
    go (no g) (no g') = let e : j ≡ m = omega arith in subst (λ (n : ℕ). Reaches ds i n) e r

-- the search ends at j: its distance is 0, or is more than j - i, or there is no place j
pub next_root : (ds : List ℕ) (i j d : ℕ) → i < j → j < length ds → Passed ds i j → d ≡ get_or ds j 0 → d ≡ 0 → IsNext ds i j
next_root ds i j d h k f e z = record { after = h; inside = omega arith; between = f; lower = λ a q. omega (arith, q.0) }

pub next_before : (ds : List ℕ) (i j d : ℕ) → i < j → j < length ds → Passed ds i j → d ≡ get_or ds j 0 → j - i < d → IsNext ds i j
next_before ds i j d h k f e z = record { after = h; inside = omega arith; between = f; lower = λ a q. omega (arith, q.1) }

pub next_none : (ds : List ℕ) (i j : ℕ) → i < j → j ≤ length ds → length ds ≤ j → Passed ds i j → IsNext ds i j
next_none ds i j h k m f = record { after = h; inside = k; between = f; lower = λ a q. omega arith }
