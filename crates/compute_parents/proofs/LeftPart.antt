-- The prefix child of a place is the root of its left part, and a walk along the links finds it:
-- it is the last place of the left part that leads to no place of it.
use Rattle.std.specs.Prelude.{◌≡◌, ◌⊎◌, ◌+◌, ◌-◌, ◌≤◌, ◌<◌}
use Rattle.lists.proofs.Prelude.{◌∙◌, ap, refl, inl, inr, Option, None, Some, ℕ, zero, suc, get_or, arith}
use Rattle.lists.proofs.Places.{Place, before, here, after, place}
use Rattle.cartesian.specs.Cartesian.{Tree, leaf, node, size}
use Rattle.global_parents.specs.GlobalParents.{root_of}
use Rattle.global_parents.proofs.Prefix.{left_children}
use Rattle.global_parents.proofs.Parts.{child_left, child_root, child_right, distance_left, distance_root}
use Rattle.compute_parents.specs.Steps.{after_link}
use Rattle.compute_parents.proofs.Links.{distance, RightDistance, right_distance, right_positive, distance-le}

-- c is the last place from b to before j that leads to no place from b on
pub record RootOfPart (d : ℕ → ℕ) (b j c : ℕ) : Type 0 where
  pub first : b ≤ c
  pub last : c < j
  pub top : (d c ≡ 0) ⊎ (c < b + d c)
  pub inner : (i : ℕ) → c < i → i < j → (0 < d i) × (b + d i ≤ i)

-- the part from b to before j is empty and there is no child, or the child is the part's root; a is
-- the first place of the tree
abbrev pub ChildOfPart : (ℕ → ℕ) → ℕ → ℕ → ℕ → Option ℕ → Type 0
ChildOfPart d a b j o = ((b ≡ j) × (o ≡ None)) ⊎ ((c : ℕ) × (o ≡ Some (a + c)) × RootOfPart d b j c)

-- only the distances before j count
same_part : (d e : ℕ → ℕ) (a b j : ℕ) (o : Option ℕ) → ((i : ℕ) → i < j → e i ≡ d i) → ChildOfPart d a b j o → ChildOfPart e a b j o
same_part d e a b j o s (inl p) = inl p
same_part d e a b j o s (inr (c, q, p)) =
    inr (
      c,
      q,
      record {
        first = p.first;
        last = p.last;
        top = rw (s c p.last) p.top;
        inner = λ i k h. rw (s i h) (p.inner i k h);
      },
    )

-- the part from the first place on to before the end of a node has the node's root
root_of_node : (l r : Tree) → RootOfPart (distance (node l r)) 0 (size l + suc (size r)) (size l)
unfolding size
root_of_node l r = record {
  first = omega arith;
  last = omega arith;
  top = inl (distance_root l r);
  inner = λ i k h.
      let j = i - suc (size l) in
      let e : i ≡ size l + suc j = omega arith in
      (rw e (right_positive l r j (right_distance l r j (omega arith))), omega (arith, distance-le (node l r) i h));
}

root_of_left : (l r : Tree) (a : ℕ) → ChildOfPart (distance (node l r)) a 0 (size l) (root_of a l)
unfolding size
root_of_left leaf r a = inl (refl, refl)
root_of_left (node l m) r a =
    same_part (distance (node l m)) (distance (node (node l m) r)) a 0 (size (node l m)) (Some (a + size l)) (distance_left (node l m) r)
    (inr (size l, refl, root_of_node l m))

-- the left part of a place on the right of a root, with the places counted from the first of the
-- whole tree
after_right : (l r : Tree) (k : ℕ) → distance r k ≤ k → RightDistance l r k
    → after_link (size l + suc k) (distance (node l r) (size l + suc k)) ≡ size l + suc (after_link k (distance r k))
after_right l r k h (inl p) = rw (p.0, p.1) (omega arith)
after_right l r k h (inr p) = rw p.1 (go (distance r k) p.0 h)
  where
    go : (d : ℕ) → 0 < d → d ≤ k → after_link (size l + suc k) d ≡ size l + suc (after_link k d)
    go zero a b = omega arith
    go (suc d) a b = omega arith

top_right : (l r : Tree) (b c : ℕ) → (distance r c ≡ 0) ⊎ (c < b + distance r c) → RightDistance l r c
    → size l + suc c < size l + suc b + distance (node l r) (size l + suc c)
top_right l r b c t (inl p) = omega (arith, p.1)
top_right l r b c (inl e) (inr p) = absurd (let z : ⊥ = omega (arith, p.0) in z)
top_right l r b c (inr e) (inr p) = omega (arith, p.1)

inner_right : (l r : Tree) (b i : ℕ) → (0 < distance r i) × (b + distance r i ≤ i) → RightDistance l r i
    → (0 < distance (node l r) (size l + suc i)) × (size l + suc b + distance (node l r) (size l + suc i) ≤ size l + suc i)
inner_right l r b i n (inl p) = absurd (let z : ⊥ = omega (arith, n.0, p.0) in z)
inner_right l r b i n (inr p) = (omega (arith, n.0, p.1), omega (arith, n.1, p.1))

part_right : (l r : Tree) (a b k : ℕ) (o : Option ℕ) → k < size r → ChildOfPart (distance r) (suc (a + size l)) b k o
    → ChildOfPart (distance (node l r)) a (size l + suc b) (size l + suc k) o
part_right l r a b k o h (inl p) = inl (omega (arith, p.0), p.1)
part_right l r a b k o h (inr (c, q, p)) =
    inr (
      size l + suc c,
      q ∙ ap Some (omega arith),
      record {
        first = omega (arith, p.first);
        last = omega (arith, p.last);
        top = inr (top_right l r b c p.top (right_distance l r c (omega (arith, p.last))));
        inner = λ i m n.
            let j = i - suc (size l) in
            let e : i ≡ size l + suc j = omega arith in
            rw e (inner_right l r b j (p.inner j (omega arith) (omega arith)) (right_distance l r j (omega arith)));
      },
    )

-- the left child of place j of a tree, by its left part
pub left_child : (t : Tree) (a j : ℕ) → j < size t → ChildOfPart (distance t) a (after_link j (distance t j)) j (get_or (left_children a t) j None)
unfolding size
left_child leaf a j h = absurd (let z : ⊥ = omega arith in z)
left_child (node l r) a j h = go j (place (size l) (size r) j h) (left_child l a) (left_child r (suc (a + size l)))
  where
    go : (j : ℕ) → Place (size l) (size r) j
        → ((k : ℕ) → k < size l → ChildOfPart (distance l) a (after_link k (distance l k)) k (get_or (left_children a l) k None))
        → ((k : ℕ) → k < size r → ChildOfPart (distance r) (suc (a + size l)) (after_link k (distance r k)) k
        (get_or (left_children (suc (a + size l)) r) k None))
        → ChildOfPart (distance (node l r)) a (after_link j (distance (node l r) j)) j (get_or (left_children a (node l r)) j None)
    go j (before h) hl hr =
        rw (child_left a l r j h, distance_left l r j h)
        (same_part (distance l) (distance (node l r)) a (after_link j (distance l j)) j (get_or (left_children a l) j None)
        (λ i k. distance_left l r i (omega arith)) (hl j h))
    go _ here hl hr = rw (child_root a l r, distance_root l r) (root_of_left l r a)
    go _ (after k h) hl hr =
        rw (child_right a l r k, after_right l r k (distance-le r k h) (right_distance l r k h))
        (part_right l r a (after_link k (distance r k)) k (get_or (left_children (suc (a + size l)) r) k None) h (hr k h))
