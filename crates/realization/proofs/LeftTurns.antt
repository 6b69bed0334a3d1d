-- The left-turn counts of a tree are values that have this tree: what is left of a root is above
-- it, what is right of it is not below it.
use Rattle.std.specs.Prelude.{◌≡◌, ◌∷◌, ◌++◌, ◌+◌, ◌≤◌, ◌≤ℤ◌}
use Rattle.lists.proofs.Order.{pos-le, pos_step_down, pos_below}
use Rattle.lists.proofs.Prelude.{length-append, length-map, length, refl, ◌∙◌, ap, sym, subst, ap₂, List, [], map, ℕ, zero, suc, ℤ}
use Rattle.lists.proofs.Prelude.{pos, get_or, le_refl, add-zero, arith}
use Rattle.lists.proofs.Parts.{map-append}
use Rattle.cartesian.specs.Cartesian.{Tree, leaf, node, size, distances}
use Rattle.cartesian.proofs.HasTree.{Over, over_nil, over_cons, HasTree, empty, root}
use Rattle.cartesian.proofs.Structure.{tree_distances, distances_tree}
use Rattle.realization.specs.Realization.{left_turns}

-- the left-turn counts, each higher by c
unfoldable pub risen : ℕ → Tree → List ℤ
risen c leaf = []
risen c (node l r) = risen (suc c) l ++ (pos c ∷ risen c r)

-- every value is at least c
Over-append : {P : ℤ → Type 0} (xs ys : List ℤ) → Over P xs → Over P ys → Over P (xs ++ ys)
Over-append [] ys over_nil k = k
Over-append (x ∷ xs) ys (over_cons h hs) k = over_cons h (Over-append xs ys hs k)

Over-weaken : {P Q : ℤ → Type 0} (xs : List ℤ) → ((x : ℤ) → P x → Q x) → Over P xs → Over Q xs
Over-weaken [] f over_nil = over_nil
Over-weaken (x ∷ xs) f (over_cons h hs) = over_cons (f x h) (Over-weaken xs f hs)

pub risen-Over : (c : ℕ) (t : Tree) → Over (λ x. pos c ≤ℤ x) (risen c t)
unfolding risen
risen-Over c leaf = over_nil
risen-Over c (node l r) =
    Over-append (risen (suc c) l) (pos c ∷ risen c r)
    (Over-weaken (risen (suc c) l) (pos_step_down c) (risen-Over (suc c) l))
    (over_cons (pos-le (le_refl c)) (risen-Over c r))

pub risen_has : (c : ℕ) (t : Tree) → HasTree (risen c t) t
unfolding risen
risen_has c leaf = empty
risen_has c (node l r) =
    root (risen (suc c) l) (risen c r) (pos c)
    (Over-weaken (risen (suc c) l) (pos_below c) (risen-Over (suc c) l))
    (risen-Over c r)
    (risen_has (suc c) l)
    (risen_has c r)

-- risen 0 is the list of left-turn counts
map-suc : (c : ℕ) (xs : List ℕ) → map (λ n. pos (c + n)) (map suc xs) ≡ map (λ n. pos (suc c + n)) xs
map-suc c [] = refl
map-suc c (x ∷ xs) =
    let e : c + suc x ≡ suc c + x = omega arith in
    ap₂ (λ (a : ℤ) (l : List ℤ). a ∷ l) (ap pos e) (map-suc c xs)

risen_turns : (c : ℕ) (t : Tree) → risen c t ≡ map (λ n. pos (c + n)) (left_turns t)
unfolding risen left_turns
risen_turns c leaf = refl
risen_turns c (node l r) =
    ap₂ (λ (a b : List ℤ). a ++ (pos c ∷ b)) (risen_turns (suc c) l) (risen_turns c r)
    ∙ sym (map-append (λ n. pos (c + n)) (map suc (left_turns l)) (0 ∷ left_turns r)
    ∙ ap₂ (λ (a : List ℤ) (z : ℕ). a ++ (pos z ∷ map (λ n. pos (c + n)) (left_turns r))) (map-suc c (left_turns l)) (add-zero c))

map-zero : (xs : List ℕ) → map (λ n. pos (0 + n)) xs ≡ map pos xs
map-zero [] = refl
map-zero (x ∷ xs) =
    let e : 0 + x ≡ x = omega arith in
    ap₂ (λ (a : ℤ) (l : List ℤ). a ∷ l) (ap pos e) (map-zero xs)

pub turns_risen : (t : Tree) → map pos (left_turns t) ≡ risen 0 t
turns_risen t = sym (risen_turns 0 t ∙ map-zero (left_turns t))

pub turns_have : (t : Tree) → HasTree (map pos (left_turns t)) t
turns_have t = subst (λ (l : List ℤ). HasTree l t) (sym (turns_risen t)) (risen_has 0 t)

pub turns_distances : (t : Tree) → distances (map pos (left_turns t)) ≡ tree_distances t
turns_distances t = distances_tree (turns_have t)

-- ---- a left-turn count is less than the number of places, so it is a 32-bit number where there
-- are at most 256

append_bound : (k : ℕ) (xs ys : List ℕ) → ((i : ℕ) → get_or xs i 0 ≤ k) → ((i : ℕ) → get_or ys i 0 ≤ k) → (i : ℕ) → get_or (xs ++ ys) i 0 ≤ k
append_bound k [] ys f g i = g i
append_bound k (x ∷ xs) ys f g zero = f 0
append_bound k (x ∷ xs) ys f g (suc i) = append_bound k xs ys (λ j. f (suc j)) g i

suc_bound : (k : ℕ) (xs : List ℕ) → ((i : ℕ) → get_or xs i 0 ≤ k) → (i : ℕ) → get_or (map suc xs) i 0 ≤ suc k
suc_bound k [] f i = omega arith
suc_bound k (x ∷ xs) f zero = omega (arith, f 0)
suc_bound k (x ∷ xs) f (suc i) = suc_bound k xs (λ j. f (suc j)) i

zero_bound : (k : ℕ) (xs : List ℕ) → ((i : ℕ) → get_or xs i 0 ≤ k) → (i : ℕ) → get_or (0 ∷ xs) i 0 ≤ k
zero_bound k xs f zero = omega arith
zero_bound k xs f (suc i) = f i

pub turns_bound : (t : Tree) (k : ℕ) → size t ≤ suc k → (i : ℕ) → get_or (left_turns t) i 0 ≤ k
unfolding left_turns size
turns_bound leaf k h i = omega arith
turns_bound (node leaf r) k h i = zero_bound k (left_turns r) (turns_bound r k (omega arith)) i
turns_bound (node (node l m) r) zero h i = absurd (let z : ⊥ = omega arith in z)
turns_bound (node (node l m) r) (suc k) h i =
    append_bound (suc k) (map suc (left_turns (node l m))) (0 ∷ left_turns r)
    (suc_bound k (left_turns (node l m)) (turns_bound (node l m) k (omega arith)))
    (zero_bound (suc k) (left_turns r) (turns_bound r (suc k) (omega arith))) i

pub length_turns : (t : Tree) → length (left_turns t) ≡ size t
unfolding left_turns size
length_turns leaf = refl
length_turns (node l r) = rw (length-append, length-map, length_turns l, length_turns r) refl
