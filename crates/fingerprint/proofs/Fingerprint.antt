-- A fingerprint is read off the parent distances: a value is not below the one before it exactly if
-- its parent is that one, at distance 1. So values with equal trees have equal fingerprints. And
-- how a fingerprint grows by a value at the end and sheds one at the front, and that it tells where
-- the values fall.
use Rattle.std.specs.Prelude.{◌≡◌, ◌∷◌, ◌++◌, ◌+◌, ◌*◌, ◌%◌, ◌^◌, ◌<◌}
use Rattle.lists.proofs.Prelude.{◌∙◌, ap, sym, refl, subst, Bool, true, false, cond, List, [], ℕ, zero, suc}
use Rattle.lists.proofs.Prelude.{ℤ, pos, le_z, eqb, length, get_or}
use Rattle.lists.proofs.Prelude.{length-append, pow-suc, mod-eq_of_lt, mul-add-mod_self_right, add-one, add-two, arith, ne_eqb, last_of}
use Rattle.cartesian.specs.Cartesian.{tree, distances}
use Rattle.cartesian.specs.Windows.{suffix_distances}
use Rattle.cartesian.proofs.ByList.{back, dists_from, distances_list}
use Rattle.cartesian.proofs.Matching.{trees_iff_distances}
use Rattle.cartesian.proofs.Window.{distances-last_of}
use Rattle.fingerprint.specs.Fingerprint.{fingerprint}

-- ---- from the distances

-- a bit for each distance, the earliest highest: 1 where the distance is 1
unfoldable pub distance_bits : List ℕ → ℕ
distance_bits [] = 0
distance_bits (d ∷ ds) = cond (eqb d 1) 1 0 * 2 ^ length ds + distance_bits ds

-- the fingerprint of the values that have these distances: the first value has none before it, so
-- its distance gives no bit
unfoldable pub fingerprint_of : List ℕ → ℕ
fingerprint_of [] = 0
fingerprint_of (d ∷ ds) = distance_bits ds

-- a parent further back than the value before is not at distance 1
back_far : (rev : List ℤ) (y : ℤ) (k : ℕ) → back rev y (suc (suc k)) ≡ 1 → ⊥
unfolding back
back_far [] y k e = omega arith
back_far (x ∷ rev) y k e = go (le_z x y) (back_far rev y (suc k)) e
  where
    go : (b : Bool) → (back rev y (suc (suc (suc k))) ≡ 1 → ⊥) → cond b (suc (suc k)) (back rev y (suc (suc (suc k)))) ≡ 1 → ⊥
    go true ih e = omega arith
    go false ih e = ih e

-- the distance of y, right after x, is 1 exactly if y is not below x
distance_one : (rev : List ℤ) (x y : ℤ) → eqb (back (x ∷ rev) y 1) 1 ≡ le_z x y
unfolding back
distance_one rev x y = go (le_z x y)
  where
    go : (b : Bool) → eqb (cond b 1 (back rev y 2)) 1 ≡ b
    go true = refl
    go false = ne_eqb (back rev y 2) 1 (back_far rev y 0)

length-dists_from : (rev xs : List ℤ) → length (dists_from rev xs) ≡ length xs
unfolding dists_from
length-dists_from rev [] = refl
length-dists_from rev (x ∷ xs) = ap suc (length-dists_from (x ∷ rev) xs)

fingerprint-dists_from : (rev : List ℤ) (x : ℤ) (xs : List ℤ) → fingerprint (x ∷ xs) ≡ distance_bits (dists_from (x ∷ rev) xs)
unfolding fingerprint distance_bits dists_from
fingerprint-dists_from rev x [] = refl
fingerprint-dists_from rev x (y ∷ ys) =
    rw (distance_one rev x y, length-dists_from (y ∷ x ∷ rev) ys)
    (ap (λ (n : ℕ). cond (le_z x y) 1 0 * 2 ^ length ys + n) (fingerprint-dists_from (x ∷ rev) y ys))

-- THE LAW: a bit is 1 exactly if the parent distance at the next place is 1
pub fingerprint-distances : (xs : List ℤ) → fingerprint xs ≡ fingerprint_of (distances xs)
unfolding fingerprint fingerprint_of dists_from
fingerprint-distances xs = go xs ∙ ap fingerprint_of (sym (distances_list xs))
  where
    go : (xs : List ℤ) → fingerprint xs ≡ fingerprint_of (dists_from [] xs)
    go [] = refl
    go (x ∷ xs) = fingerprint-dists_from [] x xs

-- the last b values of lists with equal trees have equal fingerprints
pub equal_trees_equal_fingerprints : (b : ℕ) (xs ys : List ℤ) → tree xs ≡ tree ys → fingerprint (last_of b xs) ≡ fingerprint (last_of b ys)
equal_trees_equal_fingerprints b xs ys e =
    fingerprint-distances (last_of b xs)
    ∙ ap fingerprint_of (distances-last_of b xs ∙ ap (suffix_distances b) ((trees_iff_distances xs ys).0 e) ∙ sym (distances-last_of b ys))
    ∙ sym (fingerprint-distances (last_of b ys))

-- ---- rolling

-- a bit for each value but the first
pub fingerprint-lt : (x : ℤ) (xs : List ℤ) → fingerprint (x ∷ xs) < 2 ^ length xs
unfolding fingerprint
fingerprint-lt x [] = omega arith
fingerprint-lt x (y ∷ ys) = go (le_z x y) (fingerprint-lt y ys)
  where
    go : (b : Bool) → fingerprint (y ∷ ys) < 2 ^ length ys → cond b 1 0 * 2 ^ length ys + fingerprint (y ∷ ys) < 2 ^ suc (length ys)
    go true h = omega arith
    go false h = omega arith

-- one more value at the end: a new lowest bit
pub fingerprint_snoc : (xs : List ℤ) (x y : ℤ) → fingerprint (xs ++ (x ∷ y ∷ [])) ≡ fingerprint (xs ++ (x ∷ [])) * 2 + cond (le_z x y) 1 0
unfolding fingerprint
fingerprint_snoc [] x y = omega arith
fingerprint_snoc (w ∷ []) x y = omega arith
fingerprint_snoc (w ∷ v ∷ xs) x y =
    let e : 2 ^ (length xs + 2) ≡ 2 ^ (length xs + 1) * 2 = rw (add-two, add-one) (pow-suc 2 (suc (length xs))) in
    rw (length-append xs (x ∷ y ∷ []), length-append xs (x ∷ []), e, fingerprint_snoc (v ∷ xs) x y) (omega arith)

-- the first value dropped: the highest bit goes
pub fingerprint_tail : (x y : ℤ) (ys : List ℤ) → fingerprint (y ∷ ys) ≡ fingerprint (x ∷ y ∷ ys) % 2 ^ length ys
unfolding fingerprint
fingerprint_tail x y ys =
    sym (mul-add-mod_self_right (cond (le_z x y) 1 0) (2 ^ length ys) (fingerprint (y ∷ ys)) ∙ mod-eq_of_lt (fingerprint-lt y ys))

-- ---- bit by bit

-- a highest bit and what is below it
highest : (a b : Bool) (m x y : ℕ) → x < m → y < m → cond a 1 0 * m + x ≡ cond b 1 0 * m + y → (a ≡ b) × (x ≡ y)
highest true true m x y h k e = (refl, omega arith)
highest true false m x y h k e = absurd (let z : ⊥ = omega arith in z)
highest false true m x y h k e = absurd (let z : ⊥ = omega arith in z)
highest false false m x y h k e = (refl, omega arith)

-- values with equal fingerprints rise and fall at the same places
pub fingerprint_steps : (xs ys : List ℤ) → length xs ≡ length ys → fingerprint xs ≡ fingerprint ys
    → (k : ℕ) → suc k < length xs → le_z (get_or xs k (pos 0)) (get_or xs (suc k) (pos 0)) ≡ le_z (get_or ys k (pos 0)) (get_or ys (suc k) (pos 0))
unfolding fingerprint
fingerprint_steps [] ys e f k h = absurd (let z : ⊥ = omega arith in z)
fingerprint_steps (x ∷ []) ys e f k h = absurd (let z : ⊥ = omega arith in z)
fingerprint_steps (x ∷ y ∷ xs) [] e f k h = absurd (let z : ⊥ = omega arith in z)
fingerprint_steps (x ∷ y ∷ xs) (u ∷ []) e f k h = absurd (let z : ⊥ = omega arith in z)
fingerprint_steps (x ∷ y ∷ xs) (u ∷ v ∷ ys) e f k h =
    let l : length ys ≡ length xs = omega arith in
    let below : fingerprint (v ∷ ys) < 2 ^ length xs = subst (λ (n : ℕ). fingerprint (v ∷ ys) < 2 ^ n) l (fingerprint-lt v ys) in
    let top =
    highest (le_z x y) (le_z u v) (2 ^ length xs) (fingerprint (y ∷ xs)) (fingerprint (v ∷ ys)) (fingerprint-lt y xs) below (rw l at f) in
    go k h top.0 (fingerprint_steps (y ∷ xs) (v ∷ ys) (omega arith) top.1)
  where
    go : (k : ℕ) → suc k < length (x ∷ y ∷ xs) → le_z x y ≡ le_z u v
        → ((k : ℕ) → suc k < length (y ∷ xs) → le_z (get_or (y ∷ xs) k (pos 0)) (get_or (y ∷ xs) (suc k) (pos 0)) ≡ le_z (get_or (v ∷ ys) k (pos 0))
        (get_or (v ∷ ys) (suc k) (pos 0)))
        → le_z (get_or (x ∷ y ∷ xs) k (pos 0)) (get_or (x ∷ y ∷ xs) (suc k) (pos 0))
        ≡ le_z (get_or (u ∷ v ∷ ys) k (pos 0)) (get_or (u ∷ v ∷ ys) (suc k) (pos 0))
    go zero h t ih = t
    go (suc k) h t ih = ih k (omega arith)
