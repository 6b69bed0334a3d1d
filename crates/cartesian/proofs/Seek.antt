-- Laws of `seek` and of the parent distance at a place: bounds, windows, and known distances as
-- links.
use Rattle.std.specs.Prelude.{◌≡◌, ◌∷◌, ◌+◌, ◌-◌, ◌≤◌, ◌<◌, ◌<ℤ◌}
use Rattle.lists.proofs.Order.{le_z_above, le-le_z, lt-le_z, <ℤ-≤ℤ}
use Rattle.lists.proofs.Prelude.{◌∙◌, ap, sym, refl, Bool, true, false, cond, List, [], ℕ, zero, suc, zero-le, ℤ, pos, le_z}
use Rattle.lists.proofs.Prelude.{≤ℤ_refl, <ℤ-≤ℤ_trans, length, get_or, drop, get_or-drop, add-zero, add-suc, arith, le-leb, lt-leb, tabulate, last_below}
use Rattle.lists.proofs.LastBelow.{last_below-le, last_below_no}
use Rattle.lists.proofs.Tables.{length-tabulate, get_or-tabulate}
use Rattle.cartesian.specs.Cartesian.{seek, apart, distance_at, distances, cut}

-- of two equal values the later one does not close the earlier one
pub equal_distances : (x : ℤ) → distances (x ∷ x ∷ []) ≡ 0 ∷ 1 ∷ []
unfolding distances distance_at tabulate last_below
equal_distances x = rw (le-le_z (≤ℤ_refl x)) refl

pub seek-le : (s : List ℤ) (x : ℤ) (n : ℕ) → seek s x n ≤ n
seek-le s x n = last_below-le (λ j. le_z (get_or s j (pos 0)) x) n

pub length-distances : (s : List ℤ) → length (distances s) ≡ length s
unfolding distances
length-distances s = length-tabulate (length s) (distance_at s)

pub get_or-distances : (s : List ℤ) (d i : ℕ) → i < length s → get_or (distances s) i d ≡ distance_at s i
unfolding distances
get_or-distances s d i h = get_or-tabulate (length s) (distance_at s) d i h

-- what the two arms of the loop store
pub dist_none : (s : List ℤ) (i k : ℕ) → k ≡ seek s (get_or s i (pos 0)) i → k ≡ 0 → 0 ≡ distance_at s i
unfolding distance_at
dist_none s i k e z = ap (apart i) (sym z ∙ e)

apart_some : (i k : ℕ) → (k ≡ 0 → ⊥) → i + 1 - k ≡ apart i k
apart_some i zero h = absurd (h refl)
apart_some i (suc k) h = omega arith

pub dist_some : (s : List ℤ) (i k : ℕ) → k ≡ seek s (get_or s i (pos 0)) i → (k ≡ 0 → ⊥) → i + 1 - k ≡ distance_at s i
unfolding distance_at
dist_some s i k e z = apart_some i k z ∙ ap (apart i) e

-- ---- a window: the values from a on

-- one more than the place in the whole, of one more than the place in the window; q where the
-- window has none
abbrev in_whole : ℕ → ℕ → ℕ → ℕ
in_whole a q zero = q
in_whole a q (suc j) = suc (a + j)

seek-drop : (s : List ℤ) (a : ℕ) (x : ℤ) (i : ℕ) → seek s x (a + i) ≡ in_whole a (seek s x a) (seek (drop a s) x i)
unfolding last_below
seek-drop s a x zero = rw add-zero refl
seek-drop s a x (suc i) = rw (add-suc, get_or-drop) (go (le_z (get_or s (a + i) (pos 0)) x) (seek-drop s a x i))
  where
    go : (b : Bool) → seek s x (a + i) ≡ in_whole a (seek s x a) (seek (drop a s) x i)
        → cond b (suc (a + i)) (seek s x (a + i)) ≡ in_whole a (seek s x a) (cond b (suc i) (seek (drop a s) x i))
    go true e = refl
    go false e = e

apart-cut : (a i q k : ℕ) → q ≤ a → k ≤ i → apart i k ≡ cut i (apart (a + i) (in_whole a q k))
apart-cut a i zero zero hq hk = rw (le-leb 0 i zero-le) refl
apart-cut a i (suc j) zero hq hk = rw (lt-leb (a + i - j) i (omega arith)) refl
apart-cut a i q (suc j) hq hk =
    let e : a + i - (a + j) ≡ i - j = omega arith in
    rw (e, le-leb (i - j) i (omega arith)) refl

-- the distance in a window is the distance in the whole where it stays in the window, and else 0
pub distance_at-drop : (s : List ℤ) (a i : ℕ) → distance_at (drop a s) i ≡ cut i (distance_at s (a + i))
unfolding distance_at
distance_at-drop s a i =
    let x = get_or s (a + i) (pos 0) in
    rw (get_or-drop, seek-drop s a x i) (apart-cut a i (seek s x a) (seek (drop a s) x i) (seek-le s x a) (seek-le (drop a s) x i))

-- ---- known distances as links

skip : (s : List ℤ) (x y : ℤ) (n : ℕ) → x <ℤ y → seek s x n ≡ seek s x (seek s y n)
unfolding last_below
skip s x y zero h = refl
skip s x y (suc n) h = go (le_z (get_or s n (pos 0)) y) refl (skip s x y n h)
  where
    go : (b : Bool) → le_z (get_or s n (pos 0)) y ≡ b → seek s x n ≡ seek s x (seek s y n) → seek s x (suc n) ≡ seek s x (cond b (suc n) (seek s y n))
    go true e ih = refl
    go false e ih = rw (lt-le_z (<ℤ-≤ℤ_trans h (<ℤ-≤ℤ (le_z_above (get_or s n (pos 0)) y e)))) ih

jump : (s : List ℤ) (x : ℤ) (k : ℕ) → 0 < k → le_z (get_or s (k - 1) (pos 0)) x ≡ false → seek s x k ≡ seek s x (seek s (get_or s (k - 1) (pos 0)) (k - 1))
jump s x k h e = last_below_no (λ j. le_z (get_or s j (pos 0)) x) k h e
    ∙ skip s x (get_or s (k - 1) (pos 0)) (k - 1) (le_z_above (get_or s (k - 1) (pos 0)) x e)

-- a distance gives its link back
apart_none : (n q : ℕ) → q ≤ n → apart n q ≡ 0 → q ≡ 0
apart_none n zero h e = refl
apart_none n (suc j) h e = omega arith

apart_link : (n q : ℕ) → q ≤ n → (apart n q ≡ 0 → ⊥) → q ≡ n + 1 - apart n q
apart_link n zero h e = absurd (e refl)
apart_link n (suc j) h e = omega arith

pub distance_le : (s : List ℤ) (n : ℕ) → distance_at s n ≤ n
unfolding distance_at
distance_le s n = go (seek s (get_or s n (pos 0)) n)
  where
    go : (q : ℕ) → apart n q ≤ n
    go zero = omega arith
    go (suc j) = omega arith

pub jump_none : (s : List ℤ) (x : ℤ) (k d : ℕ) → 0 < k → le_z (get_or s (k - 1) (pos 0)) x ≡ false → d ≡ distance_at s (k - 1) → d ≡ 0 → 0 ≡ seek s x k
unfolding distance_at last_below
jump_none s x k d h e p z =
    sym (jump s x k h e ∙ ap (seek s x) (apart_none (k - 1) (seek s (get_or s (k - 1) (pos 0)) (k - 1)) (seek-le s (get_or s (k - 1) (pos 0)) (k - 1))
    (sym p ∙ z)))

pub jump_some : (s : List ℤ) (x : ℤ) (k d : ℕ) → 0 < k → le_z (get_or s (k - 1) (pos 0)) x ≡ false → d ≡ distance_at s (k - 1) → (d ≡ 0 → ⊥)
    → seek s x k ≡ seek s x (k - d)
unfolding distance_at
jump_some s x k d h e p z =
    let q = seek s (get_or s (k - 1) (pos 0)) (k - 1) in
    let l = apart_link (k - 1) q (seek-le s (get_or s (k - 1) (pos 0)) (k - 1)) (λ g. z (p ∙ g)) in
    let m : q ≡ k - d = omega (arith, l, p) in
    jump s x k h e ∙ ap (seek s x) m
