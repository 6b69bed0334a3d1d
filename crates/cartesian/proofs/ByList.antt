-- The distances by recursion on the list, nearest value first, for proofs by induction:
-- `distances_list` says that they are the distances.
use Rattle.std.specs.Prelude.{◌≡◌, ◌∷◌, ◌++◌, ◌+◌, ◌-◌, ◌≤◌}
use Rattle.lists.proofs.Prelude.{◌∙◌, ap, sym, refl, Bool, true, false, cond, List, [], ℕ, zero, suc, ℤ, pos, le_z, length, get_or}
use Rattle.lists.proofs.Prelude.{take, take-suc, take-length, le_refl, arith, tabulate, last_below}
use Rattle.cartesian.specs.Cartesian.{seek, apart, distance_at, distances}
use Rattle.cartesian.proofs.Seek.{seek-le}

-- back rev x k: rev is what stands before x, nearest first; k is the distance of rev's head
unfoldable pub back : List ℤ → ℤ → ℕ → ℕ
back [] x k = 0
back (y ∷ ys) x k = cond (le_z y x) k (back ys x (suc k))

-- distances of xs, with rev what stands before, nearest first
unfoldable pub dists_from : List ℤ → List ℤ → List ℕ
dists_from rev [] = []
dists_from rev (x ∷ xs) = back rev x 1 ∷ dists_from (x ∷ rev) xs

unfoldable pub onto : List ℤ → List ℤ → List ℤ
onto [] rev = rev
onto (x ∷ xs) rev = onto xs (x ∷ rev)

pub dists_app : (rev a b : List ℤ) → dists_from rev (a ++ b) ≡ dists_from rev a ++ dists_from (onto a rev) b
unfolding dists_from onto
dists_app rev [] b = refl
dists_app rev (x ∷ a) b = ap (λ (l : List ℕ). back rev x 1 ∷ l) (dists_app (x ∷ rev) a b)

onto_snoc : (a rev : List ℤ) (y : ℤ) → onto (a ++ (y ∷ [])) rev ≡ y ∷ onto a rev
unfolding onto
onto_snoc [] rev y = refl
onto_snoc (x ∷ a) rev y = onto_snoc a (x ∷ rev) y

abbrev apart_from : ℕ → ℕ → ℕ → ℕ
apart_from k n zero = 0
apart_from k n (suc j) = suc k + (n - suc j)

apart_from-suc : (k n q : ℕ) → q ≤ n → apart_from (suc k) n q ≡ apart_from k (suc n) q
apart_from-suc k n zero h = refl
apart_from-suc k n (suc j) h = omega arith

back-seek : (s : List ℤ) (x : ℤ) (k n : ℕ) → n ≤ length s → back (onto (take n s) []) x (suc k) ≡ apart_from k n (seek s x n)
unfolding back last_below onto
back-seek s x k zero h = refl
back-seek s x k (suc n) h =
    rw (take-suc s n (pos 0) (omega arith), onto_snoc)
    (go (le_z (get_or s n (pos 0)) x) (back-seek s x (suc k) n (omega arith)))
  where
    go : (b : Bool) → back (onto (take n s) []) x (suc (suc k)) ≡ apart_from (suc k) n (seek s x n)
        → cond b (suc k) (back (onto (take n s) []) x (suc (suc k))) ≡ apart_from k (suc n) (cond b (suc n) (seek s x n))
    go true e = omega arith
    go false e = e ∙ apart_from-suc k n (seek s x n) (seek-le s x n)

apart_from-apart : (n q : ℕ) → q ≤ n → apart_from 0 n q ≡ apart n q
apart_from-apart n zero h = refl
apart_from-apart n (suc j) h = omega arith

pub tabulate_list : (s : List ℤ) (n : ℕ) → n ≤ length s → tabulate n (distance_at s) ≡ dists_from [] (take n s)
unfolding tabulate distance_at dists_from
tabulate_list s zero h = refl
tabulate_list s (suc n) h =
    let x = get_or s n (pos 0) in
    let d : distance_at s n ≡ back (onto (take n s) []) x 1 = sym (back-seek s x 0 n (omega arith) ∙ apart_from-apart n (seek s x n) (seek-le s x n)) in
    rw (take-suc s n (pos 0) (omega arith), dists_app [] (take n s) (x ∷ []), d)
    (ap (λ (l : List ℕ). l ++ (back (onto (take n s) []) x 1 ∷ [])) (tabulate_list s n (omega arith)))

pub distances_list : (s : List ℤ) → distances s ≡ dists_from [] s
unfolding distances
distances_list s = tabulate_list s (length s) (le_refl (length s)) ∙ ap (dists_from []) (take-length s)

-- ---- a prefix

dists_take : (n : ℕ) (rev xs : List ℤ) → dists_from rev (take n xs) ≡ take n (dists_from rev xs)
unfolding dists_from
dists_take zero rev xs = refl
dists_take (suc n) rev [] = refl
dists_take (suc n) rev (x ∷ xs) = ap (λ (l : List ℕ). back rev x 1 ∷ l) (dists_take n (x ∷ rev) xs)

-- THE LAW OF A PREFIX: the distances of a prefix are the prefix of the distances
pub distances-take : (n : ℕ) (xs : List ℤ) → distances (take n xs) ≡ take n (distances xs)
distances-take n xs = distances_list (take n xs) ∙ dists_take n [] xs ∙ ap (take n) (sym (distances_list xs))
