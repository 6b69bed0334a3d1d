-- THE WINDOW LAW (002): the distances of a window are those of the whole text, cut.
use Rattle.std.specs.Prelude.{◌≡◌, ◌∷◌, ◌+◌, ◌-◌, ◌<◌, ◌++◌, ◌≤◌}
use Rattle.lists.proofs.Prelude.{◌∙◌, ap, refl, List, [], ℕ, zero, suc, ℤ, length, get_or, take, drop, length-drop, get_or-drop, ext_get_or}
use Rattle.lists.proofs.Prelude.{add-zero, arith, last_of}
use Rattle.lists.proofs.Parts.{length-last_of, last_of_snoc}
use Rattle.cartesian.specs.Cartesian.{distances, cut, cut_from}
use Rattle.cartesian.specs.Windows.{suffix_distances}
use Rattle.cartesian.proofs.Seek.{length-distances, get_or-distances, distance_at-drop}
use Rattle.cartesian.proofs.ByList.{distances-take}

pub length-cut_from : (i : ℕ) (ds : List ℕ) → length (cut_from i ds) ≡ length ds
unfolding cut_from
length-cut_from i [] = refl
length-cut_from i (d ∷ ds) = ap suc (length-cut_from (suc i) ds)

pub get_or-cut_from : (i : ℕ) (ds : List ℕ) (j d : ℕ) → j < length ds → get_or (cut_from i ds) j d ≡ cut (i + j) (get_or ds j d)
unfolding cut_from
get_or-cut_from i [] j d h = absurd (let z : ⊥ = omega arith in z)
get_or-cut_from i (x ∷ ds) zero d h = rw add-zero refl
get_or-cut_from i (x ∷ ds) (suc j) d h =
    let e : suc i + j ≡ i + suc j = omega arith in
    rw (← e) (get_or-cut_from (suc i) ds j d (omega arith))

pub distances-drop : (a : ℕ) (xs : List ℤ) → distances (drop a xs) ≡ cut_from 0 (drop a (distances xs))
distances-drop a xs =
    ext_get_or 0 (distances (drop a xs)) (cut_from 0 (drop a (distances xs)))
    (rw (length-distances, length-cut_from, length-drop, length-drop, length-distances) refl)
    (λ i h. at i (rw (length-distances, length-drop) at h))
  where
    at : (i : ℕ) → i < length xs - a → get_or (distances (drop a xs)) i 0 ≡ get_or (cut_from 0 (drop a (distances xs))) i 0
    at i h =
        let e : 0 + i ≡ i = omega arith in
        let left = get_or-distances (drop a xs) 0 i (rw length-drop h) in
        let right = get_or-cut_from 0 (drop a (distances xs)) i 0 (rw (length-drop, length-distances) h) in
        rw (left, right, get_or-drop, get_or-distances xs 0 (a + i) (omega arith), e) (distance_at-drop xs a i)

pub window_law : (a n : ℕ) (xs : List ℤ) → distances (take n (drop a xs)) ≡ take n (cut_from 0 (drop a (distances xs)))
window_law a n xs = distances-take n (drop a xs) ∙ ap (take n) (distances-drop a xs)

pub distances-last_of : (m : ℕ) (xs : List ℤ) → distances (last_of m xs) ≡ suffix_distances m (distances xs)
distances-last_of m xs = distances-drop (length xs - m) xs ∙ rw length-distances refl

cut_from_snoc : (i : ℕ) (ds : List ℕ) (v : ℕ) → cut_from i (ds ++ (v ∷ [])) ≡ cut_from i ds ++ (cut (i + length ds) v ∷ [])
unfolding cut_from
cut_from_snoc i [] v = ap (λ (k : ℕ). cut k v ∷ []) (let e : i ≡ i + 0 = omega arith in e)
cut_from_snoc i (d ∷ ds) v =
    ap (λ (l : List ℕ). cut i d ∷ l)
    (cut_from_snoc (suc i) ds v ∙ ap (λ (k : ℕ). cut_from (suc i) ds ++ (cut k v ∷ [])) (let e : suc i + length ds ≡ i + suc (length ds) = omega arith in e))

pub length_suffix : (m : ℕ) (h : List ℕ) → m ≤ length h → length (suffix_distances m h) ≡ m
length_suffix m h l = length-cut_from 0 (last_of m h) ∙ length-last_of m h l

-- one value more: its distance is cut
pub suffix_snoc : (m : ℕ) (h : List ℕ) (v : ℕ) → m ≤ length h
    → suffix_distances (suc m) (h ++ (v ∷ [])) ≡ suffix_distances m h ++ (cut (length (suffix_distances m h)) v ∷ [])
suffix_snoc m h v l =
    ap (cut_from 0) (last_of_snoc m h v l) ∙ cut_from_snoc 0 (last_of m h) v
    ∙ ap (λ (k : ℕ). suffix_distances m h ++ (cut k v ∷ []))
    (let e : 0 + length (last_of m h) ≡ length (cut_from 0 (last_of m h)) = omega (arith, length-cut_from 0 (last_of m h)) in e)
