-- The failure lengths by distances, and the ways through the loop that follows them. A tail of m
-- values of the head of n values has the tree of the head of m values exactly if each of its
-- distances, cut at its place in the tail, is the distance there (`tail_iff`); so a tail of a head
-- of i + 1 values is a tail of the head of i values that the last distance continues (`tail_next`),
-- and a tail of a tail is a tail (`tail_of_tail`).
use Rattle.std.specs.Prelude.{◌≡◌, ◌↔◌, ◌+◌, ◌-◌, ◌≤◌, ◌<◌}
use Rattle.lists.proofs.Tables.{filled_at}
use Rattle.lists.proofs.Prelude.{◌∙◌, ap, sym, refl, subst, Bool, true, false, List, ℕ, zero, suc, pred, zero-le, T, eqb, length}
use Rattle.lists.proofs.Prelude.{get_or, take, drop, length-drop, length-take-le, get_or-take, get_or-drop, ext_get_or, add-one, dec_lt, arith}
use Rattle.lists.proofs.Prelude.{eq-eqb, le-leb, lt-leb}
use Rattle.lists.proofs.Prelude.{eqb-true, eqb-false, last_of, tabulate, last_below}
use Rattle.lists.proofs.Tests.{true-T}
use Rattle.lists.proofs.LastBelow.{last_below-le, last_below_passes, last_below_none, last_below_skip}
use Rattle.cartesian.specs.Cartesian.{tree, same_tree, distances, cut}
use Rattle.cartesian.specs.Windows.{suffix_distances}
use Rattle.cartesian.proofs.Seek.{get_or-distances, distance_le}
use Rattle.cartesian.proofs.ByList.{distances-take}
use Rattle.cartesian.proofs.Window.{distances-last_of, length-cut_from, get_or-cut_from}
use Rattle.cartesian.proofs.Matching.{trees_iff_distances, same_tree_eq, eq_same_tree}
use Rattle.realization.specs.Realization.{realizable, least_realization, failure_length}
use Rattle.realization.proofs.LeastRealization.{least_distances, length_least}

-- has the tail of m values of the head of n values the tree of the head of m values
abbrev pub tail_fits : List ℕ → ℕ → ℕ → Bool
tail_fits ds n m = same_tree (tree (last_of m (take n (least_realization ds)))) (tree (take m (least_realization ds)))

-- the same of distances, place by place
abbrev pub TailAgrees : List ℕ → ℕ → ℕ → Type 0
TailAgrees ds n m = (k : ℕ) → k < m → cut k (get_or ds (n - m + k) 0) ≡ get_or ds k 0

-- ---- by distances

tail_distances : (ds : List ℕ) (n m : ℕ) → T (realizable ds) → distances (last_of m (take n (least_realization ds))) ≡ suffix_distances m (take n ds)
tail_distances ds n m r =
    distances-last_of m (take n (least_realization ds)) ∙ ap (suffix_distances m) (distances-take n (least_realization ds) ∙ ap (take n) (least_distances ds r))

head_distances : (ds : List ℕ) (m : ℕ) → T (realizable ds) → distances (take m (least_realization ds)) ≡ take m ds
head_distances ds m r = distances-take m (least_realization ds) ∙ ap (take m) (least_distances ds r)

length_suffix : (ds : List ℕ) (n m : ℕ) → m ≤ n → n ≤ length ds → length (suffix_distances m (take n ds)) ≡ m
length_suffix ds n m h l = rw (length-cut_from, length-drop, length-take-le n ds l) (omega arith)

get_or_suffix : (ds : List ℕ) (n m k : ℕ) → m ≤ n → n ≤ length ds → k < m → get_or (suffix_distances m (take n ds)) k 0 ≡ cut k (get_or ds (n - m + k) 0)
get_or_suffix ds n m k h l b =
    let e : 0 + k ≡ k = omega arith in
    let within : k < length (drop (length (take n ds) - m) (take n ds)) = rw (length-drop, length-take-le n ds l) (omega arith) in
    rw (get_or-cut_from 0 (drop (length (take n ds) - m) (take n ds)) k 0 within, length-take-le n ds l, get_or-drop)
    (rw (get_or-take n ds (n - m + k) 0 (omega arith), e) refl)

pub tail_iff : (ds : List ℕ) (n m : ℕ) → T (realizable ds) → m ≤ n → n ≤ length ds → T (tail_fits ds n m) ↔ TailAgrees ds n m
tail_iff ds n m r h l =
    let xs = least_realization ds in
    let law = trees_iff_distances (last_of m (take n xs)) (take m xs) in (
      λ t k b.
          let e = sym (tail_distances ds n m r) ∙ law.0 (same_tree_eq (tree (last_of m (take n xs))) (tree (take m xs)) t) ∙ head_distances ds m r in
          sym (get_or_suffix ds n m k h l b) ∙ ap (λ (v : List ℕ). get_or v k 0) e ∙ get_or-take m ds k 0 b,
      λ f.
          let e : suffix_distances m (take n ds) ≡ take m ds =
          ext_get_or 0 (suffix_distances m (take n ds)) (take m ds) (length_suffix ds n m h l ∙ sym (length-take-le m ds (omega arith)))
          (λ k b.
          let b' : k < m = subst (λ (v : ℕ). k < v) (length_suffix ds n m h l) b in
          get_or_suffix ds n m k h l b' ∙ f k b' ∙ sym (get_or-take m ds k 0 b')) in
          eq_same_tree (tree (last_of m (take n xs))) (tree (take m xs)) (law.1 (tail_distances ds n m r ∙ e ∙ sym (head_distances ds m r))),
    )

-- ---- tails of tails

-- a cut at a place and then at an earlier one is the cut at the earlier one
cut-cut : (k j v : ℕ) → k ≤ j → cut k (cut j v) ≡ cut k v
cut-cut k j v h = go (dec_lt j v)
  where
    go : Dec (j < v) → cut k (cut j v) ≡ cut k v
    go (yes l) = rw (lt-leb v j l, lt-leb v k (omega arith), le-leb 0 k zero-le) refl
    go (no g) = rw (le-leb v j (omega arith)) refl

-- the distances of a shorter tail are those of the longer one, cut
shorter : (ds : List ℕ) (n m p k : ℕ) → p ≤ m → m ≤ n → TailAgrees ds n m → k < p → cut k (get_or ds (m - p + k) 0) ≡ cut k (get_or ds (n - p + k) 0)
shorter ds n m p k h l f b =
    let e : n - m + (m - p + k) ≡ n - p + k = omega arith in
    sym (ap (cut k) (rw e at (f (m - p + k) (omega arith)))) ∙ cut-cut k (m - p + k) (get_or ds (n - p + k) 0) (omega arith)

tail_of_tail : (ds : List ℕ) (n m p : ℕ) → p ≤ m → m ≤ n → TailAgrees ds n m → TailAgrees ds m p → TailAgrees ds n p
tail_of_tail ds n m p h l f g k b = sym (shorter ds n m p k h l f b) ∙ g k b

tail_in_tail : (ds : List ℕ) (n m p : ℕ) → p ≤ m → m ≤ n → TailAgrees ds n m → TailAgrees ds n p → TailAgrees ds m p
tail_in_tail ds n m p h l f g k b = shorter ds n m p k h l f b ∙ g k b

-- ---- one value more

tail_shorter : (ds : List ℕ) (i m : ℕ) → TailAgrees ds (suc i) (suc m) → TailAgrees ds i m
tail_shorter ds i m f k b =
    let e : suc i - suc m + k ≡ i - m + k = omega arith in
    rw e at (f k (omega arith))

tail_last : (ds : List ℕ) (i m : ℕ) → m ≤ i → TailAgrees ds (suc i) (suc m) → cut m (get_or ds i 0) ≡ get_or ds m 0
tail_last ds i m h f =
    let e : suc i - suc m + m ≡ i = omega arith in
    rw e at (f m (omega arith))

tail_next : (ds : List ℕ) (i m : ℕ) → m ≤ i → TailAgrees ds i m → cut m (get_or ds i 0) ≡ get_or ds m 0 → TailAgrees ds (suc i) (suc m)
tail_next ds i m h f a k b = go (dec_lt k m)
  where
    go : Dec (k < m) → cut k (get_or ds (suc i - suc m + k) 0) ≡ get_or ds k 0
    go (yes l) =
        let e : suc i - suc m + k ≡ i - m + k = omega arith in
        rw e (f k l)
    go (no g) =
        let q : k ≡ m = omega arith in
        let e : suc i - suc m + m ≡ i = omega arith in
        rw (q, e) a

-- ---- the failure length of a head

failure_is : (ds : List ℕ) (n : ℕ) → failure_length ds n ≡ pred (last_below (tail_fits ds n) n)
unfolding failure_length
failure_is ds n = refl

pub failure_lt : (ds : List ℕ) (n : ℕ) → 0 < n → failure_length ds n < n
failure_lt ds n h = omega (arith, failure_is ds n, last_below-le (tail_fits ds n) n)

-- no longer proper tail fits
failure_none : (ds : List ℕ) (n j : ℕ) → failure_length ds n < j → j < n → T (tail_fits ds n j) → ⊥
failure_none ds n j h l t = last_below_none (tail_fits ds n) n j (omega (arith, failure_is ds n)) l t

-- the empty tail fits, so some does, and the longest is the one found
failure_fits : (ds : List ℕ) (n : ℕ) → T (realizable ds) → n ≤ length ds → TailAgrees ds n (failure_length ds n)
failure_fits ds n r l = rw failure_is (go (last_below (tail_fits ds n) n) refl)
  where
    go : (q : ℕ) → last_below (tail_fits ds n) n ≡ q → TailAgrees ds n (pred q)
    go zero e = λ k b. absurd (let z : ⊥ = omega arith in z)
    go (suc q) e =
        let b : q ≤ n = omega (arith, last_below-le (tail_fits ds n) n) in
        (tail_iff ds n q r b l).0 (last_below_passes (tail_fits ds n) n q e)

-- ---- the search for the next failure length

-- the tail of m values of the head of i values fits, and the head of i + 1 values has no fitting
-- proper tail of more than m + 1
pub record Candidate (ds : List ℕ) (i m : ℕ) : Type 0 where
  pub proper : m < i
  pub fits : TailAgrees ds i m
  pub longest : failure_length ds (suc i) ≡ pred (last_below (tail_fits ds (suc i)) (suc (suc m)))

-- a tail of the head of i + 1 values fits only where one of one value less does and the last
-- distance continues it
next_none : (ds : List ℕ) (i j : ℕ) → T (realizable ds) → i < length ds → j ≤ suc i → 0 < j
    → ((p : ℕ) → j ≡ suc p → TailAgrees ds i p → cut p (get_or ds i 0) ≡ get_or ds p 0 → ⊥) → T (tail_fits ds (suc i) j) → ⊥
next_none ds i zero r l h z f t = omega arith
next_none ds i (suc p) r l h z f t =
    let g = (tail_iff ds (suc i) (suc p) r h (omega arith)).0 t in
    f p refl (tail_shorter ds i p g) (tail_last ds i p (omega arith) g)

pub search_first : (ds : List ℕ) (i : ℕ) → T (realizable ds) → 0 < i → i < length ds → Candidate ds i (failure_length ds i)
search_first ds i r h l =
    let q = failure_length ds i in
    let b = failure_lt ds i h in
    record {
      proper = b;
      fits = failure_fits ds i r (omega arith);
      longest = failure_is ds (suc i)
          ∙ ap pred (last_below_skip (tail_fits ds (suc i)) (suc i) (suc (suc q)) (omega arith)
          (λ j u v. next_none ds i j r l (omega arith) (omega arith)
          (λ p e f a. failure_none ds i p (omega arith) (omega arith) ((tail_iff ds i p r (omega arith) (omega arith)).1 f))));
    }

-- the last distance continues the candidate: it is the tail sought
pub search_yes : (ds : List ℕ) (i m : ℕ) → T (realizable ds) → i < length ds → Candidate ds i m → eqb (cut m (get_or ds i 0)) (get_or ds m 0) ≡ true
    → m + 1 ≡ failure_length ds (suc i)
unfolding last_below
search_yes ds i m r l c a =
    let b = c.proper in
    let t =
    (tail_iff ds (suc i) (suc m) r (omega arith) (omega arith)).1
    (tail_next ds i m (omega arith) c.fits (eqb-true (cut m (get_or ds i 0)) (get_or ds m 0) a)) in
    add-one m ∙ sym (c.longest ∙ rw (true-T (tail_fits ds (suc i) (suc m)) t) refl)

-- it does not: the next candidate is the longest proper tail of this one that fits
pub search_no : (ds : List ℕ) (i m : ℕ) → T (realizable ds) → i < length ds → 0 < m → Candidate ds i m
    → eqb (cut m (get_or ds i 0)) (get_or ds m 0) ≡ false → Candidate ds i (failure_length ds m)
search_no ds i m r l z c a =
    let q = failure_length ds m in
    let b = c.proper in
    let s = failure_lt ds m z in
    record {
      proper = omega arith;
      fits = tail_of_tail ds i m q (omega arith) (omega arith) c.fits (failure_fits ds m r (omega arith));
      longest = c.longest
          ∙ ap pred (last_below_skip (tail_fits ds (suc i)) (suc (suc m)) (suc (suc q)) (omega arith)
          (λ j u v. next_none ds i j r l (omega arith) (omega arith) (λ p e f d. go p (omega arith) (omega arith) f d (dec_lt p m))));
    }
  where
    go : (p : ℕ) → failure_length ds m < p → p ≤ m → TailAgrees ds i p → cut p (get_or ds i 0) ≡ get_or ds p 0 → Dec (p < m) → ⊥
    go p u v f d (yes k) =
        let b = c.proper in
        failure_none ds m p u k ((tail_iff ds m p r (omega arith) (omega arith)).1 (tail_in_tail ds i m p (omega arith) (omega arith) c.fits f))
    go p u v f d (no g) =
        let e : p ≡ m = omega arith in
        eqb-false (cut m (get_or ds i 0)) (get_or ds m 0) a (rw e at d)

cut-zero : (v : ℕ) → cut 0 v ≡ 0
cut-zero zero = refl
cut-zero (suc v) = rw (lt-leb (suc v) 0 (omega arith)) refl

-- the first distance of a realizable list is 0
first_zero : (ds : List ℕ) → T (realizable ds) → 0 < length ds → get_or ds 0 0 ≡ 0
first_zero ds r h =
    let xs = least_realization ds in
    let e : get_or (distances xs) 0 0 ≡ get_or ds 0 0 = ap (λ (v : List ℕ). get_or v 0 0) (least_distances ds r) in
    omega (arith, e, get_or-distances xs 0 0 (rw (length_least ds r) h), distance_le xs 0)

-- a tail of one value fits every head of at least two
pub search_end : (ds : List ℕ) (i m : ℕ) → T (realizable ds) → i < length ds → m ≤ 0 → Candidate ds i m → 1 ≡ failure_length ds (suc i)
search_end ds i m r l z c =
    let e : m ≡ 0 = omega arith in
    search_yes ds i 0 r l (rw e at c) (eq-eqb (cut 0 (get_or ds i 0)) (get_or ds 0 0) (cut-zero (get_or ds i 0) ∙ sym (first_zero ds r (omega arith))))

-- a head of one value has the empty proper tail only
pub search_one : (ds : List ℕ) (i : ℕ) → i ≡ 0 → 0 ≡ failure_length ds (suc i)
search_one ds i e = omega (arith, failure_lt ds (suc i) (omega arith))

-- ---- what the array holds

-- of a head of n values that is filled already
pub filled : (ds out : List ℕ) (i n : ℕ) → take i out ≡ tabulate i (λ j. failure_length ds (suc j)) → 0 < n → n ≤ i → get_or out (n - 1) 0 ≡ failure_length ds n
filled ds out i n e h l =
    let s : suc (n - 1) ≡ n = omega arith in
    filled_at 0 (λ j. failure_length ds (suc j)) out i (n - 1) e (omega arith) ∙ ap (failure_length ds) s
