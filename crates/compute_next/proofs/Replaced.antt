-- A list that is changed at one place and has zeros behind it: written in three parts, and its
-- places.
use Rattle.std.specs.Prelude.{◌≡◌, ◌∷◌, ◌+◌, ◌-◌, ◌≤◌, ◌<◌, ◌++◌}
use Rattle.lists.proofs.Prelude.{◌∙◌, ap, sym, refl, List, [], ℕ, suc, length, get_or, take, drop, set, replicate, length-append, length-replicate}
use Rattle.lists.proofs.Prelude.{length-take-le, arith, drop-cons, set_at, take_at, drop_at, add-one, drop-drop, append_assoc}
use Rattle.lists.proofs.Prelude.{get_or-replicate, get_or-take, get_or_at, take_all, dec_lt}
use Rattle.lists.proofs.Places.{get_or_before, get_or_after}
use Rattle.compute_next.specs.Change.{replaced}
use borrow.Rule.Slice.PartMut.{put_mid}

pub overwritten : (ds out : List ℕ) (p e : ℕ) (zeros : List ℕ) → p < length ds → length ds ≤ length out → zeros ≡ replicate (length ds - (p + 1)) 0
    → put_mid (p + 1) (length ds - (p + 1)) (set (take p ds ++ drop p out) p e) zeros ≡ replaced ds p e ++ drop (length ds) out
overwritten ds out p e zeros h k z =
    let front = take p ds ++ (e ∷ []) in
    let behind = drop (suc p) out in
    let f : length (take p ds) ≡ p = length-take-le p ds (omega arith) in
    let w : set (take p ds ++ drop p out) p e ≡ front ++ behind =
    rw (drop-cons out p 0 (omega arith), set_at (take p ds) (get_or out p 0) behind e p f, append_assoc) refl in
    let g : length front ≡ p + 1 = omega (arith, length-append {A = ℕ}) in
    let n : suc p + (length ds - (p + 1)) ≡ length ds = omega arith in
    rw (w, take_at front behind (p + 1) g, drop_at front behind (p + 1) g, drop-drop, n, z, add-one) (simp append_assoc)

-- ---- its places

module _ (ds : List ℕ) (p e : ℕ) (h : p < length ds) where
  front : length (take p ds) ≡ p
  front = length-take-le p ds (omega arith)

  pub length-replaced : length (replaced ds p e) ≡ length ds
  length-replaced = rw (length-append, front, length-replicate) (omega arith)

  pub replaced_before : (i : ℕ) → i < p → get_or ds i 0 ≡ get_or (replaced ds p e) i 0
  replaced_before i k = sym (get_or_before (take p ds) e (replicate (length ds - suc p) 0) 0 p i front k ∙ get_or-take p ds i 0 k)

  pub replaced_here : (i : ℕ) → i ≡ p → e ≡ get_or (replaced ds p e) i 0
  replaced_here i k = rw k (sym (get_or_at (take p ds) e (replicate (length ds - suc p) 0) 0 p front))

  pub replaced_behind : (i : ℕ) → p ≤ i → (i ≡ p → ⊥) → i < length ds → 0 ≡ get_or (replaced ds p e) i 0
  replaced_behind i k n l =
      let q : i ≡ p + suc (i - suc p) = omega arith in
      sym (ap (λ (j : ℕ). get_or (replaced ds p e) j 0) q ∙ get_or_after (take p ds) e (replicate (length ds - suc p) 0) 0 p (i - suc p) front
      ∙ get_or-replicate (length ds - suc p) (i - suc p) 0 0 (omega arith))

-- a change that keeps the length is at a place of the list
pub replaced_inside : (ds : List ℕ) (p e : ℕ) → length (replaced ds p e) ≡ length ds → p < length ds
replaced_inside ds p e h = go (dec_lt p (length ds))
  where
    go : Dec (p < length ds) → p < length ds
    go (yes l) = l
    go (no f) =
        let t : length (take p ds) ≡ length ds = ap length (take_all p ds (omega arith)) in
        absurd (let z : ⊥ = omega (arith, h, t, length-append (take p ds) (e ∷ replicate (length ds - suc p) 0)) in z)
