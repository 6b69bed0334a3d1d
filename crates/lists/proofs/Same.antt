-- Equal lists of numbers: the tests `same` and `begins`.
use Rattle.std.specs.Prelude.{◌≡◌, ◌↔◌, ◌&&◌, ◌∷◌, ◌++◌}
use Rattle.lists.proofs.Prelude.{zero, suc, take-nil, take-take, length-take, ◌∙◌, ap, sym, refl, subst, ap₂, Bool, true, false, List}
use Rattle.lists.proofs.Prelude.{[], ℕ, T, eqb, eqb→eq, eqb_refl, length, take, drop, take-append-drop, take-append_seam, arith, begins, same}
use Rattle.lists.proofs.Tests.{T-true, true-T, and_split, and_join}

pub same_eq : (xs ys : List ℕ) → T (same xs ys) → xs ≡ ys
unfolding same
same_eq [] [] t = refl
same_eq [] (y ∷ ys) t = absurd t
same_eq (x ∷ xs) [] t = absurd t
same_eq (x ∷ xs) (y ∷ ys) t =
    let p = and_split (eqb x y) (same xs ys) t in
    ap₂ (λ (a : ℕ) (l : List ℕ). a ∷ l) (eqb→eq x y p.0) (same_eq xs ys p.1)

pub same_refl : (xs : List ℕ) → T (same xs xs)
unfolding same
same_refl [] = tt
same_refl (x ∷ xs) = and_join (eqb x x) (same xs xs) (eqb_refl x) (same_refl xs)

pub eq_same : (xs ys : List ℕ) → xs ≡ ys → T (same xs ys)
eq_same xs ys e = subst (λ (l : List ℕ). T (same xs l)) e (same_refl xs)

-- ---- as the test's value

pub same-true : (xs ys : List ℕ) → xs ≡ ys → same xs ys ≡ true
same-true xs ys e = true-T (same xs ys) (eq_same xs ys e)

pub same-false : (xs ys : List ℕ) → (xs ≡ ys → ⊥) → same xs ys ≡ false
same-false xs ys f = go (same xs ys) refl
  where
    go : (b : Bool) → same xs ys ≡ b → same xs ys ≡ false
    go true e = absurd (f (same_eq xs ys (T-true (same xs ys) e)))
    go false e = e

pub true-same : (xs ys : List ℕ) → same xs ys ≡ true → xs ≡ ys
true-same xs ys e = same_eq xs ys (T-true (same xs ys) e)

pub false-same : (xs ys : List ℕ) → same xs ys ≡ false → xs ≡ ys → ⊥
false-same xs ys f e = let z : ◌≡◌ {A = ℕ} 0 1 = let t = same-true xs ys e in cc in omega arith

-- ---- lists put end to end

-- lists whose fronts are equally long: front by front, then the rest
pub same-append : (xs ys us vs : List ℕ) → length xs ≡ length ys → same (xs ++ us) (ys ++ vs) ≡ same xs ys && same us vs
unfolding same
same-append [] [] us vs e = refl
same-append [] (y ∷ ys) us vs e = absurd (let z : ⊥ = omega arith in z)
same-append (x ∷ xs) [] us vs e = absurd (let z : ⊥ = omega arith in z)
same-append (x ∷ xs) (y ∷ ys) us vs e = go (eqb x y) (same-append xs ys us vs (omega arith))
  where
    go : (b : Bool) → same (xs ++ us) (ys ++ vs) ≡ same xs ys && same us vs → b && same (xs ++ us) (ys ++ vs) ≡ (b && same xs ys) && same us vs
    go true ih = ih
    go false ih = refl

-- xs begins with ys exactly if it is ys and a rest
pub begins_iff : (xs ys : List ℕ) → T (begins xs ys) ↔ ((zs : List ℕ) × (xs ≡ ys ++ zs))
begins_iff xs ys = (
  λ t. (
    drop (length ys) xs,
    sym (take-append-drop (length ys) xs) ∙ ap (λ (l : List ℕ). l ++ drop (length ys) xs) (same_eq (take (length ys) xs) ys t),
  ),
  λ p. eq_same (take (length ys) xs) ys (ap (take (length ys)) p.1 ∙ take-append_seam ys p.0),
)

pub begins_shorter : (p h : List ℕ) (n : ℕ) → T (begins p h) → T (begins p (take n h))
begins_shorter p h n t =
    let e = same_eq (take (length h) p) h t in
    eq_same (take (length (take n h)) p) (take n h)
    (sym (take-take (length (take n h)) (length h) p (rw length-take (omega arith))) ∙ ap (take (length (take n h))) e ∙ go h n)
  where
    go : (h : List ℕ) (n : ℕ) → take (length (take n h)) h ≡ take n h
    go [] n = simp take-nil
    go (x ∷ h) zero = refl
    go (x ∷ h) (suc n) = ap (λ (l : List ℕ). x ∷ l) (go h n)
