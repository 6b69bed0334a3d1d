-- The lexicographic order of lists of numbers: it is irreflexive, transitive and total, and a
-- common front of two lists does not count.
use Rattle.std.specs.Prelude.{◌≡◌, ◌⊎◌, ◌&&◌, ◌∷◌, ◌++◌, ◌<◌}
use Rattle.lists.proofs.Prelude.{◌∙◌, ap, sym, refl, subst, ap₂, inl, inr, List, [], append-nil, ℕ, zero, suc, T, eqb}
use Rattle.lists.proofs.Prelude.{ltb, eqb→eq, ltb→lt, lt→ltb, eqb_refl, length, take, drop, take-append-drop, take-length, replicate, dec_lt, arith}
use Rattle.lists.proofs.Prelude.{begins, before}
use Rattle.lists.proofs.Tests.{and_split, and_join, or_cases, or_left, or_right}
use Rattle.lists.proofs.Same.{same_eq, eq_same}

-- one list is before another
abbrev pub Before : List ℕ → List ℕ → Type 0
Before xs ys = T (before xs ys)

-- ---- lists that begin with a number

pub before_cases : (x : ℕ) (xs : List ℕ) (y : ℕ) (ys : List ℕ) → T (before (x ∷ xs) (y ∷ ys)) → (x < y) ⊎ ((x ≡ y) × T (before xs ys))
unfolding before
before_cases x xs y ys t = go (or_cases (ltb x y) (eqb x y && before xs ys) t)
  where
    go : T (ltb x y) ⊎ T (eqb x y && before xs ys) → (x < y) ⊎ ((x ≡ y) × T (before xs ys))
    go (inl h) = inl (ltb→lt x y h)
    go (inr h) = let p = and_split (eqb x y) (before xs ys) h in inr (eqb→eq x y p.0, p.1)

pub before_first : (x : ℕ) (xs : List ℕ) (y : ℕ) (ys : List ℕ) → x < y → T (before (x ∷ xs) (y ∷ ys))
unfolding before
before_first x xs y ys h = or_left (ltb x y) (eqb x y && before xs ys) (lt→ltb x y h)

pub before_rest : (x : ℕ) (xs : List ℕ) (y : ℕ) (ys : List ℕ) → x ≡ y → T (before xs ys) → T (before (x ∷ xs) (y ∷ ys))
unfolding before
before_rest x xs y ys e t =
    or_right (ltb x y) (eqb x y && before xs ys) (and_join (eqb x y) (before xs ys) (subst (λ (k : ℕ). T (eqb x k)) e (eqb_refl x)) t)

-- ---- an order

pub before_irrefl : (xs : List ℕ) → T (before xs xs) → ⊥
unfolding before
before_irrefl [] t = t
before_irrefl (x ∷ xs) t = go (before_cases x xs x xs t) (before_irrefl xs)
  where
    go : (x < x) ⊎ ((x ≡ x) × T (before xs xs)) → (T (before xs xs) → ⊥) → ⊥
    go (inl h) ih = omega arith
    go (inr p) ih = ih p.1

pub before_trans : (xs ys zs : List ℕ) → T (before xs ys) → T (before ys zs) → T (before xs zs)
unfolding before
before_trans [] [] zs s t = absurd s
before_trans [] (y ∷ ys) [] s t = absurd t
before_trans [] (y ∷ ys) (z ∷ zs) s t = tt
before_trans (x ∷ xs) [] zs s t = absurd s
before_trans (x ∷ xs) (y ∷ ys) [] s t = absurd t
before_trans (x ∷ xs) (y ∷ ys) (z ∷ zs) s t = go (before_cases x xs y ys s) (before_cases y ys z zs t) (before_trans xs ys zs)
  where
    go : (x < y) ⊎ ((x ≡ y) × T (before xs ys)) → (y < z) ⊎ ((y ≡ z) × T (before ys zs)) → (T (before xs ys) → T (before ys zs) → T (before xs zs))
        → T (before (x ∷ xs) (z ∷ zs))
    go (inl h) (inl k) ih = before_first x xs z zs (omega arith)
    go (inl h) (inr q) ih = before_first x xs z zs (omega (arith, q.0))
    go (inr p) (inl k) ih = before_first x xs z zs (omega (arith, p.0))
    go (inr p) (inr q) ih = before_rest x xs z zs (p.0 ∙ q.0) (ih p.1 q.1)

pub before_asym : (xs ys : List ℕ) → T (before xs ys) → T (before ys xs) → ⊥
before_asym xs ys s t = before_irrefl xs (before_trans xs ys xs s t)

pub before_total : (xs ys : List ℕ) → T (before xs ys) ⊎ ((xs ≡ ys) ⊎ T (before ys xs))
unfolding before
before_total [] [] = inr (inl refl)
before_total [] (y ∷ ys) = inl tt
before_total (x ∷ xs) [] = inr (inr tt)
before_total (x ∷ xs) (y ∷ ys) = go (dec_lt x y) (dec_lt y x) (before_total xs ys)
  where
    go : Dec (x < y) → Dec (y < x) → T (before xs ys) ⊎ ((xs ≡ ys) ⊎ T (before ys xs))
        → T (before (x ∷ xs) (y ∷ ys)) ⊎ (((x ∷ xs) ≡ (y ∷ ys)) ⊎ T (before (y ∷ ys) (x ∷ xs)))
    go (yes l) d r = inl (before_first x xs y ys l)
    go (no f) (yes l) r = inr (inr (before_first y ys x xs l))
    go (no f) (no g) (inl t) = let e : x ≡ y = omega arith in inl (before_rest x xs y ys e t)
    go (no f) (no g) (inr (inl q)) = let e : x ≡ y = omega arith in inr (inl (ap₂ (λ (a : ℕ) (l : List ℕ). a ∷ l) e q))
    go (no f) (no g) (inr (inr t)) = let e : y ≡ x = omega arith in inr (inr (before_rest y ys x xs e t))

-- two lists neither of which is before the other are equal
pub before_antisym : (xs ys : List ℕ) → (T (before xs ys) → ⊥) → (T (before ys xs) → ⊥) → xs ≡ ys
before_antisym xs ys f g = go (before_total xs ys)
  where
    go : T (before xs ys) ⊎ ((xs ≡ ys) ⊎ T (before ys xs)) → xs ≡ ys
    go (inl t) = absurd (f t)
    go (inr (inl e)) = e
    go (inr (inr t)) = absurd (g t)

-- what is before a list that is not after another is before that one
pub before_upto : (xs ys zs : List ℕ) → T (before xs ys) → (T (before zs ys) → ⊥) → T (before xs zs)
before_upto xs ys zs s f = go (before_total ys zs)
  where
    go : T (before ys zs) ⊎ ((ys ≡ zs) ⊎ T (before zs ys)) → T (before xs zs)
    go (inl t) = before_trans xs ys zs s t
    go (inr (inl e)) = subst (λ (l : List ℕ). T (before xs l)) e s
    go (inr (inr t)) = absurd (f t)

-- ---- fronts

-- nothing is before the empty list
pub before-nil : (xs : List ℕ) → T (before xs []) → ⊥
unfolding before
before-nil [] t = t
before-nil (x ∷ xs) t = t

-- nor a list of equal length before zeros
pub before_zeros : (xs : List ℕ) → T (before xs (replicate (length xs) 0)) → ⊥
unfolding before
before_zeros [] t = t
before_zeros (x ∷ xs) t = go (before_cases x xs 0 (replicate (length xs) 0) t) (before_zeros xs)
  where
    go : (x < 0) ⊎ ((x ≡ 0) × T (before xs (replicate (length xs) 0))) → (T (before xs (replicate (length xs) 0)) → ⊥) → ⊥
    go (inl h) ih = omega arith
    go (inr p) ih = ih p.1

-- a common front does not count
pub before_unappend : (zs xs ys : List ℕ) → T (before (zs ++ xs) (zs ++ ys)) → T (before xs ys)
before_unappend [] xs ys t = t
before_unappend (z ∷ zs) xs ys t = go (before_cases z (zs ++ xs) z (zs ++ ys) t) (before_unappend zs xs ys)
  where
    go : (z < z) ⊎ ((z ≡ z) × T (before (zs ++ xs) (zs ++ ys))) → (T (before (zs ++ xs) (zs ++ ys)) → T (before xs ys)) → T (before xs ys)
    go (inl h) ih = absurd (let y : ⊥ = omega arith in y)
    go (inr p) ih = ih p.1

-- a list is before its continuations
pub before_continued : (xs : List ℕ) (y : ℕ) (ys : List ℕ) → T (before xs (xs ++ (y ∷ ys)))
unfolding before
before_continued [] y ys = tt
before_continued (x ∷ xs) y ys = before_rest x xs x (xs ++ (y ∷ ys)) refl (before_continued xs y ys)

-- no continuation of a list is before it
pub continued_before : (xs ys : List ℕ) → T (before (xs ++ ys) xs) → ⊥
continued_before xs ys t = before-nil ys (before_unappend xs ys [] (subst (λ (l : List ℕ). T (before (xs ++ ys) l)) (sym (append-nil xs)) t))

pub begins-before : (p h : List ℕ) → T (begins p h) → T (before p h) → ⊥
begins-before p h b t =
    let e : h ++ drop (length h) p ≡ p = ap (λ (l : List ℕ). l ++ drop (length h) p) (sym (same_eq (take (length h) p) h b)) ∙ take-append-drop (length h) p in
    continued_before h (drop (length h) p) (subst (λ (l : List ℕ). T (before l h)) (sym e) t)

-- the fronts of two lists are equal, or in the order of the lists
pub before-take : (n : ℕ) (xs ys : List ℕ) → T (before xs ys) → T (before (take n xs) (take n ys)) ⊎ (take n xs ≡ take n ys)
unfolding before
before-take zero xs ys t = inr refl
before-take (suc n) [] [] t = absurd t
before-take (suc n) [] (y ∷ ys) t = inl tt
before-take (suc n) (x ∷ xs) [] t = absurd t
before-take (suc n) (x ∷ xs) (y ∷ ys) t = go (before_cases x xs y ys t) (before-take n xs ys)
  where
    go : (x < y) ⊎ ((x ≡ y) × T (before xs ys)) → (T (before xs ys) → T (before (take n xs) (take n ys)) ⊎ (take n xs ≡ take n ys))
        → T (before (x ∷ take n xs) (y ∷ take n ys)) ⊎ ((x ∷ take n xs) ≡ (y ∷ take n ys))
    go (inl h) ih = inl (before_first x (take n xs) y (take n ys) h)
    go (inr p) ih = rest (ih p.1)
      where
        rest : T (before (take n xs) (take n ys)) ⊎ (take n xs ≡ take n ys) → T (before (x ∷ take n xs) (y ∷ take n ys)) ⊎ ((x ∷ take n xs) ≡ (y ∷ take n ys))
        rest (inl s) = inl (before_rest x (take n xs) y (take n ys) p.0 s)
        rest (inr e) = inr (ap₂ (λ (a : ℕ) (l : List ℕ). a ∷ l) p.0 e)

-- fronts in an order: the lists are in it
pub take-before : (n : ℕ) (xs ys : List ℕ) → T (before (take n xs) (take n ys)) → T (before xs ys)
take-before n xs ys t = go (before_total xs ys)
  where
    go : T (before xs ys) ⊎ ((xs ≡ ys) ⊎ T (before ys xs)) → T (before xs ys)
    go (inl s) = s
    go (inr (inl e)) = absurd (before_irrefl (take n xs) (subst (λ (l : List ℕ). T (before (take n xs) (take n l))) (sym e) t))
    go (inr (inr s)) = absurd (back (before-take n ys xs s))
      where
        back : T (before (take n ys) (take n xs)) ⊎ (take n ys ≡ take n xs) → ⊥
        back (inl r) = before_asym (take n xs) (take n ys) t r
        back (inr e) = before_irrefl (take n xs) (subst (λ (l : List ℕ). T (before (take n xs) l)) e t)

-- between a list and one that begins with it, all begin with it
pub between_begins : (h p q : List ℕ) → (T (before p h) → ⊥) → (T (before q p) → ⊥) → T (begins q h) → T (begins p h)
between_begins h p q f g b =
    let n = length h in
    let e = same_eq (take n q) h b in
    eq_same (take n p) h
    (before_antisym (take n p) h
    (λ t. f (take-before n p h (subst (λ (l : List ℕ). T (before (take n p) l)) (sym (take-length h)) t)))
    (λ t. g (take-before n q p (subst (λ (l : List ℕ). T (before l (take n p))) (sym e) t))))
