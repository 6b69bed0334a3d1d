-- The last place below a number that passes a test, and the greatest number up to a bound that
-- does.
use Rattle.std.specs.Prelude.{◌≡◌, ◌-◌, ◌≤◌, ◌<◌}
use Rattle.lists.proofs.Prelude.{ap, sym, refl, subst, ap₂, Bool, true, false, cond, ℕ, zero, suc, pred, zero-le, T, le_refl}
use Rattle.lists.proofs.Prelude.{le_step, sub-one, dec_lt, arith, last_below}

-- ---- what is found

pub last_below-le : (test : ℕ → Bool) (n : ℕ) → last_below test n ≤ n
unfolding last_below
last_below-le test zero = zero-le
last_below-le test (suc n) = go (test n) (last_below-le test n)
  where
    go : (b : Bool) → last_below test n ≤ n → cond b (suc n) (last_below test n) ≤ suc n
    go true h = le_refl (suc n)
    go false h = le_step h

-- the place found passes
pub last_below_passes : (test : ℕ → Bool) (n p : ℕ) → last_below test n ≡ suc p → T (test p)
unfolding last_below
last_below_passes test zero p e = absurd (let z : ⊥ = omega arith in z)
last_below_passes test (suc n) p e = go (test n) refl (last_below_passes test n p) e
  where
    go : (b : Bool) → test n ≡ b → (last_below test n ≡ suc p → T (test p)) → cond b (suc n) (last_below test n) ≡ suc p → T (test p)
    go true q ih r =
        let s : n ≡ p = omega arith in
        subst (λ (k : ℕ). T (test k)) s (subst T (sym q) tt)
    go false q ih r = ih r

-- no place between it and n passes
pub last_below_none : (test : ℕ → Bool) (n j : ℕ) → last_below test n ≤ j → j < n → T (test j) → ⊥
unfolding last_below
last_below_none test zero j l h t = omega arith
last_below_none test (suc n) j l h t = go (test n) refl (last_below_none test n j) l
  where
    go : (b : Bool) → test n ≡ b → (last_below test n ≤ j → j < n → T (test j) → ⊥) → cond b (suc n) (last_below test n) ≤ j → ⊥
    go true q ih r = omega arith
    go false q ih r = eqcase (dec_lt j n)
      where
        eqcase : Dec (j < n) → ⊥
        eqcase (yes k) = ih r k t
        eqcase (no f) =
            let s : j ≡ n = omega arith in
            subst T q (subst (λ (k : ℕ). T (test k)) s t)

-- what passes and has nothing that passes above it is what is found
pub last_below_is : (test : ℕ → Bool) (n p : ℕ) → p < n → T (test p) → ((j : ℕ) → p < j → j < n → T (test j) → ⊥) → last_below test n ≡ suc p
unfolding last_below
last_below_is test zero p h t f = absurd (let z : ⊥ = omega arith in z)
last_below_is test (suc n) p h t f = go (test n) refl (last_below_is test n p)
  where
    go : (b : Bool) → test n ≡ b → (p < n → T (test p) → ((j : ℕ) → p < j → j < n → T (test j) → ⊥) → last_below test n ≡ suc p)
        → cond b (suc n) (last_below test n) ≡ suc p
    go true q ih = eqcase (dec_lt p n)
      where
        eqcase : Dec (p < n) → suc n ≡ suc p
        eqcase (yes k) = absurd (f n k (omega arith) (subst T (sym q) tt))
        eqcase (no g) = omega arith
    go false q ih = eqcase (dec_lt p n)
      where
        eqcase : Dec (p < n) → last_below test n ≡ suc p
        eqcase (yes k) = ih k t (λ j a b. f j a (omega arith))
        eqcase (no g) =
            let s : p ≡ n = omega arith in
            absurd (subst T q (subst (λ (k : ℕ). T (test k)) s t))

-- nothing is found where nothing passes
pub last_below-zero : (test : ℕ → Bool) (n : ℕ) → ((j : ℕ) → j < n → T (test j) → ⊥) → last_below test n ≡ 0
unfolding last_below
last_below-zero test zero f = refl
last_below-zero test (suc n) f = go (test n) refl (last_below-zero test n (λ j h. f j (omega arith)))
  where
    go : (b : Bool) → test n ≡ b → last_below test n ≡ 0 → cond b (suc n) (last_below test n) ≡ 0
    go true q e = absurd (f n (omega arith) (subst T (sym q) tt))
    go false q e = e

-- tests that agree below n find the same place
pub last_below_ext : (s t : ℕ → Bool) (n : ℕ) → ((j : ℕ) → j < n → s j ≡ t j) → last_below s n ≡ last_below t n
unfolding last_below
last_below_ext s t zero h = refl
last_below_ext s t (suc n) h = ap₂ (λ b k. cond b (suc n) k) (h n (omega arith)) (last_below_ext s t n (λ j l. h j (omega arith)))

-- places from b to a that all fail are passed over
pub last_below_skip : (test : ℕ → Bool) (a b : ℕ) → b ≤ a → ((j : ℕ) → b ≤ j → j < a → T (test j) → ⊥) → last_below test a ≡ last_below test b
unfolding last_below
last_below_skip test zero b h f = let e : b ≡ 0 = omega arith in rw e refl
last_below_skip test (suc a) b h f = go (dec_lt a b) (test a) refl (last_below_skip test a b)
  where
    go : Dec (a < b) → (t : Bool) → test a ≡ t → (b ≤ a → ((j : ℕ) → b ≤ j → j < a → T (test j) → ⊥) → last_below test a ≡ last_below test b)
        → last_below test (suc a) ≡ last_below test b
    go (yes l) t q ih = let e : b ≡ suc a = omega arith in rw e refl
    go (no g) true q ih = absurd (f a (omega arith) (omega arith) (subst T (sym q) tt))
    go (no g) false q ih = rw q (ih (omega arith) (λ j l k. f j l (omega arith)))

-- ---- the ways through a loop that looks down from i, in the machine's words

-- the ways through a loop that looks down from i, in the machine's words
pub last_below_yes : (test : ℕ → Bool) (i : ℕ) → 0 < i → test (i - 1) ≡ true → i ≡ last_below test i
unfolding last_below
last_below_yes test zero h e = omega arith
last_below_yes test (suc i) h e = rw (rw sub-one at e) refl

pub last_below_no : (test : ℕ → Bool) (i : ℕ) → 0 < i → test (i - 1) ≡ false → last_below test i ≡ last_below test (i - 1)
unfolding last_below
last_below_no test zero h e = refl
last_below_no test (suc i) h e = rw (rw sub-one at e, sub-one) refl

pub last_below_end : (test : ℕ → Bool) (i : ℕ) → i ≤ 0 → 0 ≡ last_below test i
unfolding last_below
last_below_end test zero h = refl
last_below_end test (suc i) h = omega arith

-- ---- the greatest number up to n that passes a test; 0 where none does

abbrev pub greatest : (ℕ → Bool) → ℕ → ℕ
greatest test n = pred (last_below test (suc n))

pub greatest-le : (test : ℕ → Bool) (n : ℕ) → greatest test n ≤ n
greatest-le test n = go (last_below test (suc n)) (last_below-le test (suc n))
  where
    go : (q : ℕ) → q ≤ suc n → pred q ≤ n
    go q h = omega arith

-- where 0 passes, the greatest number passes
pub greatest_passes : (test : ℕ → Bool) (n : ℕ) → T (test 0) → T (test (greatest test n))
greatest_passes test n t = go (last_below test (suc n)) refl
  where
    go : (q : ℕ) → last_below test (suc n) ≡ q → T (test (pred q))
    go zero e = t
    go (suc q) e = last_below_passes test (suc n) q e

pub greatest_none : (test : ℕ → Bool) (n j : ℕ) → greatest test n < j → j ≤ n → T (test j) → ⊥
greatest_none test n j l h t = last_below_none test (suc n) j (go (last_below test (suc n)) l) (omega arith) t
  where
    go : (q : ℕ) → pred q < j → q ≤ j
    go q h = omega arith

pub greatest_is : (test : ℕ → Bool) (n q : ℕ) → q ≤ n → T (test q) → ((j : ℕ) → q < j → j ≤ n → T (test j) → ⊥) → greatest test n ≡ q
greatest_is test n q h t f = ap pred (last_below_is test (suc n) q (omega arith) t (λ j a b. f j a (omega arith)))

-- a number that passes is not above the greatest one
pub greatest_most : (test : ℕ → Bool) (n j : ℕ) → j ≤ n → T (test j) → j ≤ greatest test n
greatest_most test n j h t = go (dec_lt (greatest test n) j)
  where
    go : Dec (greatest test n < j) → j ≤ greatest test n
    go (yes l) = absurd (greatest_none test n j l h t)
    go (no f) = omega arith
