-- One comparison of a value with its global parent, as facts: the parent is not above the value,
-- and below it where the parent is to the right.
use Rattle.std.specs.Prelude.{◌≡◌, ◌⊎◌, ◌&&◌, ◌||◌, ◌≤◌, ◌<◌, ◌≤ℤ◌, ◌<ℤ◌}
use Rattle.lists.proofs.Prelude.{inl, inr, List, ℕ, ℤ, pos, le_z, lt_z, lt_z_yes, le_z_yes, T, leb, leb→le, le→leb}
use Rattle.lists.proofs.Prelude.{get_or, arith}
use Rattle.lists.proofs.Tests.{and_split, and_join, test_ext, or_cases, or_left, or_right}
use Rattle.lists.proofs.Order.{≤ℤ-total, <ℤ-≤ℤ}
use Rattle.global_parents.specs.Passes.{passes_at}

-- the value at a place
abbrev pub value : List ℤ → ℕ → ℤ
value xs i = get_or xs i (pos 0)

-- the parts of a comparison of a, at place g, with b, at place i
parts : (a b : ℤ) (g i : ℕ) → T (lt_z a b || (le_z a b && le_z b a && leb g i)) → (a <ℤ b) ⊎ ((a ≤ℤ b) × (g ≤ i))
parts a b g i t = go (or_cases (lt_z a b) (le_z a b && le_z b a && leb g i) t)
  where
    go : T (lt_z a b) ⊎ T (le_z a b && le_z b a && leb g i) → (a <ℤ b) ⊎ ((a ≤ℤ b) × (g ≤ i))
    go (inl p) = inl (lt_z_yes p)
    go (inr p) =
        let q = and_split (le_z a b && le_z b a) (leb g i) p in
        inr (le_z_yes (and_split (le_z a b) (le_z b a) q.0).0, leb→le g i q.1)

whole : (a b : ℤ) (g i : ℕ) → (a <ℤ b) ⊎ ((a ≤ℤ b) × (g ≤ i)) → T (lt_z a b || (le_z a b && le_z b a && leb g i))
whole a b g i (inl p) = or_left (lt_z a b) (le_z a b && le_z b a && leb g i) p.lt
whole a b g i (inr p) = go (≤ℤ-total b a)
  where
    go : (b ≤ℤ a) ⊎ (a <ℤ b) → T (lt_z a b || (le_z a b && le_z b a && leb g i))
    go (inl q) =
        or_right (lt_z a b) (le_z a b && le_z b a && leb g i)
        (and_join (le_z a b && le_z b a) (leb g i) (and_join (le_z a b) (le_z b a) p.0.le q.le) (le→leb g i p.1))
    go (inr q) = or_left (lt_z a b) (le_z a b && le_z b a && leb g i) q.lt

pub passes_not_above : (xs : List ℤ) (g i : ℕ) → T (passes_at xs g i) → value xs g ≤ℤ value xs i
unfolding passes_at
passes_not_above xs g i t = go (parts (value xs g) (value xs i) g i t)
  where
    go : (value xs g <ℤ value xs i) ⊎ ((value xs g ≤ℤ value xs i) × (g ≤ i)) → value xs g ≤ℤ value xs i
    go (inl p) = <ℤ-≤ℤ p
    go (inr p) = p.0

pub passes_below : (xs : List ℤ) (g i : ℕ) → i < g → T (passes_at xs g i) → value xs g <ℤ value xs i
unfolding passes_at
passes_below xs g i h t = go (parts (value xs g) (value xs i) g i t)
  where
    go : (value xs g <ℤ value xs i) ⊎ ((value xs g ≤ℤ value xs i) × (g ≤ i)) → value xs g <ℤ value xs i
    go (inl p) = p
    go (inr p) = absurd (let z : ⊥ = omega (arith, p.1) in z)

pub below_passes : (xs : List ℤ) (g i : ℕ) → value xs g <ℤ value xs i → T (passes_at xs g i)
unfolding passes_at
below_passes xs g i h = whole (value xs g) (value xs i) g i (inl h)

pub not_above_passes : (xs : List ℤ) (g i : ℕ) → g ≤ i → value xs g ≤ℤ value xs i → T (passes_at xs g i)
unfolding passes_at
not_above_passes xs g i k h = whole (value xs g) (value xs i) g i (inr (h, k))

-- ---- the comparison as one test, by the side of the parent

pub passes_left_lem : (xs : List ℤ) (g i : ℕ) → g ≤ i → le_z (get_or xs g (pos 0)) (get_or xs i (pos 0)) ≡ passes_at xs g i
passes_left_lem xs g i h = test_ext _ (passes_at xs g i) (λ t. not_above_passes xs g i h (le_z_yes t)) (λ t. (passes_not_above xs g i t).le)

pub passes_right_lem : (xs : List ℤ) (g i : ℕ) → i < g → lt_z (get_or xs g (pos 0)) (get_or xs i (pos 0)) ≡ passes_at xs g i
passes_right_lem xs g i h = test_ext _ (passes_at xs g i) (λ t. below_passes xs g i (lt_z_yes t)) (λ t. (passes_below xs g i h t).lt)
