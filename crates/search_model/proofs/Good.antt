-- What follows from the check of the open minima: they are at most 256, as their places rise among
-- 256 numbers, and each place is before the next one.
use Rattle.std.specs.Prelude.{◌≡◌, ◌-◌, ◌≤◌, ◌<◌}
use Rattle.lists.proofs.Prelude.{refl, Bool, true, false, ℕ, suc, T, dec_lt, arith}
use Rattle.lists.proofs.Tests.{T-true, true-T}
use Rattle.lists.proofs.Rising.{rising_all, rising_count}
use Rattle.search_model.specs.Ring.{Ring, place_at, good_ring}
use Rattle.search_model.proofs.Minima.{Good, Good-to, Good-from}

module _ (taken : ℕ) (r : Ring) where
  pub good : good_ring taken r ≡ true → Good taken r
  good e = Good-to taken r (T-true (good_ring taken r) e)

  pub is-Good : Good taken r → good_ring taken r ≡ true
  is-Good g = true-T (good_ring taken r) (Good-from taken r g)

  pub not-Good : (Good taken r → ⊥) → false ≡ good_ring taken r
  not-Good f = go (good_ring taken r) (λ t. f (Good-to taken r t))
    where
      go : (b : Bool) → (T b → ⊥) → false ≡ b
      go true h = absurd (h tt)
      go false h = refl

  -- ---- what follows

  pub Good-below : Good taken r → (i : ℕ) → i < r.minima → place_at r i < taken
  Good-below g i h = go (dec_lt (suc i) r.minima)
    where
      go : Dec (suc i < r.minima) → place_at r i < taken
      go (yes l) =
          let e : suc (r.minima - 1) ≡ r.minima = omega arith in
          let l = rising_all r.minima (place_at r) g.rises i (r.minima - 1) (omega arith) (omega arith) in
          omega (arith, l, g.ends (r.minima - 1) e)
      go (no f) = omega (arith, g.ends i (omega arith))

  pub Good-few : Good taken r → r.minima ≤ 256
  Good-few g =
      let within : (i : ℕ) → i < r.minima → (taken - 256 ≤ place_at r i) × (place_at r i < taken) = λ i h. (omega (arith, g.recent i h), Good-below g i h) in
      omega (arith, rising_count r.minima (place_at r) (taken - 256) taken (omega arith) within g.rises)
