-- The ways through `raised`: what is open before a place i, above its own distance d. Above 0 the
-- place i - 1 comes first. A distance d leads to the place i - d, and the open places before that
-- one are those that its own distance e leaves open, the nearest of which is e farther.
use Rattle.std.specs.Prelude.{◌≡◌, ◌+◌, ◌-◌, ◌≤◌, ◌<◌}
use Rattle.lists.proofs.Prelude.{◌∙◌, sym, refl, true, List, ℕ, zero, suc, eqb, length, get_or, dec_lt, arith, any}
use Rattle.lists.proofs.Tests.{clash}
use Rattle.realization.specs.Realization.{realizable}
use Rattle.realization.specs.Walk.{leads}
use Rattle.compute_realization.specs.OpenDistances.{open_distances}
use Rattle.compute_realization.proofs.OpenDistances.{one_open, opened_none, opened_kept, opened_shut, open_le, open_through, lead_some, led_le, realizable-Led}
use Rattle.compute_next.specs.Raised.{IsLeastAbove, NoneAbove}

-- nothing is open before the first place
pub raised_first : (ds : List ℕ) (i d : ℕ) → i ≡ 0 → NoneAbove (open_distances ds i) d
unfolding open_distances any
raised_first ds i d z = rw z (λ f h e. clash e refl)

-- above 0 is 1
pub raised_one : (ds : List ℕ) (i d : ℕ) → (i ≡ 0 → ⊥) → d ≡ 0 → IsLeastAbove (open_distances ds i) d 1
unfolding open_distances
raised_one ds zero d h z = absurd (h refl)
raised_one ds (suc i) d h z = record { above = omega arith; listed = open_one; least = λ f k e. omega arith }
  where
    open_one : any (eqb 1) (open_distances ds (suc i)) ≡ true
    open_one = one_open (get_or ds i 0) (open_distances ds i)

module _ (ds : List ℕ) (i d : ℕ) (r : realizable ds ≡ true) (h : i < length ds) (p : d ≡ get_or ds i 0) (z : d ≡ 0 → ⊥) where
  -- the distance leads to an open place
  pub led : (d ≤ i) × (any (eqb (i - (i - d))) (open_distances ds i) ≡ true)
  led =
      let l = realizable-Led ds r i h in
      let le : d ≤ i = omega (arith, p, led_le ds i l) in
      let e : i - (i - d) ≡ d = omega arith in
      (le, rw e (sym (lead_some d (open_distances ds i) z) ∙ (rw (← p) at l)))

  -- an open place that is farther, from the place that the distance leads to
  farther : (f : ℕ) → d < f → any (eqb f) (open_distances ds i) ≡ true
      → (f ≤ i) × (any (eqb (suc (f - d))) (open_distances ds (suc (i - d))) ≡ true)
  farther f k e =
      let le = open_le ds i f e in
      let a : i - (i - f) ≡ f = omega arith in
      let b : suc (i - d) - (i - f) ≡ suc (f - d) = omega (arith, led.0) in
      (le, rw (← b) (sym (open_through ds i (i - d) (i - f) (omega (arith, led.0)) (omega arith) led.1) ∙ (rw a e)))

  -- the place that it leads to has no parent: nothing before it is open
  pub raised_none : (e : ℕ) → e ≡ get_or ds (i - d) 0 → e ≡ 0 → NoneAbove (open_distances ds i) (get_or ds i 0)
  unfolding open_distances
  raised_none e q y = rw (← p) none
    where
      none : (f : ℕ) → d < f → any (eqb f) (open_distances ds i) ≡ true → ⊥
      none f k o =
          let g = farther f k o in
          clash (rw (← q, y) at g.1) (opened_none (f - d) (open_distances ds (i - d)) (omega arith))

  -- it has a parent, e before it
  module _ (e : ℕ) (q : e ≡ get_or ds (i - d) 0) where
    parent : leads (get_or ds (i - d) 0) (open_distances ds (i - d)) ≡ true
    parent = realizable-Led ds r (i - d) (omega arith)

    -- which is a place of the list
    pub parent_le : e ≤ i - d
    parent_le = omega (arith, q, led_le ds (i - d) parent)

    ahead : (e ≡ 0 → ⊥) → any (eqb (d + e)) (open_distances ds i) ≡ true
    unfolding open_distances
    ahead y =
        let a : i - (i - d - e) ≡ d + e = omega (arith, led.0, parent_le) in
        let b : suc (i - d) - (i - d - e) ≡ suc e = omega (arith, parent_le) in
        let t = open_through ds i (i - d) (i - d - e) (omega (arith, led.0)) (omega arith) led.1 in
        let o : any (eqb e) (open_distances ds (i - d)) ≡ true = sym (lead_some e (open_distances ds (i - d)) y) ∙ (rw (← q) at parent) in
        (rw (a, b, ← q) at t) ∙ opened_kept e e (open_distances ds (i - d)) (omega arith) (omega arith) ∙ o

    nearest : (f : ℕ) → d < f → any (eqb f) (open_distances ds i) ≡ true → d + e ≤ f
    unfolding open_distances
    nearest f k o = go (dec_lt (f - d) e)
      where
        go : Dec (f - d < e) → d + e ≤ f
        go (yes m) = clash (rw (← q) at (farther f k o).1) (opened_shut e (f - d) (open_distances ds (i - d)) (omega arith) m)
        go (no m) = omega arith

    pub raised_more : (e ≡ 0 → ⊥) → IsLeastAbove (open_distances ds i) (get_or ds i 0) (get_or ds i 0 + e)
    raised_more y = rw (← p) (record { above = omega arith; listed = ahead y; least = nearest })
