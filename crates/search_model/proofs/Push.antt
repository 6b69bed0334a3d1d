-- A push keeps the open minima good, whatever state they came from. Without the oldest where it is
-- too old, all are among the last 255, so they are at most 255 and the slot after theirs is none of
-- theirs; those kept are a front of them, whose newest is not above the value pushed.
use Rattle.std.specs.Prelude.{◌≡◌, ◌+◌, ◌-◌, ◌≤◌, ◌<◌}
use Rattle.lists.proofs.Prelude.{◌∙◌, ap, sym, refl, subst, Bool, true, false, ℕ, zero, suc, ℤ, pos, le_z, T, leb, ltb, le→leb, ltb→lt}
use Rattle.lists.proofs.Prelude.{lt→ltb, length, length-set, get_or, get_or-set_same, get_or-set_other, dec_lt, arith}
use Rattle.lists.proofs.Tests.{and_split, and_join, T-true}
use Rattle.lists.proofs.LastBelow.{last_below_passes}
use Rattle.lists.proofs.Rising.{rising_count}
use Rattle.search_model.specs.Ring.{Ring, slot, place_at, value_at, good_ring, is_old, aged, pushed, cleared, kept}
use Rattle.search_model.proofs.Minima.{Good}
use Rattle.search_model.proofs.Ring.{without, put, slot-lt, slots_differ, aged-without, aged-places, aged-values, slot_next, kept-le, pushed-put}
use Rattle.search_model.proofs.Good.{good, is-Good, Good-below}

-- ---- without the oldest

place_next : (r : Ring) (i : ℕ) → place_at (without r true) i ≡ place_at r (suc i)
place_next r i = ap (λ (k : ℕ). get_or r.places k 0) (slot_next r i)

value_next : (r : Ring) (i : ℕ) → value_at (without r true) i ≡ value_at r (suc i)
value_next r i = ap (λ (k : ℕ). get_or r.values k (pos 0)) (slot_next r i)

-- open minima that are still among the last 256 once the next value is taken
pub record Young (taken : ℕ) (r : Ring) : Type 0 where
  pub rises : (i : ℕ) → suc i < r.minima → place_at r i < place_at r (suc i)
  pub recent : (i : ℕ) → i < r.minima → taken < place_at r i + 256
  pub below : (i : ℕ) → i < r.minima → place_at r i < taken
  pub climbs : (i : ℕ) → suc i < r.minima → T (le_z (value_at r i) (value_at r (suc i)))

Young-old : (taken : ℕ) (r : Ring) → Good taken r → 0 < r.minima → Young taken (without r true)
Young-old taken r g p = record {
  rises = λ i h. omega (arith, place_next r i, place_next r (suc i), g.rises (suc i) (omega arith));
  recent = λ i h. recent i (omega arith);
  below = λ i h. omega (arith, place_next r i, Good-below taken r g (suc i) (omega arith));
  climbs = λ i h. rw (value_next r i, value_next r (suc i)) (g.climbs (suc i) (omega arith));
}
  where
    recent : (i : ℕ) → suc i < r.minima → taken < place_at (without r true) i + 256
    recent i h = omega (arith, place_next r i, g.recent i (omega arith), g.rises i h)

Young-Young : (taken : ℕ) (r : Ring) → Good taken r → (0 < r.minima → taken < place_at r 0 + 256) → Young taken (without r false)
Young-Young taken r g f = record {
  rises = g.rises;
  recent = recent;
  below = Good-below taken r g;
  climbs = g.climbs;
}
  where
    recent : (i : ℕ) → i < r.minima → taken < place_at r i + 256
    recent zero h = f h
    recent (suc i) h = omega (arith, recent i (omega arith), g.rises i h)

pub aged-Young : (taken : ℕ) (r : Ring) → Good taken r → Young taken (aged taken r)
aged-Young taken r g = rw aged-without (go (is_old taken r) refl)
  where
    go : (b : Bool) → is_old taken r ≡ b → Young taken (without r b)
    go true e = Young-old taken r g (ltb→lt 0 r.minima (and_split (ltb 0 r.minima) (leb (place_at r 0 + 256) (taken)) (T-true (is_old taken r) e)).0)
    go false e = Young-Young taken r g (λ h. oldest h (dec_lt (taken) (place_at r 0 + 256)))
      where
        oldest : 0 < r.minima → Dec (taken < place_at r 0 + 256) → taken < place_at r 0 + 256
        oldest h (yes l) = l
        oldest h (no n) =
            absurd (subst T e (and_join (ltb 0 r.minima) (leb (place_at r 0 + 256) (taken)) (lt→ltb 0 r.minima h)
            (le→leb (place_at r 0 + 256) (taken) (omega arith))))

pub Young-few : (taken : ℕ) (r : Ring) → Young taken r → r.minima ≤ 255
Young-few taken r g =
    omega (arith, rising_count r.minima (place_at r) (taken - 255) (taken) (omega arith) (λ i h. (omega (arith, g.recent i h), g.below i h)) g.rises)

-- ---- the push

kept_passes : (r : Ring) (x : ℤ) (i : ℕ) → kept r x ≡ suc i → T (le_z (value_at r i) x)
unfolding kept
kept_passes r x i e = last_below_passes (λ i. le_z (value_at r i) x) r.minima i e

module _ (taken : ℕ) (a : Ring) (x : ℤ) (g : Young taken a) (p : length a.places ≡ 256) (v : length a.values ≡ 256) where
  few : kept a x < 256
  few = omega (arith, kept-le a x, Young-few taken a g)

  place_old : (i : ℕ) → i < kept a x → place_at (put taken a x) i ≡ place_at a i
  place_old i h = get_or-set_other a.places (slot a (kept a x)) (slot a i) (taken) 0 (slots_differ a i (kept a x) h few)

  place_new : place_at (put taken a x) (kept a x) ≡ taken
  place_new = get_or-set_same a.places (slot a (kept a x)) (taken) 0 (omega (arith, slot-lt a (kept a x)))

  value_old : (i : ℕ) → i < kept a x → value_at (put taken a x) i ≡ value_at a i
  value_old i h = get_or-set_other a.values (slot a (kept a x)) (slot a i) x (pos 0) (slots_differ a i (kept a x) h few)

  value_new : value_at (put taken a x) (kept a x) ≡ x
  value_new = get_or-set_same a.values (slot a (kept a x)) x (pos 0) (omega (arith, slot-lt a (kept a x)))

  rises : (i : ℕ) → suc i < kept a x + 1 → Dec (suc i < kept a x) → place_at (put taken a x) i < place_at (put taken a x) (suc i)
  rises i h (yes l) = omega (arith, place_old i (omega arith), place_old (suc i) l, g.rises i (omega (arith, kept-le a x)))
  rises i h (no f) =
      let e : suc i ≡ kept a x = omega arith in
      let q : place_at (put taken a x) (suc i) ≡ taken = subst (λ (k : ℕ). place_at (put taken a x) k ≡ taken) (sym e) place_new in
      omega (arith, place_old i (omega arith), g.below i (omega (arith, kept-le a x)))

  recent : (i : ℕ) → i < kept a x + 1 → Dec (i < kept a x) → taken + 1 ≤ place_at (put taken a x) i + 256
  recent i h (yes l) = omega (arith, place_old i l, g.recent i (omega (arith, kept-le a x)))
  recent i h (no f) =
      let e : i ≡ kept a x = omega arith in
      let q : place_at (put taken a x) i ≡ taken = subst (λ (k : ℕ). place_at (put taken a x) k ≡ taken) (sym e) place_new in
      omega arith

  ends : (i : ℕ) → suc i ≡ kept a x + 1 → suc (place_at (put taken a x) i) ≡ taken + 1
  ends i h =
      let e : i ≡ kept a x = omega arith in
      let q : place_at (put taken a x) i ≡ taken = subst (λ (k : ℕ). place_at (put taken a x) k ≡ taken) (sym e) place_new in
      omega arith

  climbs : (i : ℕ) → suc i < kept a x + 1 → Dec (suc i < kept a x) → T (le_z (value_at (put taken a x) i) (value_at (put taken a x) (suc i)))
  climbs i h (yes l) =
      rw (value_old i (omega arith), value_old (suc i) l) (g.climbs i (omega (arith, kept-le a x)))
  climbs i h (no f) =
      let e : suc i ≡ kept a x = omega arith in
      let q : value_at (put taken a x) (suc i) ≡ x = subst (λ (k : ℕ). value_at (put taken a x) k ≡ x) (sym e) value_new in
      rw (value_old i (omega arith), q) (kept_passes a x i (sym e))

  put-Good : Good (taken + 1) (put taken a x)
  put-Good = record {
    rises = λ i h. rises i h (dec_lt (suc i) (kept a x));
    recent = λ i h. recent i h (dec_lt i (kept a x));
    ends = ends;
    climbs = λ i h. climbs i h (dec_lt (suc i) (kept a x));
  }

pub Good-pushed : (taken : ℕ) (r : Ring) (x : ℤ) → length r.places ≡ 256 → length r.values ≡ 256 → Good taken r → Good (taken + 1) (pushed taken r x)
Good-pushed taken r x p v g =
    rw pushed-put (put-Good taken (aged taken r) x (aged-Young taken r g) (ap length (aged-places taken r) ∙ p) (ap length (aged-values taken r) ∙ v))

-- THE LAW: a push keeps the open minima good, and the arrays' lengths
pub pushed_good : (taken : ℕ) (r : Ring) (x : ℤ) → length r.places ≡ 256 → length r.values ≡ 256 → good_ring taken r ≡ true
    → good_ring (taken + 1) (pushed taken r x) ≡ true
pushed_good taken r x p v e = is-Good (taken + 1) (pushed taken r x) (Good-pushed taken r x p v (good taken r e))

-- without open minima a ring is good
pub cleared_good : (taken : ℕ) (r : Ring) → good_ring taken (cleared r) ≡ true
cleared_good taken r = is-Good taken (cleared r) (record {
  rises = λ i h. absurd (none (suc i) h);
  recent = λ i h. absurd (none i h);
  ends = λ i h. absurd (let z : ⊥ = omega arith in z);
  climbs = λ i h. absurd (none (suc i) h);
})
  where
    none : (i : ℕ) → i < 0 → ⊥
    none i h = omega arith

pub pushed-places : (taken : ℕ) (r : Ring) (x : ℤ) → length (pushed taken r x).places ≡ length r.places
unfolding pushed
pushed-places taken r x =
    length-set (aged taken r).places (slot (aged taken r) (kept (aged taken r) x)) taken ∙ ap length (aged-places taken r)

pub pushed-values : (taken : ℕ) (r : Ring) (x : ℤ) → length (pushed taken r x).values ≡ length r.values
unfolding pushed
pushed-values taken r x =
    length-set (aged taken r).values (slot (aged taken r) (kept (aged taken r) x)) x ∙ ap length (aged-values taken r)
