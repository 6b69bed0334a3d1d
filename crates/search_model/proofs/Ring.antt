-- The ring of open minima: its slots, the ring without its oldest, and a push as what it puts on
-- top.
use Rattle.std.specs.Prelude.{◌≡◌, ◌+◌, ◌-◌, ◌%◌, ◌≤◌, ◌<◌}
use Rattle.lists.proofs.Prelude.{◌∙◌, ap, refl, Bool, true, false, cond, ℕ, suc, ℤ, le_z, set, mod-add-mod, arith}
use Rattle.lists.proofs.LastBelow.{last_below-le}
use Rattle.search_model.specs.Ring.{Ring, slot, value_at, is_old, aged, kept, pushed}

-- ---- slots

pub slot-lt : (r : Ring) (i : ℕ) → slot r i < 256
slot-lt r i = omega arith

-- 256 slots in a row are different
pub slots_differ : (r : Ring) (i n : ℕ) → i < n → n < 256 → slot r i ≡ slot r n → ⊥
slots_differ r i n h k e = omega arith

-- ---- the oldest

-- without the oldest, or as it is
abbrev pub without : Ring → Bool → Ring
without r old = record {
  minima = cond old (r.minima - 1) r.minima;
  first = cond old ((r.first + 1) % 256) r.first;
  places = r.places;
  values = r.values;
}

pub aged-without : (taken : ℕ) (r : Ring) → aged taken r ≡ without r (is_old taken r)
unfolding aged
aged-without taken r = go (is_old taken r)
  where
    go : (b : Bool) → cond b (without r true) r ≡ without r b
    go true = refl
    go false = refl

-- the arrays stay
pub aged-places : (taken : ℕ) (r : Ring) → (aged taken r).places ≡ r.places
aged-places taken r = ap (λ (a : Ring). a.places) (aged-without taken r)

pub aged-values : (taken : ℕ) (r : Ring) → (aged taken r).values ≡ r.values
aged-values taken r = ap (λ (a : Ring). a.values) (aged-without taken r)

-- without the oldest, the slots are the next ones
pub slot_next : (r : Ring) (i : ℕ) → slot (without r true) i ≡ slot r (suc i)
slot_next r i = mod-add-mod (r.first + 1) 256 i ∙ ap (λ (k : ℕ). k % 256) (omega arith)

-- ---- the push

pub kept-le : (a : Ring) (x : ℤ) → kept a x ≤ a.minima
unfolding kept
kept-le a x = last_below-le (λ i. le_z (value_at a i) x) a.minima

-- the new value on top of those that it does not close
abbrev pub put : ℕ → Ring → ℤ → Ring
put taken a x =
    let n = kept a x in
    record { minima = n + 1; first = a.first; places = set a.places (slot a n) taken; values = set a.values (slot a n) x }

pub pushed-put : (taken : ℕ) (r : Ring) (x : ℤ) → pushed taken r x ≡ put taken (aged taken r) x
unfolding pushed
pushed-put taken r x = refl
