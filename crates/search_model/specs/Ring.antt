-- The ring of open minima: what it means, when it is accepted, and how a value is pushed. Document
-- 01: A search state; refusal 8. Document 02, 2.2.
use Rattle.std.specs.Prelude.{◌&&◌, ◌||◌, ◌+◌, ◌-◌, ◌%◌}
use Rattle.lists.specs.Prelude.{Bool, cond, List, ℕ, zero, suc, pred, eqb, leb, ltb, ℤ, pos, le_z, get_or, set, tabulate, last_below}
use Rattle.lists.specs.Prelude.{all}

-- how many minima are open, the slot of the oldest, and the places and values that the 256 slots
-- hold
pub record Ring : Type 0 where
  pub minima : ℕ
  pub first : ℕ
  pub places : List ℕ
  pub values : List ℤ

-- the slot of the open minimum i, the oldest being 0
abbrev pub slot : Ring → ℕ → ℕ
slot r i = (r.first + i) % 256

abbrev pub place_at : Ring → ℕ → ℕ
place_at r i = get_or r.places (slot r i) 0

abbrev pub value_at : Ring → ℕ → ℤ
value_at r i = get_or r.values (slot r i) (pos 0)

-- ---- accepted rings

-- rising places among the last 256 of so many values taken, the newest that of the last value, with
-- values that never fall
unfoldable pub good_ring : ℕ → Ring → Bool
good_ring taken r =
    all (λ i. ltb (place_at r i) (place_at r (suc i)) && le_z (value_at r i) (value_at r (suc i))) (tabulate (pred r.minima) (λ i. i))
    && all (λ i. leb taken (place_at r i + 256)) (tabulate r.minima (λ i. i))
    && (eqb r.minima 0 || eqb (suc (place_at r (pred r.minima))) taken)

-- ---- one value more, the next place being `taken`

-- is the oldest open minimum not among the last 256 any more once the next value is taken
abbrev pub is_old : ℕ → Ring → Bool
is_old taken r = ltb 0 r.minima && leb (place_at r 0 + 256) taken

-- without it
unfoldable pub aged : ℕ → Ring → Ring
aged taken r = cond (is_old taken r) (record { minima = r.minima - 1; first = slot r 1; places = r.places; values = r.values }) r

-- how many open minima are not above the value: the others are closed
unfoldable pub kept : Ring → ℤ → ℕ
kept r x = last_below (λ i. le_z (value_at r i) x) r.minima

-- from the next place back to the open minimum i - 1; 0 where i is 0
abbrev pub back : ℕ → Ring → ℕ → ℕ
back taken r zero = 0
back taken r (suc i) = taken - place_at r i

-- the distance of the next value
unfoldable pub distance_of : ℕ → Ring → ℤ → ℕ
distance_of taken r x = back taken (aged taken r) (kept (aged taken r) x)

-- the ring with the value taken: what is too old is dropped, then those above it are closed, then
-- it is pushed
unfoldable pub pushed : ℕ → Ring → ℤ → Ring
pushed taken r x =
    let a = aged taken r in
    let n = kept a x in
    record { minima = n + 1; first = a.first; places = set a.places (slot a n) taken; values = set a.values (slot a n) x }

-- the ring without open minima
abbrev pub cleared : Ring → Ring
cleared r = record { minima = 0; first = r.first; places = r.places; values = r.values }
