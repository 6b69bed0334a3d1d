-- The ring of open minima by two counters, and what a push leaves in the parts that a caller lends.
use Rattle.std.specs.Prelude.{◌≡◌, ◌+◌, ◌-◌, ◌%◌, ◌≤◌}
use Rattle.lists.specs.Prelude.{List, ℕ, ℤ}
use Rattle.search_model.specs.Ring.{Ring, kept, back, distance_of, pushed}
use Rattle.open_minima.specs.declared.Kept.{Kept}
use Rattle.open_minima.specs.declared.Pushed.{Pushed}

-- the ring that the parts make
abbrev pub ring_at : ℕ → ℕ → List ℕ → List ℤ → Ring
ring_at minima first places values = record { minima = minima; first = first; places = places; values = values }

-- the open minima from the counter `first` on to before the counter `next`; counter c lies in slot
-- c mod 256
abbrev pub ring_from : ℕ → ℕ → List ℕ → List ℤ → Ring
ring_from first next places values = ring_at (next - first) (first % 256) places values

-- the counters of a search that has taken so many values; where they are equal, no minimum is open
pub record AreCounters (taken first next : ℕ) : Type 0 where
  pub ordered : first ≤ next
  pub small : next ≤ taken + 512

-- what is kept of the ring from the counter `start` on, and the distance to the newest that is
pub record IsKept (taken start : ℕ) (r : Ring) (x : ℤ) (k : Kept) : Type 0 where
  pub at : k.at ≡ start + kept r x
  pub distance : k.distance ≡ back taken r (kept r x)

-- what the push of x onto the ring leaves in the lent arrays, and what it answers
pub record IsPushed (taken : ℕ) (r : Ring) (x : ℤ) (places : List ℕ) (values : List ℤ) (p : Pushed) : Type 0 where
  pub ring : ring_from p.first p.next places values ≡ pushed taken r x
  pub counters : AreCounters (taken + 1) p.first p.next
  pub distance : p.distance ≡ distance_of taken r x
