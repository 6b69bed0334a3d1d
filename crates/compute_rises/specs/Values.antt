-- The values that a call of a search reads.
use Rattle.lists.specs.Prelude.{ℕ, ℤ}
use Rattle.search_model.specs.Recent.{found_at}
use Rattle.compute_rises.specs.declared.Readings.{Readings}

-- the value at place p
unfoldable pub value_in : Readings → ℕ → ℤ
value_in r = found_at r.start r.recent.now r.values.now
