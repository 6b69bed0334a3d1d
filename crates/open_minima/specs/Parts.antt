-- The ring of open minima of a search state, and the parts of what a push does.
use Rattle.std.specs.Prelude.{◌&&◌, ◌+◌}
use Rattle.lists.specs.Prelude.{Bool, true, ℕ, zero, suc, ltb, le_z}
use Rattle.answers.specs.declared.SearchState.{SearchState}
use Rattle.search_model.specs.Ring.{Ring, place_at, value_at}
use Rattle.search_model.specs.Search.{position_of}

-- the ring of a state, whose word `first` counts modulo 256; and the state with this ring
abbrev pub ring_of : SearchState → Ring
ring_of st = (position_of st).ring

abbrev pub with_ring : SearchState → Ring → SearchState
with_ring st r = record st { minima = r.minima; first = r.first; places = r.places; values = r.values }

-- the ring of the first n open minima
abbrev pub front : Ring → ℕ → Ring
front r n = record r { minima = n }

-- does the open minimum after i have a later place and no smaller value
abbrev pub follows : Ring → ℕ → Bool
follows r i = ltb (place_at r i) (place_at r (i + 1)) && le_z (value_at r i) (value_at r (i + 1))

-- does each of the open minima 0, .., n - 1 have its next one follow it
unfoldable pub in_order : Ring → ℕ → Bool
in_order r zero = true
in_order r (suc n) = in_order r n && follows r n
