-- What is open before a place of a list of distances, where the walk comes by.
use Rattle.std.specs.Prelude.{◌≡◌, ◌<◌}
use Rattle.lists.specs.Prelude.{true, List, [], ℕ, zero, suc, get_or}
use Rattle.bit_sets.specs.BitSets.{bit_at}
use Rattle.realization.specs.Walk.{leads, opened}

-- how far back each place is that is open after the first i distances, nearest first
unfoldable pub open_distances : List ℕ → ℕ → List ℕ
open_distances ds zero = []
open_distances ds (suc i) = opened (get_or ds i 0) (open_distances ds i)

-- each of the first i distances leads to an open place, or is 0
abbrev pub Led : List ℕ → ℕ → Type 0
Led ds i = (j : ℕ) → j < i → leads (get_or ds j 0) (open_distances ds j) ≡ true

-- a set of numbers below 64 holds the distances that may come next: 0, and how far back each open
-- place is
abbrev pub OpenBits : ℕ → List ℕ → Type 0
OpenBits m opens = (d : ℕ) → d < 64 → bit_at m d ≡ leads d opens
