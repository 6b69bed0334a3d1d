-- The distances of a window, from those of the whole text.
use Rattle.lists.specs.Prelude.{List, ℕ, last_of}
use Rattle.cartesian.specs.Cartesian.{cut_from}

-- the distances of the last m values, where ds are those of all
abbrev pub suffix_distances : ℕ → List ℕ → List ℕ
suffix_distances m ds = cut_from 0 (last_of m ds)
