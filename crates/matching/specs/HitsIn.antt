-- The hits that the words of a hit array hold: two words a hit.
use Rattle.std.specs.Prelude.{◌+◌, ◌*◌}
use Rattle.lists.specs.Prelude.{List, ℕ, get_or, tabulate}

-- hit i
abbrev pub hit_in : List ℕ → ℕ → ℕ × ℕ
hit_in ws i = (get_or ws (2 * i) 0, get_or ws (2 * i + 1) 0)

-- the first n hits
unfoldable pub hits_in : List ℕ → ℕ → List (ℕ × ℕ)
hits_in ws n = tabulate n (hit_in ws)
