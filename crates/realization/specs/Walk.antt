-- A walk over a list of distances that keeps how far back each open place is, nearest first. It
-- accepts exactly the realizable lists (law `realizable-walk`), and is how the code decides.
use Rattle.std.specs.Prelude.{◌&&◌, ◌∷◌}
use Rattle.lists.specs.Prelude.{Bool, true, List, [], map, ℕ, zero, suc, eqb, leb, any, select}

-- a distance leads to an open place, or, where it is 0, to none
abbrev pub leads : ℕ → List ℕ → Bool
leads zero opens = true
leads (suc d) opens = any (eqb (suc d)) opens

-- what is open one place on: the new place, and what is not nearer than the place it leads to
abbrev pub opened : ℕ → List ℕ → List ℕ
opened zero opens = 1 ∷ []
opened (suc d) opens = 1 ∷ map suc (select (leb (suc d)) opens)

unfoldable pub walk : List ℕ → List ℕ → Bool
walk opens [] = true
walk opens (d ∷ ds) = leads d opens && walk (opened d opens) ds
