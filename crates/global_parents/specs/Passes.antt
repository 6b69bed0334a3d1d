-- The check of a window by global parents. Document 01 (and 000): A window has the shape exactly if
-- at each i the reading at the global parent is below that at i, or equal to it with the parent not
-- to the right of i.
use Rattle.std.specs.Prelude.{◌&&◌, ◌||◌, ◌<◌}
use Rattle.lists.specs.Prelude.{Bool, List, ℕ, leb, ℤ, pos, le_z, lt_z, length, get_or, tabulate, all}
use Rattle.global_parents.specs.GlobalParents.{global_parent}

-- is the value at the global parent g below the value at i, or equal to it with the parent not to
-- the right of i
unfoldable pub passes_at : List ℤ → ℕ → ℕ → Bool
passes_at xs g i =
    let a = get_or xs g (pos 0) in
    let b = get_or xs i (pos 0) in
    lt_z a b || (le_z a b && le_z b a && leb g i)

-- every value of a window passes the comparison with its global parent
unfoldable pub passes : List ℕ → List ℤ → Bool
passes ds xs = all (λ i. passes_at xs (global_parent ds i) i) (tabulate (length ds) (λ i. i))

-- every parent is a place
abbrev pub ParentsArePlaces : List ℕ → Type 0
ParentsArePlaces parents = (i : ℕ) → i < length parents → get_or parents i 0 < length parents
