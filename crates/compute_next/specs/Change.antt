-- A list of distances that is changed at one place, and has zeros behind it.
use Rattle.std.specs.Prelude.{◌∷◌, ◌++◌, ◌-◌}
use Rattle.lists.specs.Prelude.{Option, None, Some, List, ℕ, suc, length, take, replicate}
use Rattle.compute_next.specs.declared.Change.{Change}

-- the list with e at place i, and 0 behind it
abbrev pub replaced : List ℕ → ℕ → ℕ → List ℕ
replaced ds i e = take i ds ++ (e ∷ replicate (length ds - suc i) 0)

-- the list that a change makes of it
abbrev pub changed : List ℕ → Option Change → Option (List ℕ)
changed ds None = None
changed ds (Some c) = Some (replaced ds c.place c.distance)
