-- The next place with a lower value, by the parent distances alone.
use Rattle.std.specs.Prelude.{◌+◌, ◌≤◌, ◌<◌}
use Rattle.lists.specs.Prelude.{List, ℕ, length, get_or}

-- the distance at j leads to i or to a later place: the value at j is not below the value at i
abbrev pub Reaches : List ℕ → ℕ → ℕ → Type 0
Reaches ds i j = (0 < get_or ds j 0) × (i + get_or ds j 0 ≤ j)

-- j is the first place after i whose distance does not lead to i or later; the length where there
-- is none
pub record IsNext (ds : List ℕ) (i j : ℕ) : Type 0 where
  pub after : i < j
  pub inside : j ≤ length ds
  pub between : (m : ℕ) → i < m → m < j → Reaches ds i m
  pub lower : j < length ds → Reaches ds i j → ⊥
