-- The numbers of equal patterns side by side. Patterns are taken by rank in the order of hits.
use Rattle.std.specs.Prelude.{◌≡◌, ◌+◌, ◌/◌, ◌%◌, ◌≤◌, ◌<◌}
use Rattle.lists.specs.Prelude.{List, map, ℕ, get_or, take, drop}
use Rattle.bit_sets.specs.BitSets.{bits}

-- for each rank r below k its word tells where the numbers of the patterns that equal that of rank
-- r begin in the table, and 64 times how many they are; they lie there, lower rank first
abbrev pub Groups : ℕ → List ℕ → List ℕ → List ℕ → List ℕ → Type 0
Groups k numbers equal grouped words =
    (r : ℕ) → r < k →
    let word = get_or words r 0 in
    (word % 64 + word / 64 ≤ 64) × (take (word / 64) (drop (word % 64) grouped) ≡ map (λ s. get_or numbers s 0) (bits (get_or equal r 0)))
