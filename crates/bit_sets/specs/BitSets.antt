-- A number of 64 binary digits as a set of numbers below 64: i is in the set where digit i is 1.
use Rattle.std.specs.Prelude.{◌/◌, ◌%◌, ◌^◌}
use Rattle.lists.specs.Prelude.{Bool, List, ℕ, eqb, tabulate, select}

-- is i in the set m
unfoldable pub bit_at : ℕ → ℕ → Bool
bit_at m i = eqb (m / 2 ^ i % 2) 1

-- the members, rising
unfoldable pub bits : ℕ → List ℕ
bits m = select (bit_at m) (tabulate 64 (λ i. i))
