-- From the end to the front: the values from place i on are written, and next holds the next lower
-- place of each. The value at i - 1 is one more than the value at its next lower place, which is
-- written already, or 0 where there is none.
use Rattle.std.specs.Prelude.{◌≡◌, ◌++◌, ◌≤◌, ◌<◌}
use Rattle.lists.proofs.Prelude.{List, ℕ, ℤ, length, get_or, take, drop}
use Rattle.compute_realization.specs.NextLower.{IsNext}
use Rattle.compute_realization.proofs.Values.{written}
use Rattle.compute_realization.proofs.least_realization.Given as goal

-- before the turn that writes place i - 1
pub record Writing (ds : List ℕ) (before out : List ℤ) (next : List ℕ) (i : ℕ) : Type 0 where
  -- the values from place i on are written, and the rest is as it was
  pub values : out ≡ take i before ++ drop i (written ds before)
  -- and next, which is as long as it was, has the next lower places from place i on
  pub sized_next : length next ≡ 256
  pub nexts : (k : ℕ) → i ≤ k → k < length ds → IsNext ds k (get_or next k 0)

abbrev pub invariant-loop-i : goal.invariant-loop-i
invariant-loop-i l = Writing l.ds l.initial.out l.out l.next l.i
