-- Cases counted, by numbers of 64 bits.
use Rattle.std.specs.Prelude.{◌≡◌, ◌+◌, ◌%◌, ◌^◌}
use Rattle.lists.specs.Prelude.{cond, ℕ, zero, suc, Option}
use Rattle.test_differences.specs.declared.difference.Difference.{Difference}
use Rattle.test_differences.specs.Difference.{is_nothing}
use Rattle.test_tally.specs.declared.Tally.{Tally}

-- nothing is counted
abbrev pub no_cases : Tally
no_cases = record { cases = 0; failed = 0 }

-- one more case, which failed where something differs
abbrev pub counted : Tally → Option Difference → Tally
counted t d = record {
  cases = (t.cases + 1) % 2 ^ 64;
  failed = cond (is_nothing d) t.failed ((t.failed + 1) % 2 ^ 64);
}

-- the cases of two tallies
abbrev pub joined : Tally → Tally → Tally
joined a b = record { cases = (a.cases + b.cases) % 2 ^ 64; failed = (a.failed + b.failed) % 2 ^ 64 }

-- n cases were counted one after the other, in each of which, by its number from 0 on, something
-- may differ, or nothing, that is of it
abbrev pub IsCounted : (ℕ → Option Difference → Type 0) → Tally → ℕ → Tally → Type 0
IsCounted is_of before zero after = after ≡ before
IsCounted is_of before (suc n) after =
    (t : Tally) × (d : Option Difference) × IsCounted is_of before n t × is_of n d × (after ≡ counted t d)
