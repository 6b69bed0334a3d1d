-- The first hit of a text, through the entry's definition. Document 02, 2.5: It must not read on
-- after it.
use Rattle.std.specs.Prelude.{◌≡◌, ◌≤◌}
use Rattle.lists.specs.Prelude.{List, ℕ, suc, ℤ, length, take}
use Rattle.entries.specs.Entries.{told, first_entry}

-- THE FIRST HIT THEOREM: the answer depends on nothing behind the hit's last place p. Another text
-- that agrees with the text up to and with p, and is not too long, has the same answer
abbrev pub FirstHitTheorem : Type 0
FirstHitTheorem = (ws automaton : List ℕ) (text other : List ℤ) (p j n : ℕ) → told (0, 0, 0, 0) (first_entry ws automaton text) ≡ (0, (1, p, j, n))
    → length other ≤ 1048576 → take (suc p) other ≡ take (suc p) text → told (0, 0, 0, 0) (first_entry ws automaton other) ≡ (0, (1, p, j, n))
