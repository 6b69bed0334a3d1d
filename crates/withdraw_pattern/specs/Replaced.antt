-- Words of an array replaced by others.
use Rattle.std.specs.Prelude.{◌++◌, ◌+◌}
use Rattle.lists.specs.Prelude.{List, ℕ, length, take, drop}

-- the array with the words `new` from place `at` on
unfoldable pub replaced : ℕ → List ℕ → List ℕ → List ℕ
replaced at new ws = take at ws ++ new ++ drop (at + length new) ws
