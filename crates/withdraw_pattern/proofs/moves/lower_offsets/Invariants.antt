-- `moves::lower_offsets` moves one word more with each turn, made smaller; those that it has still
-- to move are as they were.
use Rattle.std.specs.Prelude.{◌≡◌, ◌+◌, ◌-◌}
use Rattle.lists.proofs.Prelude.{List, map, ℕ, take, drop}
use Rattle.withdraw_pattern.proofs.Replacing.{turned}
use Rattle.withdraw_pattern.proofs.moves.lower_offsets.Given as goal

-- the words that are moved, made smaller
abbrev pub lowered : List ℕ → ℕ → ℕ → ℕ → List ℕ
lowered ws from n m = map (λ w. w - m) (take n (drop from ws))

abbrev pub invariant-loop-i : goal.invariant-loop-i
invariant-loop-i l = l.words ≡ turned l.at (lowered l.initial.words (l.at + 1) l.n l.m) l.initial.words l.i
