-- The digits left tell the same number behind those that are taken.
use Rattle.std.specs.Prelude.{◌≡◌, ◌≤◌}
use Rattle.lists.proofs.Prelude.{drop}
use Rattle.hits_input.proofs.Numbers.{told_behind}
use Rattle.hits_input.proofs.read_size.Given as goal

abbrev pub invariant-loop-digit : goal.invariant-loop-digit
invariant-loop-digit l =
    (l.size ≤ l.limit) × (told_behind l.limit 0 l.digits ≡ told_behind l.limit l.size (drop l.digit-index l.digits))
