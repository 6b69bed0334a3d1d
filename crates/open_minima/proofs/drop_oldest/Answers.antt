-- `drop_oldest` meets its contract: what is added to the counter is 1 exactly where something is
-- open and the place of the oldest is too old.
use Rattle.std.specs.Prelude.{◌+◌}
use Rattle.lists.proofs.Prelude.{ap, ℕ, arith, lt-ltb, le-ltb}
use Rattle.open_minima.proofs.Pushing.{old_one}
use Rattle.open_minima.proofs.drop_oldest.Goals as goal

pub returns-then-first-next : goal.returns-then-first-next
returns-then-first-next c =
    let a = c.args in
    rw (le-ltb a.first a.next (omega (arith, c.if-first-next.true))) (omega arith)

pub overflow_add-result : goal.overflow_add-result
overflow_add-result c =
    omega (arith, c.requires.ordered, c.requires.small, old_one c.args.taken _ _ c.is_old.ensures)

pub returns : goal.returns
returns c =
    rw (lt-ltb c.args.first c.args.next c.if-first-next.false) (ap (λ (k : ℕ). c.args.first + k) c.is_old.ensures)
