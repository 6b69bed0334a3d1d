-- `is_old` meets its contract: the sum does not overflow, and on each way the test taken is that of
-- the definition.
use Rattle.std.specs.Prelude.{◌+◌}
use Rattle.lists.proofs.Prelude.{refl, le-leb, lt-leb}
use Rattle.open_minima.proofs.is_old.Goals as goal

pub returns-then-place-taken : goal.returns-then-place-taken
returns-then-place-taken c = rw (le-leb (c.args.place + 256) c.args.taken c.if-place-taken.true) refl

pub returns-else-place-taken : goal.returns-else-place-taken
returns-else-place-taken c = rw (lt-leb (c.args.place + 256) c.args.taken c.if-place-taken.false) refl
