-- `are_short` meets its contract: the hit array is too short, or else the second one decides.
use Rattle.std.specs.Prelude.{◌*◌}
use Rattle.lists.proofs.Prelude.{refl, lt-ltb, le-ltb}
use Rattle.stream_search.proofs.are_short.Goals as goal

pub returns-then-hits-k : goal.returns-then-hits-k
returns-then-hits-k c = rw (lt-ltb c.args.hits (2 * c.args.k) c.if-hits-k.true) refl

pub returns : goal.returns
returns c =
    rw (le-ltb c.args.hits (2 * c.args.k) c.if-hits-k.false) c.is_short.ensures
