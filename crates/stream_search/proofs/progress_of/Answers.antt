-- `progress_of` tells that the values ended exactly if all of them are taken.
use Rattle.lists.proofs.Prelude.{refl, le-leb, lt-leb}
use Rattle.stream_search.proofs.progress_of.Goals as goal

pub returns-then-n-counts : goal.returns-then-n-counts
returns-then-n-counts c = rw (le-leb _ _ c.if-n-counts.true) refl

pub returns-else-n-counts : goal.returns-else-n-counts
returns-else-n-counts c = rw (lt-leb _ _ c.if-n-counts.false) refl
