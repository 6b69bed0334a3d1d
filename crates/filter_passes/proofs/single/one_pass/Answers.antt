-- The tables of the set fingerprint are filled from arrays of zeros, and for the same patterns.
use Rattle.lists.proofs.Prelude.{ap}
use Rattle.filter_tables.proofs.Sets.{Empty-zeros}
use Rattle.filter_windows.specs.Patterns.{patterns}
use Rattle.filter_passes.proofs.single.one_pass.Goals as goal

pub filled-candidate_tables-requires : goal.filled-candidate_tables-requires
filled-candidate_tables-requires c = record { empty = (Empty-zeros, Empty-zeros) }

pub search_places-requires-clause-same : goal.search_places-requires-clause-same
search_places-requires-clause-same c = ap patterns c.filled-candidate_tables.ensures
