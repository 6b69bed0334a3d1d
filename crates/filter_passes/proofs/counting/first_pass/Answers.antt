-- The tables of the set fingerprint are filled from arrays of zeros.
use Rattle.filter_tables.proofs.Sets.{Empty-zeros}
use Rattle.filter_passes.proofs.counting.first_pass.Goals as goal

pub filled-candidate_tables-requires : goal.filled-candidate_tables-requires
filled-candidate_tables-requires c = record { empty = (Empty-zeros, Empty-zeros) }
