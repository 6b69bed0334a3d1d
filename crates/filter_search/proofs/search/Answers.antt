-- The tables are filled from arrays of zeros, one call after the other; the search finds them as
-- they were filled.
use Rattle.lists.proofs.Prelude.{ℕ, length-replicate, get_or-replicate}
use Rattle.filter_tables.proofs.Sets.{Empty-zeros}
use Rattle.filter_search.proofs.search.Goals as goal

pub fill_equal-requires : goal.fill_equal-requires
fill_equal-requires c = record {
  set = c.requires.set;
  ranks = c.fill_numbers.ensures.ranks;
  equal_len = (length-replicate {A = ℕ} 64 0, λ r h. get_or-replicate 64 r 0 0 h);
}

pub fill_groups-requires : goal.fill_groups-requires
fill_groups-requires c = record {
  set = c.requires.set;
  equal_ranks = c.fill_equal.ensures;
  grouped_len = (length-replicate {A = ℕ} 64 0, length-replicate {A = ℕ} 64 0);
}

pub fill_comparisons-requires : goal.fill_comparisons-requires
fill_comparisons-requires c = record {
  set = c.requires.set;
  out_len = length-replicate {A = ℕ} 4096 0;
}

pub fill_own_tables-requires : goal.fill_own_tables-requires
fill_own_tables-requires c = record {
  set = c.requires.set;
  ranks = c.fill_numbers.ensures.ranks;
  empty = (Empty-zeros, Empty-zeros);
}

pub fill_fits-requires : goal.fill_fits-requires
fill_fits-requires c = record {
  set = c.requires.set;
  ranks = c.fill_numbers.ensures.ranks;
  empty = Empty-zeros;
}
