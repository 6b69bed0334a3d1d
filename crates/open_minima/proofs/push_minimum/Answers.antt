-- `push_minimum` meets its contract: its parts are those of the definition, one after the other.
-- Without the oldest, if it is too old, the ring starts one counter later; the places of those left
-- are before the next one, as those of an accepted ring are.
use Rattle.lists.proofs.Prelude.{pos, get_or, arith}
use Rattle.search_model.proofs.Ring.{kept-le}
use Rattle.open_minima.specs.Pushes.{ring_from}
use Rattle.open_minima.proofs.Pushing.{start_ordered, young_below, is_pushed}
use Rattle.open_minima.proofs.push_minimum.Goals as goal

pub keep-kept-requires : goal.keep-kept-requires
keep-kept-requires c =
    let a = c.args in
    let started = c.drop_oldest-start.ensures in record {
      start_le_next = (start_ordered a.taken a.first a.next a.places.now a.heights.now c.requires.are_counters.0 _ started, c.requires.are_counters.1);
      by_index = young_below a.taken a.first a.next a.places.now a.heights.now c.requires.are_counters.0 _ started c.requires.heights_value;
    }

pub overflow_add-result : goal.overflow_add-result
overflow_add-result c =
    let a = c.args in
    let start = c.drop_oldest-start.result in
    let l = start_ordered a.taken a.first a.next a.places.now a.heights.now c.requires.are_counters.0 start c.drop_oldest-start.ensures in
    let k = kept-le (ring_from start a.next a.places.now a.heights.now) (get_or a.values.now a.i (pos 0)) in
    omega (arith, l, k, c.keep-kept.ensures.at, c.requires.are_counters.0.small)

pub returns : goal.returns
returns c =
    let a = c.args in
    is_pushed a.taken a.first a.next a.places.now a.heights.now c.requires.are_counters.0 _ c.drop_oldest-start.ensures
    (get_or a.values.now a.i (pos 0)) _ _ _ c.keep-kept.ensures c.store_place.ensures c.store_value.ensures
