-- `write_front` meets its contract: the order, what neighbours share and the number of nodes are
-- written one behind the other.
use Rattle.std.specs.Prelude.{◌≡◌, ◌++◌, ◌+◌, ◌*◌, ◌≤◌}
use Rattle.lists.proofs.Prelude.{length, drop, tabulate, arith}
use Rattle.automaton_model.specs.Automaton.{nodes, order, shared_at}
use Rattle.pattern_set.proofs.IsSet.{set_good}
use Rattle.automaton_model.proofs.Lengths.{length_automaton}
use Rattle.pattern_set.specs.PatternSet.{patterns_of}
use Rattle.set_access.proofs.Laws.{count_le}
use Rattle.automaton_rows.proofs.Sizes.{nodes_small}
use Rattle.automaton.proofs.Front.{order_there, length_ordered, order_kept, shared_there, length_shared, front_stored}
use Rattle.automaton.proofs.building.write_front.Goals.{After-count_nodes-count, After-write_order, After-write_shared, Start}
use Rattle.automaton.proofs.building.write_front.Goals as goal

-- there is room for the front
room : (c : Start) → 2 * length (patterns_of c.args.set.now) + 1 ≤ length c.args.out.now
room c = omega (arith, c.requires.k_value.1, length_automaton (patterns_of c.args.set.now))

-- the order is written
ordered : (c : After-write_order) →
    let ps = patterns_of c.args.set.now in
    c.write_order.new.out ≡ order ps ++ drop (length ps) c.args.out.now
ordered c = rw c.of-patterns.ensures at c.write_order.ensures

-- and behind it what neighbours share
shared : (c : After-write_shared) →
    let ps = patterns_of c.args.set.now in
    c.write_shared.new.out ≡ order ps ++ tabulate (length ps) (shared_at ps) ++ drop (2 * length ps) c.write_order.new.out
shared c = rw c.of-patterns.ensures at c.write_shared.ensures

-- the array is as long as it was
kept : (c : After-write_shared) → length c.write_shared.new.out ≡ length c.args.out.now
kept c =
    length_shared (patterns_of c.args.set.now) c.args.out.now c.write_order.new.out (room (goal.at.After-write_shared c).Start)
    (ordered (goal.at.After-write_shared c).After-write_order)
    c.write_shared.new.out (shared c)

-- the nodes are counted
counted : (c : After-count_nodes-count) → c.count_nodes-count.result ≡ length (nodes (patterns_of c.args.set.now))
counted c = rw c.of-patterns.ensures at c.count_nodes-count.ensures

pub write_order-requires : goal.write_order-requires
write_order-requires c = record {
  set_in_bounds = rw c.of-patterns.ensures (omega (arith, room (goal.at.write_order-requires c).Start));
}

pub write_shared-requires : goal.write_shared-requires
write_shared-requires c =
    let ps = patterns_of c.args.set.now in
    let d = c.args.out.now in
    let o = c.write_order.new.out in
    let r = room (goal.at.write_shared-requires c).Start in
    let e = ordered (goal.at.write_shared-requires c).After-write_order in
    let l = length_ordered ps d o r e in
    record {
      has_order = rw c.of-patterns.ensures (order_there ps d o r e);
      set_in_bounds = rw c.of-patterns.ensures (omega (arith, l, r));
    }

pub count_nodes-count-requires : goal.count_nodes-count-requires
count_nodes-count-requires c =
    let ps = patterns_of c.args.set.now in
    let d = c.args.out.now in
    let o = c.write_order.new.out in
    let p = c.write_shared.new.out in
    let r = room (goal.at.count_nodes-count-requires c).Start in
    let e = ordered (goal.at.count_nodes-count-requires c).After-write_order in
    let f = shared (goal.at.count_nodes-count-requires c).After-write_shared in
    record {
      good = rw c.of-patterns.ensures (set_good c.args.set.now c.requires.set);
      has_order = rw c.of-patterns.ensures (order_kept ps d o r e p f);
      has_shared = rw c.of-patterns.ensures (shared_there ps d o r e p f);
    }

pub overflow_cast-out : goal.overflow_cast-out
overflow_cast-out c =
    omega (arith, nodes_small c.args.set.now c.requires.set, counted (goal.at.overflow_cast-out c).After-count_nodes-count)

pub overflow_mul-out : goal.overflow_mul-out
overflow_mul-out c = omega (arith, count_le c.args.set.now c.requires.set, c.requires.k_value.0)

pub offset_bounds-out-k : goal.offset_bounds-out-k
offset_bounds-out-k c = omega (arith, count_le c.args.set.now c.requires.set, c.requires.k_value.0)

pub bounds-out-k : goal.bounds-out-k
bounds-out-k c =
    omega (arith, kept (goal.at.bounds-out-k c).After-write_shared, room (goal.at.bounds-out-k c).Start, c.requires.k_value.0)

pub returns : goal.returns
returns c = record {
  value = counted (goal.at.returns c).After-count_nodes-count;
  out_after = front_stored (patterns_of c.args.set.now) c.args.out.now c.write_order.new.out (room (goal.at.returns c).Start)
      (ordered (goal.at.returns c).After-write_order)
      c.write_shared.new.out (shared (goal.at.returns c).After-write_shared)
      c.args.k c.count_nodes-count.result c.requires.k_value.0 (counted (goal.at.returns c).After-count_nodes-count);
}
