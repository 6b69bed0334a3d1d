-- `build_in` tests for room; where there is room, the front and the records are written.
use Rattle.std.specs.Prelude.{◌≡◌, ◌++◌, ◌+◌, ◌-◌, ◌*◌, ◌≤◌, ◌<◌}
use Rattle.lists.proofs.Prelude.{◌∙◌, ap, ℕ, take, length, drop, arith}
use Rattle.automaton_model.specs.Automaton.{automaton_words}
use Rattle.automaton_model.proofs.Lengths.{length_automaton}
use Rattle.pattern_set.specs.PatternSet.{patterns_of}
use Rattle.pattern_set.proofs.MaySearch.{may_search_parts}
use Rattle.set_access.proofs.Laws.{count_le, total_le}
use Rattle.automaton_rows.proofs.Sizes.{nodes_small}
use Rattle.entries.specs.Entries.{first_met, set_conditions}
use Rattle.entries.proofs.Searchable.{set_unmet}
use Rattle.automaton.proofs.Records.{node_at, Grown, Grown-from, whole_over, length_whole}
use Rattle.automaton.proofs.Walk.{root_there}
use Rattle.automaton.proofs.Room.{automaton_fits}
use Rattle.automaton.proofs.Entries.{build_short, build_done}
use Rattle.lists.proofs.Prelude.{rules}
use Rattle.automaton.proofs.build_in.Goals.{After-write_front-count, After-write_records, Else-out-n, Start}
use Rattle.automaton.proofs.build_in.Goals as goal

-- the set may be searched, and so has a pattern
unmet : (s : Start) → first_met (set_conditions s.args.set.now) ≡ 0
unmet s = set_unmet s.args.set.now s.requires.0 s.requires.1

some : (s : Start) → 0 < length (patterns_of s.args.set.now)
some s = (may_search_parts (patterns_of s.args.set.now) s.requires.1).1

-- there is room
room : (c : Else-out-n) → length (automaton_words (patterns_of c.args.set.now)) ≤ length c.args.out.now
room c =
    omega (arith, automaton_fits c.args.set.now c.requires.0 (some (goal.at.Else-out-n c).Start), c.requires.3, c.if-out-n.false)

-- no number is large
sizes : (c : After-write_front-count) → (c.args.k ≤ 64) × (c.write_front-count.result ≤ 4097)
sizes c =
    let ws = c.args.set.now in
    (omega (arith, count_le ws c.requires.0, c.requires.2), omega (arith, nodes_small ws c.requires.0, c.write_front-count.ensures.value))

-- the array with the front
front : (c : After-write_front-count) →
    Grown c.args.set.now c.args.out.now c.write_front-count.new.out c.args.k 0
front c =
    let k = c.args.k in
    let d = c.args.out.now in
    let z = some (goal.at.After-write_front-count c).Start in
    let w = automaton_words (patterns_of c.args.set.now) in
    let e : 2 * k + 1 ≡ node_at k 0 = omega arith in
    Grown-from c.write_front-count.new.out 0 c.requires.0 c.requires.2 z (omega arith) (room (goal.at.After-write_front-count c).Else-out-n)
    (c.write_front-count.ensures.out_after ∙ ap (λ (i : ℕ). take i w ++ drop i d) e)

-- there is a node
rooted : (c : After-write_front-count) → 0 < c.write_front-count.result
rooted c = omega (arith, root_there (front c).made, c.write_front-count.ensures.value)

-- the array at the end
written : (c : After-write_records) →
    let w = automaton_words (patterns_of c.args.set.now) in
    c.write_records.new.out ≡ w ++ drop (length w) c.args.out.now
written c = whole_over (front (goal.at.After-write_records c).After-write_front-count) c.write_records.new.out c.write_records.ensures

-- ---- rules
pub overflow_add-n : goal.overflow_add-n
overflow_add-n c =
    let t = total_le c.args.set.now c.requires.0 in
    let e = c.requires.3 in
    search rules

pub overflow_mul-n : goal.overflow_mul-n
overflow_mul-n c =
    let t = total_le c.args.set.now c.requires.0 in
    let e = c.requires.3 in
    search rules

pub returns-then-out-n : goal.returns-then-out-n
returns-then-out-n c =
    record {
      result_value = (build_short c.args.set.now c.args.out.now (unmet (goal.at.returns-then-out-n c).Start) (omega (arith, c.if-out-n.true, c.requires.3))).0;
      out_after = (build_short c.args.set.now c.args.out.now (unmet (goal.at.returns-then-out-n c).Start) (omega (arith, c.if-out-n.true, c.requires.3))).1;
    }

pub write_front-count-requires : goal.write_front-count-requires
write_front-count-requires c = record {
  set = c.requires.0;
  k_value = (c.requires.2, room (goal.at.write_front-count-requires c).Else-out-n);
}

pub write_records-requires : goal.write_records-requires
write_records-requires c = record {
  made = (front (goal.at.write_records-requires c).After-write_front-count).made;
  count_value = c.write_front-count.ensures.value;
}

pub overflow_mul-result : goal.overflow_mul-result
overflow_mul-result c =
    let s = sizes (goal.at.overflow_mul-result c).After-write_front-count in
    let z = rooted (goal.at.overflow_mul-result c).After-write_front-count in
    search rules

pub overflow_mul-result-2 : goal.overflow_mul-result-2
overflow_mul-result-2 c =
    let s = sizes (goal.at.overflow_mul-result-2 c).After-write_front-count in
    let z = rooted (goal.at.overflow_mul-result-2 c).After-write_front-count in
    search rules

pub overflow_add-result : goal.overflow_add-result
overflow_add-result c =
    let s = sizes (goal.at.overflow_add-result c).After-write_front-count in
    let z = rooted (goal.at.overflow_add-result c).After-write_front-count in
    search rules

pub overflow_sub-result : goal.overflow_sub-result
overflow_sub-result c =
    let s = sizes (goal.at.overflow_sub-result c).After-write_front-count in
    let z = rooted (goal.at.overflow_sub-result c).After-write_front-count in
    search rules

pub shape_of-out : goal.shape_of-out
shape_of-out c =
    ap length (written (goal.at.shape_of-out c).After-write_records)
    ∙ length_whole (patterns_of c.args.set.now) c.args.out.now (room (goal.at.shape_of-out c).Else-out-n)

pub returns : goal.returns
returns c =
    let n = c.write_front-count.result in
    record {
      result_value = (build_done c.args.set.now c.args.out.now (unmet (goal.at.returns c).Start) (omega (arith, c.if-out-n.false, c.requires.3)) n
          (2 * c.args.k + 16 * n - 7)
          c.write_records.new.out c.write_front-count.ensures.value
          (omega (
            arith,
            length_automaton (patterns_of c.args.set.now),
            c.requires.2,
            c.write_front-count.ensures.value,
            rooted (goal.at.returns c).After-write_front-count,
          )) (written (goal.at.returns c).After-write_records)).0;
      out_after = (build_done c.args.set.now c.args.out.now (unmet (goal.at.returns c).Start) (omega (arith, c.if-out-n.false, c.requires.3)) n
          (2 * c.args.k + 16 * n - 7)
          c.write_records.new.out c.write_front-count.ensures.value
          (omega (
            arith,
            length_automaton (patterns_of c.args.set.now),
            c.requires.2,
            c.write_front-count.ensures.value,
            rooted (goal.at.returns c).After-write_front-count,
          )) (written (goal.at.returns c).After-write_records)).1;
    }
