-- `is_automaton` meets its contract: with the front the number of nodes is known, so that the
-- length can be tested, and then the records.
use Rattle.std.specs.Prelude.{◌≡◌, ◌+◌, ◌*◌, ◌<◌, ◌≤◌}
use Rattle.lists.proofs.Prelude.{◌∙◌, sym, length, get_or, take, arith, not-false}
use Rattle.lists.proofs.Same.{true-same}
use Rattle.automaton_model.specs.Automaton.{nodes, automaton_words}
use Rattle.automaton_model.proofs.Lengths.{length_automaton}
use Rattle.pattern_set.specs.PatternSet.{patterns_of}
use Rattle.pattern_set.proofs.IsSet.{set_good}
use Rattle.automaton_model.proofs.Nodes.{node_root}
use Rattle.set_access.proofs.Laws.{count_le}
use Rattle.automaton_rows.proofs.Sizes.{nodes_small}
use Rattle.automaton.proofs.Entries.{front_differs, words_short, front_fits, front_count, front-Made}
use Rattle.lists.proofs.Prelude.{rules}
use Rattle.automaton.proofs.is_automaton.Goals.{After-len-k, Else-not-is_front}
use Rattle.automaton.proofs.is_automaton.Goals as goal

-- the words have the front
front : (c : Else-not-is_front) →
    let k = c.len-k.result in
    take (2 * k + 1) c.args.words.now ≡ take (2 * k + 1) (automaton_words (patterns_of c.args.set.now))
front c = true-same _ _ (sym c.is_front.ensures ∙ not-false _ c.if-not-is_front.false-raw)

-- and so the number of nodes
nodes-known : (c : Else-not-is_front) → get_or c.args.words.now (2 * c.len-k.result) 0 ≡ length (nodes (patterns_of c.args.set.now))
nodes-known c =
    front_count c.args.set.now c.args.words.now c.requires.set c.requires.nonzero c.len-k.result (rw c.of.ensures at c.len-k.ensures.count)
    (front c)

-- and neither number is large
sizes : (c : After-len-k) → c.len-k.result ≤ 64
sizes c = omega (arith, count_le c.args.set.now c.requires.set, (rw c.of.ensures at c.len-k.ensures.count))

few : (c : Else-not-is_front) → get_or c.args.words.now (2 * c.len-k.result) 0 ≤ 4097
few c =
    omega (arith, nodes_small c.args.set.now c.requires.set, nodes-known c)

-- there is a node
rooted : (c : Else-not-is_front) → 0 < get_or c.args.words.now (2 * c.len-k.result) 0
rooted c =
    omega (arith, nodes-known c, (node_root (patterns_of c.args.set.now) (set_good c.args.set.now c.requires.set) c.requires.nonzero).2)

pub is_front-requires : goal.is_front-requires
is_front-requires c = record {
  set = c.requires.set;
  k_value = (rw c.of.ensures at c.len-k.ensures.count);
}

pub returns-then-not-is_front : goal.returns-then-not-is_front
returns-then-not-is_front c =
    sym
    (front_differs c.args.set.now c.args.words.now c.requires.set c.requires.nonzero c.len-k.result (rw c.of.ensures at c.len-k.ensures.count)
    (sym c.is_front.ensures ∙ c.if-not-is_front.true))

pub overflow_mul-k : goal.overflow_mul-k
overflow_mul-k c =
    let h = sizes (goal.at.overflow_mul-k c).After-len-k in
    search rules

pub offset_bounds-words-k : goal.offset_bounds-words-k
offset_bounds-words-k c =
    let h = sizes (goal.at.offset_bounds-words-k c).After-len-k in
    search rules

pub bounds-words-k : goal.bounds-words-k
bounds-words-k c =
    omega (
      arith,
      front_fits c.args.set.now c.args.words.now c.requires.set c.requires.nonzero c.len-k.result (rw c.of.ensures at c.len-k.ensures.count)
          (front (goal.at.bounds-words-k c).Else-not-is_front),
    )

pub overflow_mul-count : goal.overflow_mul-count
overflow_mul-count c =
    let h = sizes (goal.at.overflow_mul-count c).After-len-k in
    let n = few (goal.at.overflow_mul-count c).Else-not-is_front in
    let z = rooted (goal.at.overflow_mul-count c).Else-not-is_front in
    search rules

pub overflow_add-k : goal.overflow_add-k
overflow_add-k c =
    let h = sizes (goal.at.overflow_add-k c).After-len-k in
    let n = few (goal.at.overflow_add-k c).Else-not-is_front in
    let z = rooted (goal.at.overflow_add-k c).Else-not-is_front in
    search rules

pub overflow_sub-k : goal.overflow_sub-k
overflow_sub-k c =
    let h = sizes (goal.at.overflow_sub-k c).After-len-k in
    let n = few (goal.at.overflow_sub-k c).Else-not-is_front in
    let z = rooted (goal.at.overflow_sub-k c).Else-not-is_front in
    search rules

pub returns-then-words-k : goal.returns-then-words-k
returns-then-words-k c =
    sym
    (words_short (patterns_of c.args.set.now) c.args.words.now
    (omega (
      arith,
      c.if-words-k.true,
      length_automaton (patterns_of c.args.set.now),
      nodes-known (goal.at.returns-then-words-k c).Else-not-is_front,
      rooted (goal.at.returns-then-words-k c).Else-not-is_front,
      (rw c.of.ensures at c.len-k.ensures.count),
    )))

pub are_records-requires : goal.are_records-requires
are_records-requires c = record {
  made = front-Made c.args.set.now c.args.words.now c.requires.set c.requires.nonzero c.len-k.result (rw c.of.ensures at c.len-k.ensures.count)
      (front (goal.at.are_records-requires c).Else-not-is_front)
      (omega (
        arith,
        c.if-words-k.false,
        length_automaton (patterns_of c.args.set.now),
        nodes-known (goal.at.are_records-requires c).Else-not-is_front,
        rooted (goal.at.are_records-requires c).Else-not-is_front,
        (rw c.of.ensures at c.len-k.ensures.count),
      ));
  count_value = nodes-known (goal.at.are_records-requires c).Else-not-is_front;
}

pub returns : goal.returns
returns c = c.are_records.ensures
