-- `is_front` meets its contract: a part that differs decides, and where order and shared lengths
-- are right the nodes can be counted.
use Rattle.std.specs.Prelude.{◌≡◌}
use Rattle.lists.proofs.Prelude.{◌∙◌, sym, refl, true, arith, not-false}
use Rattle.lists.proofs.Same.{true-same}
use Rattle.pattern_set.specs.PatternSet.{patterns_of}
use Rattle.pattern_set.proofs.IsSet.{set_good}
use Rattle.set_access.proofs.Laws.{count_le}
use Rattle.automaton.proofs.Front.{same_order, same_shares, front_short, front_unordered, front_unshared, front_counted}
use Rattle.lists.proofs.Prelude.{rules}
use Rattle.automaton.proofs.checking.is_front.Goals.{After-is_order, After-is_shared, Else-not-is_order, Else-not-is_shared}
use Rattle.automaton.proofs.checking.is_front.Goals as goal

-- what the tests tell
order-tested : (c : After-is_order) → c.is_order.result ≡ same_order (patterns_of c.args.set.now) c.args.words.now c.args.k c.requires.k_value
order-tested c = rw c.of-patterns.ensures at c.is_order.ensures

shares-tested : (c : After-is_shared) → c.is_shared.result ≡ same_shares (patterns_of c.args.set.now) c.args.words.now c.args.k c.requires.k_value
shares-tested c = rw c.of-patterns.ensures at c.is_shared.ensures

order-right : (c : Else-not-is_order) → same_order (patterns_of c.args.set.now) c.args.words.now c.args.k c.requires.k_value ≡ true
order-right c = sym (order-tested (goal.at.Else-not-is_order c).After-is_order) ∙ not-false _ c.if-not-is_order.false-raw

shares-right : (c : Else-not-is_shared) → same_shares (patterns_of c.args.set.now) c.args.words.now c.args.k c.requires.k_value ≡ true
shares-right c = sym (shares-tested (goal.at.Else-not-is_shared c).After-is_shared) ∙ not-false _ c.if-not-is_shared.false-raw

pub overflow_mul-k : goal.overflow_mul-k
overflow_mul-k c =
    let h = count_le c.args.set.now c.requires.set in
    search rules

pub overflow_add-k : goal.overflow_add-k
overflow_add-k c =
    let h = count_le c.args.set.now c.requires.set in
    search rules

pub returns-then-words-k : goal.returns-then-words-k
returns-then-words-k c =
    sym (front_short (patterns_of c.args.set.now) c.args.words.now c.args.k c.requires.k_value c.if-words-k.true)

pub is_order-requires : goal.is_order-requires
is_order-requires c = record {
  set_in_bounds = rw c.of-patterns.ensures (omega (arith, c.requires.k_value, c.if-words-k.false));
}

pub returns-then-not-is_order : goal.returns-then-not-is_order
returns-then-not-is_order c =
    sym
    (front_unordered (patterns_of c.args.set.now) c.args.words.now c.args.k c.requires.k_value c.if-words-k.false
    (sym (order-tested (goal.at.returns-then-not-is_order c).After-is_order) ∙ c.if-not-is_order.true))

pub is_shared-requires : goal.is_shared-requires
is_shared-requires c = record {
  has_order = rw c.of-patterns.ensures (true-same _ _ (order-right (goal.at.is_shared-requires c).Else-not-is_order));
  set_in_bounds = rw c.of-patterns.ensures (omega (arith, c.requires.k_value, c.if-words-k.false));
}

pub returns-then-not-is_shared : goal.returns-then-not-is_shared
returns-then-not-is_shared c =
    sym
    (front_unshared (patterns_of c.args.set.now) c.args.words.now c.args.k c.requires.k_value c.if-words-k.false
    (order-right (goal.at.returns-then-not-is_shared c).Else-not-is_order)
    (sym (shares-tested (goal.at.returns-then-not-is_shared c).After-is_shared) ∙ c.if-not-is_shared.true))

pub count_nodes-requires : goal.count_nodes-requires
count_nodes-requires c = record {
  good = rw c.of-patterns.ensures (set_good c.args.set.now c.requires.set);
  has_order = rw c.of-patterns.ensures (true-same _ _ (order-right (goal.at.count_nodes-requires c).Else-not-is_order));
  has_shared = rw c.of-patterns.ensures (true-same _ _ (shares-right (goal.at.count_nodes-requires c).Else-not-is_shared));
}

pub returns : goal.returns
returns c =
    front_counted (patterns_of c.args.set.now) c.args.words.now c.args.k c.requires.k_value c.if-words-k.false
    (order-right (goal.at.returns c).Else-not-is_order)
    (shares-right (goal.at.returns c).Else-not-is_shared)
    _ c.count_nodes.result refl (rw c.of-patterns.ensures at c.count_nodes.ensures)
