-- `put_children` meets its contract: the last of the children counted has the place before i
-- (`Counted`), and all of them are put. The place i is one of the same child, or the first of the
-- next one, as it shares more than the head with the place before, or just that. The measure is the
-- number of places left.
use Rattle.std.specs.Prelude.{◌≡◌, ◌∷◌, ◌++◌, ◌+◌, ◌≤◌, ◌<◌}
use Rattle.lists.proofs.Prelude.{◌∙◌, ap, sym, refl, subst, List, [], ℕ, length, get_or, arith}
use Rattle.automaton_lookup.specs.View.{patterns}
use Rattle.automaton_model.specs.Automaton.{head_of, shared_at, children, first_child}
use Rattle.automaton_model.proofs.Children.{children_within}
use Rattle.automaton_model.proofs.Order.{pattern_at}
use Rattle.automaton_lookup.specs.Places.{end_of}
use Rattle.automaton_lookup.proofs.Words.{made_good}
use Rattle.automaton_rows.specs.Rows.{Eight, word_with, with_word}
use Rattle.automaton_rows.proofs.Intervals.{count_none, Counted, count_first, count_new, count_same, count_all}
use Rattle.automaton_rows.proofs.Sizes.{node_some, nodes_small}
use Rattle.automaton_rows.proofs.Rows.{Counted-child, row_more}
use Rattle.lists.proofs.Prelude.{rules}
use Rattle.automaton_rows.proofs.put_children.Invariants.{Puts}
use Rattle.automaton_rows.proofs.put_children.Goals.{After-put_child, Else-end-from, Start, Then-shared_at-node, else-shared_at-node, then-shared_at-node}
use Rattle.automaton_rows.proofs.put_children.Goals as goal

-- the first child is met at the first place
first-met : (c : Else-end-from) →
    Counted (patterns c.args.node.now.records) c.args.node.now.records.made (0 + 1) (c.args.from + 1)
first-met c =
    let ps = patterns c.args.node.now.records in
    let n = c.args.node.now.records.made in
    let r = count_first ps (made_good c.args.node.now.records.begun) c.args.node.now.records.begun.filled n c.args.node.now.number.1 (omega arith) in
    subst (λ (x : ℕ). Counted ps n 1 (x + 1)) (sym c.requires.from_value) r

-- a child of the node has a small number
small : (c : Start) (count : ℕ) → count < children (patterns c.args.node.now.records) c.args.node.now.records.made
    → c.args.first + count ≤ 4097
small c count l =
    let ws = c.args.node.now.records.set.now in
    let w = children_within (patterns c.args.node.now.records) (made_good c.args.node.now.records.begun) c.args.node.now.records.begun.filled
    c.args.node.now.records.made c.args.node.now.number.1 in
    omega (arith, nodes_small ws c.args.node.now.records.begun.is_set, c.requires.first_value.0)

-- the row with one child more
put : (c : Start) (count i v child : ℕ) (row : List ℕ) →
    let ps = patterns c.args.node.now.records in
    let n = c.args.node.now.records.made in
    Counted ps n (count + 1) (i + 1) → v ≡ get_or (pattern_at ps i) c.args.node.now.depth 0 → child ≡ c.args.first + count
    → Puts ps n count row (count + 1) (with_word v (child + 65536) row)
put c count i v child row r e q =
    let ps = patterns c.args.node.now.records in
    let n = c.args.node.now.records.made in
    let g = made_good c.args.node.now.records.begun in
    let w = Counted-child ps g c.args.node.now.records.begun.filled n c.args.node.now.number.1 count i r in
    let x : v ≡ get_or (pattern_at ps i) (length (head_of ps n)) 0 = e ∙ ap (λ (d : ℕ). get_or (pattern_at ps i) d 0) c.args.node.now.deep in
    let y : head_of ps (first_child ps n + count) ≡ head_of ps n ++ (v ∷ []) = w.0 ∙ ap (λ (d : ℕ). head_of ps n ++ (d ∷ [])) (sym x) in
    let z : first_child ps n + count + 65536 ≡ child + 65536 = omega (arith, c.requires.first_value.0) in
    λ f t.
    subst (λ (d : ℕ). Eight (word_with ps n f (count + 1)) (with_word v d row)) z
    (row_more ps g c.args.node.now.records.begun.filled n c.args.node.now.number.1 f count v w.2 y row t)

-- the first child is put
first-put : (c : After-put_child) →
    Puts (patterns c.args.node.now.records) c.args.node.now.records.made 0 c.args.row.now 1 c.put_child.new.row
first-put c =
    let ps = patterns c.args.node.now.records in
    let p = put (goal.at.After-put_child c).Start 0 c.args.from c.next_label.result c.args.first c.args.row.now
    (first-met (goal.at.After-put_child c).Else-end-from) c.next_label.ensures (omega arith) in
    subst (λ (t : List ℕ). Puts ps c.args.node.now.records.made 0 c.args.row.now 1 t) (sym c.put_child.ensures) p

-- another child is met at place i
new-met : (c : Then-shared_at-node) →
    let L = c.loop-i in
    Counted (patterns c.args.node.now.records) c.args.node.now.records.made (L.count + 1) (L.i + 1)
new-met c =
    let L = c.loop-i in
    count_new (patterns c.args.node.now.records) (made_good c.args.node.now.records.begun) c.args.node.now.records.begun.filled c.args.node.now.records.made
    c.args.node.now.number.1 L.count L.i L.invariant.0
    (omega (arith, c.requires.first_value.1, c.loop-i-test.true))
    (omega (arith, c.shared_at.ensures, c.if-shared_at-node.true, c.args.node.now.deep))

pub returns-then-end-from : goal.returns-then-end-from
returns-then-end-from c =
    let ws = c.args.node.now.records.set.now in
    record {
      value = count_none (patterns c.args.node.now.records) (made_good c.args.node.now.records.begun) c.args.node.now.records.begun.filled
          c.args.node.now.records.made c.args.node.now.number.1 (omega arith);
      by_index = λ f e. e;
    }

pub next_label-requires : goal.next_label-requires
next_label-requires c =
    let ps = patterns c.args.node.now.records in
    let n = c.args.node.now.records.made in
    let b = node_some ps n c.args.node.now.number.1 in
    let r = Counted-child ps (made_good c.args.node.now.records.begun) c.args.node.now.records.begun.filled n c.args.node.now.number.1 0 c.args.from
    (first-met (goal.at.next_label-requires c).Else-end-from) in
    record {
      i_lt_k = (omega (arith, c.args.node.now.records.begun.patterns, b.1, c.if-end-from.false), omega (arith, r.1));
    }

pub put_child-requires : goal.put_child-requires
put_child-requires c =
    let r = Counted-child (patterns c.args.node.now.records) (made_good c.args.node.now.records.begun) c.args.node.now.records.begun.filled
    c.args.node.now.records.made c.args.node.now.number.1 0 c.args.from
    (first-met (goal.at.put_child-requires c).Else-end-from) in
    omega (arith, small (goal.at.put_child-requires c).Start 0 r.2)

pub loop-i-init : goal.loop-i-init
loop-i-init c = (first-met (goal.at.loop-i-init c).Else-end-from, omega arith, λ f t. t)

pub shared_at-requires : goal.shared_at-requires
shared_at-requires c =
    let b = node_some (patterns c.args.node.now.records) c.args.node.now.records.made c.args.node.now.number.1 in
    search rules

pub next_label-requires-then-shared_at-node : goal.next_label-requires-then-shared_at-node
next_label-requires-then-shared_at-node c =
    let L = c.loop-i in
    let ps = patterns c.args.node.now.records in
    let b = node_some ps c.args.node.now.records.made c.args.node.now.number.1 in
    let r = Counted-child ps (made_good c.args.node.now.records.begun) c.args.node.now.records.begun.filled c.args.node.now.records.made
    c.args.node.now.number.1 L.count L.i
    (new-met (goal.at.next_label-requires-then-shared_at-node c).Then-shared_at-node) in
    record {
      i_lt_k = (
        omega (arith, c.args.node.now.records.begun.patterns, b.1, c.requires.first_value.1, c.loop-i-test.true),
        omega
            (arith, r.1, c.args.node.now.deep),
      );
    }

pub overflow_add-first : goal.overflow_add-first
overflow_add-first c =
    let L = c.loop-i in
    let r = Counted-child (patterns c.args.node.now.records) (made_good c.args.node.now.records.begun) c.args.node.now.records.begun.filled
    c.args.node.now.records.made c.args.node.now.number.1 L.count L.i
    (new-met (goal.at.overflow_add-first c).Then-shared_at-node) in
    omega (arith, small (goal.at.overflow_add-first c).Start L.count r.2)

pub put_child-requires-then-shared_at-node : goal.put_child-requires-then-shared_at-node
put_child-requires-then-shared_at-node c =
    let L = c.loop-i in
    let r = Counted-child (patterns c.args.node.now.records) (made_good c.args.node.now.records.begun) c.args.node.now.records.begun.filled
    c.args.node.now.records.made c.args.node.now.number.1 L.count L.i
    (new-met (goal.at.put_child-requires-then-shared_at-node c).Then-shared_at-node) in
    omega (arith, small (goal.at.put_child-requires-then-shared_at-node c).Start L.count r.2)

pub overflow_add-count : goal.overflow_add-count
overflow_add-count c =
    let L = c.loop-i in
    omega (arith, L.invariant.1, c.loop-i-test.true)

pub loop-i-preserved : goal.loop-i-preserved
loop-i-preserved c =
    let L = c.loop-i in
    let ps = patterns c.args.node.now.records in
    let n = c.args.node.now.records.made in
    let l : L.i < c.args.end = c.loop-i-test.true in
    elim c.if-shared_at-node.branch [
      | then-shared_at-node w ↦ let r = new-met (record { before = c.before; if-shared_at-node = w.if-shared_at-node }) in
          let p = put (goal.at.loop-i-preserved c).Start L.count L.i w.next_label-then-shared_at-node.result (c.args.first + L.count) L.row r
          w.next_label-then-shared_at-node.ensures refl in (
            subst (λ (x : ℕ). Counted ps n x (L.i + 1)) (sym w.count-is) r,
            omega (arith, w.count-is, L.invariant.1),
            λ f u.
                subst (λ (x : ℕ). Eight (word_with ps n f x) c.if-shared_at-node.row) (sym w.count-is)
                (subst (λ (l : List ℕ). Eight (word_with ps n f (L.count + 1)) l) (sym (w.row-is ∙ w.put_child-then-shared_at-node.ensures))
                (p f (L.invariant.2 f u))),
          )
      | else-shared_at-node w ↦ let o : shared_at ps L.i ≡ length (head_of ps n)
          → ⊥ = λ y. w.if-shared_at-node.false (omega (arith, c.shared_at.ensures, c.args.node.now.deep)) in
          let r = count_same ps (made_good c.args.node.now.records.begun) c.args.node.now.records.begun.filled n c.args.node.now.number.1 L.count L.i
          L.invariant.0
          (omega (arith, c.requires.first_value.1)) o in (
            subst (λ (x : ℕ). Counted ps n x (L.i + 1)) (sym w.count-is) r,
            omega (arith, w.count-is, L.invariant.1),
            λ f u.
                subst (λ (x : ℕ). Eight (word_with ps n f x) c.if-shared_at-node.row) (sym w.count-is)
                (subst (λ (l : List ℕ). Eight (word_with ps n f L.count) l) (sym w.row-is) (L.invariant.2 f u)),
          )
    ]

pub returns : goal.returns
returns c =
    let L = c.loop-i in
    let ps = patterns c.args.node.now.records in
    let all : end_of ps c.args.node.now.records.made ≤ L.i = omega (arith, c.requires.first_value.1, c.loop-i-test.false) in record {
      value = count_all ps (made_good c.args.node.now.records.begun) c.args.node.now.records.begun.filled c.args.node.now.records.made
          c.args.node.now.number.1 L.count L.i L.invariant.0 all;
      by_index = λ f t. L.invariant.2 f (first-put (goal.at.returns c).After-put_child f t);
    }
