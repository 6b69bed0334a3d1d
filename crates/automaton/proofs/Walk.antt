-- A WALK OVER THE NODES: what it carries along from the root's child on, and what it says of the
-- words where it stops.
use Rattle.std.specs.Prelude.{◌≡◌, ◌++◌, ◌+◌, ◌-◌, ◌*◌, ◌<◌}
use Rattle.std.specs.Prelude.{is_some, is_none}
use Rattle.lists.proofs.Prelude.{◌∙◌, ap, sym, refl, Bool, true, false, not, Option, None, Some, List, ℕ, length, begins, arith}
use Rattle.pattern_set.specs.PatternSet.{patterns_of}
use Rattle.automaton_model.specs.Automaton.{nodes, first_child, automaton_words}
use Rattle.automaton_model.proofs.Nodes.{node_root}
use Rattle.automaton_lookup.specs.Made.{Made}
use Rattle.automaton_lookup.specs.Places.{end_of, ChildNode}
use Rattle.automaton_lookup.proofs.Words.{made_good}
use Rattle.automaton_records.specs.Words.{record_words}
use Rattle.automaton_records.proofs.Parents.{Child, first_behind}
use Rattle.automaton.specs.declared.checking.Wrong.{Wrong}
use Rattle.automaton.specs.Walk.{Along, Missing, StopsAt}
use Rattle.automaton.proofs.Records.{words_of, begin_at, node_words_lem, begins_not, begins_all}

-- there is a node
pub root_there : {set words : List ℕ} {k m : ℕ} → Made set words k m → 0 < length (nodes (patterns_of set))
root_there {set} m = (node_root (patterns_of set) (made_good m) m.filled).2

-- ---- what is carried along

module _ {set words : List ℕ} {k count : ℕ} (e : count ≡ length (nodes (patterns_of set))) where
  pub Along-start : Made set words k 1 → Along set words k count 0 0 1
  unfolding first_child
  Along-start m =
      let l = root_there m in
      record { made = m; positive = omega arith; part = omega arith; first = omega arith; place = λ h. absurd (let z : ⊥ = omega arith in z) }

  -- a node that is not the first child of its parent is not node 1
  pub Along-place : {parent end n : ℕ} → Along set words k count parent end n → n < count → (p : ℕ) → ChildNode (patterns_of set) p n
      → first_child (patterns_of set) p < n → end ≡ end_of (patterns_of set) (n - 1)
  Along-place {n = n} a h p c l =
      let m : Child (patterns_of set) p n =
      record { good = made_good a.made; filled = a.made.filled; positive = a.positive; within = omega arith; child = c } in
      let z = first_behind m in
      a.place (omega arith)

-- the next node
pub Along-next : {set words : List ℕ} {k count p q n : ℕ} → n < count → ChildNode (patterns_of set) p n → q ≡ end_of (patterns_of set) n
    → Made set words k (n + 1) → Along set words k count p q (n + 1)
Along-next {set} {n = n} h c f m =
    let s : n ≡ n + 1 - 1 = omega arith in
    let l = c.0 in
    record { made = m; positive = omega arith; part = omega arith; first = omega arith; place = λ r. f ∙ ap (end_of (patterns_of set)) s }

-- ---- where it stops

module _ {set words : List ℕ} {k : ℕ} (w : Wrong) (h : 0 < w.node) where
  -- the row and the record of the node are its words
  pub Missing-words : Missing set words k w
      → (w.row ++ record_words w.record ≡ words_of (patterns_of set) w.node) × (16 ≡ length (words_of (patterns_of set) w.node)) × (length w.row ≡ 8)
  Missing-words m = node_words_lem (patterns_of set) w.node w.row (record_words w.record) h m.row m.fields

-- the answer of `is_none`
pub none-result : {A : Type 0} (o : Option A) (b : Bool) → is_some o ≡ not b → b ≡ is_none o
none-result o true e = rw e refl
none-result o false e = rw e refl

-- the words begin with the automaton where it stops at no node
pub begins_where : (set words : List ℕ) (k count : ℕ) → count ≡ length (nodes (patterns_of set)) → (from : ℕ) (o : Option Wrong) → 0 < from
    → StopsAt set words k count from o → is_none o ≡ begins words (automaton_words (patterns_of set))
begins_where set words k count e from None h m = sym (begins_all m e)
begins_where set words k count e from (Some w) h s =
    let positive : 0 < w.node = omega (arith, s.1) in
    let v = Missing-words w positive s.3 in
    sym
    (begins_not s.0 w.node (omega (arith, s.2)) (w.row ++ record_words w.record) (2 * k + 16 * w.node - 7) 16 (begin_at k w.node positive) v.0 v.1
    s.3.differs)
