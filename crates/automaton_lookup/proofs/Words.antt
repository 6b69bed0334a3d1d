-- WHERE THE WORDS OF AN AUTOMATON LIE: place i of the order at i, what it shares at k + i, the
-- number of nodes at 2 k, word f of the record of node n at 2 k + 1 + 16 n + f, and before it,
-- where n is not the root, entry x of its row at 2 k + 16 n + x - 7, for a set of k patterns. An
-- array with the first records has these words up to them.
use Rattle.std.specs.Prelude.{◌≡◌, ◌∷◌, ◌++◌, ◌+◌, ◌-◌, ◌*◌, ◌≤◌, ◌<◌}
use Rattle.lists.proofs.Prelude.{◌∙◌, ap, refl, List, flatten, ℕ, suc, T, length, get_or, length-append}
use Rattle.lists.proofs.Prelude.{get_or-append}
use Rattle.lists.proofs.Prelude.{drop, get_or-drop, get_or_at, get_or-append-add, arith, tabulate}
use Rattle.lists.proofs.Tables.{length-tabulate, get_or-tabulate}
use Rattle.lists.proofs.Parts.{get_or_front}
use Rattle.lists.proofs.Rows.{get_or_rows}
use Rattle.pattern_set.specs.PatternSet.{PatternSet, patterns_of, good_set, IsSet}
use Rattle.pattern_set.proofs.IsSet.{set_good}
use Rattle.automaton_model.specs.Automaton.{nodes, order, shared_at, record_of, entry_of, row_of, node_words, automaton_words}
use Rattle.automaton_model.proofs.Order.{length-order}
use Rattle.automaton_model.proofs.Lengths.{length_automaton, length_row, length_node}
use Rattle.automaton_lookup.specs.Made.{Made}
use Rattle.automaton_lookup.specs.Reads.{Reads}

-- ---- the words

module _ (ps : PatternSet) where
  -- what neighbours share
  abbrev pub shares : List ℕ
  shares = tabulate (length ps) (shared_at ps)

  -- the words before the number of nodes
  abbrev pub numbers : List ℕ
  numbers = order ps ++ shares

  -- those of the nodes, with the row that the root has not
  abbrev all : List ℕ
  all = flatten (tabulate (length (nodes ps)) (node_words ps))

  abbrev pub records : List ℕ
  records = drop 8 all

  pub length-numbers : length numbers ≡ 2 * length ps
  length-numbers = length-append (order ps) shares ∙ (omega (arith, length-order ps, length-tabulate (length ps) (shared_at ps)))

  get_or-order : (i : ℕ) → i < length ps → get_or (automaton_words ps) i 0 ≡ get_or (order ps) i 0
  unfolding automaton_words
  get_or-order i h =
      get_or-append numbers (length (nodes ps) ∷ records) 0 i (omega (arith, length-numbers))
      ∙ get_or-append (order ps) shares 0 i (omega (arith, length-order ps))

  get_or_shared : (i : ℕ) → i < length ps → get_or (automaton_words ps) (length ps + i) 0 ≡ shared_at ps i
  unfolding automaton_words
  get_or_shared i h =
      let p : length ps + i ≡ length (order ps) + i = omega (arith, length-order ps) in
      get_or-append numbers (length (nodes ps) ∷ records) 0 (length ps + i) (omega (arith, length-numbers))
      ∙ ap (λ (q : ℕ). get_or numbers q 0) p
      ∙ get_or-append-add (order ps) shares i 0
      ∙ get_or-tabulate (length ps) (shared_at ps) 0 i h

  get_or_count : get_or (automaton_words ps) (2 * length ps) 0 ≡ length (nodes ps)
  unfolding automaton_words
  get_or_count =
      get_or_at numbers (length (nodes ps)) records 0 (2 * length ps) length-numbers

  -- word j of node n, of which the root's first eight are not there
  get_or_node : (n j i : ℕ) → n < length (nodes ps) → j < 16 → i + 7 ≡ 2 * length ps + 16 * n + j → 2 * length ps < i
      → get_or (automaton_words ps) i 0 ≡ get_or (node_words ps n) j 0
  unfolding automaton_words
  get_or_node n j i h k e l =
      let q = i - suc (2 * length ps) in
      let p : i ≡ length numbers + suc q = omega (arith, length-numbers) in
      let r : 8 + q ≡ 16 * n + j = omega arith in
      ap (λ (q : ℕ). get_or (numbers ++ (length (nodes ps) ∷ records)) q 0) p
      ∙ get_or-append-add numbers (length (nodes ps) ∷ records) (suc q) 0
      ∙ get_or-drop 8 all q 0
      ∙ ap (λ (q : ℕ). get_or all q 0) r
      ∙ get_or_rows (length (nodes ps)) (node_words ps) 0 (length_node ps) n j h k

  get_or_record : (n f : ℕ) → n < length (nodes ps) → f < 8 → get_or (automaton_words ps) (2 * length ps + 1 + 16 * n + f) 0 ≡ get_or (record_of ps n) f 0
  get_or_record n f h k =
      let p : 8 + f ≡ length (row_of ps n) + f = omega (arith, length_row ps n) in
      get_or_node n (8 + f) (2 * length ps + 1 + 16 * n + f) h (omega arith) (omega arith) (omega arith)
      ∙ ap (λ (q : ℕ). get_or (node_words ps n) q 0) p
      ∙ get_or-append-add (row_of ps n) (record_of ps n) f 0

  get_or_row : (n x : ℕ) → 0 < n → n < length (nodes ps) → x < 8 → get_or (automaton_words ps) (2 * length ps + 16 * n + x - 7) 0 ≡ entry_of ps n x
  unfolding row_of
  get_or_row n x z h k =
      get_or_node n x (2 * length ps + 16 * n + x - 7) h (omega arith) (omega arith) (omega arith)
      ∙ get_or-append (row_of ps n) (record_of ps n) 0 x (omega (arith, length_row ps n))
      ∙ get_or-tabulate 8 (entry_of ps n) 0 x k

-- ---- an array with the first records

module _ {set automaton : List ℕ} {k m : ℕ} (r : Made set automaton k m) where
  -- the set is good
  pub made_good : T (good_set (patterns_of set))
  made_good = set_good set r.is_set

  -- the records made lie within the array
  pub made_room : 2 * k + 1 + (16 * m - 8) ≤ length automaton
  made_room = omega (arith, length_automaton (patterns_of set), r.patterns, r.within, r.room)

  -- a word before those of node m is that of the automaton
  made_word : (i : ℕ) → i < 2 * k + 1 + (16 * m - 8) → get_or automaton i 0 ≡ get_or (automaton_words (patterns_of set)) i 0
  made_word i h = get_or_front (2 * k + 1 + (16 * m - 8)) automaton (automaton_words (patterns_of set)) 0 i r.begun h

  pub made_order : (i : ℕ) → i < k → get_or automaton i 0 ≡ get_or (order (patterns_of set)) i 0
  made_order i h = made_word i (omega arith) ∙ get_or-order (patterns_of set) i (omega (arith, r.patterns))

  pub made_shared : (i : ℕ) → i < k → get_or automaton (k + i) 0 ≡ shared_at (patterns_of set) i
  made_shared i h =
      made_word (k + i) (omega arith)
      ∙ ap (λ (q : ℕ). get_or (automaton_words (patterns_of set)) (q + i) 0) r.patterns
      ∙ get_or_shared (patterns_of set) i (omega (arith, r.patterns))

  pub made_count : get_or automaton (2 * k) 0 ≡ length (nodes (patterns_of set))
  made_count =
      made_word (2 * k) (omega arith) ∙ ap (λ (q : ℕ). get_or (automaton_words (patterns_of set)) (2 * q) 0) r.patterns ∙ get_or_count (patterns_of set)

  pub made_field : (n f : ℕ) → n < m → f < 8 → get_or automaton (2 * k + 1 + 16 * n + f) 0 ≡ get_or (record_of (patterns_of set) n) f 0
  made_field n f h l =
      made_word (2 * k + 1 + 16 * n + f) (omega arith)
      ∙ ap (λ (q : ℕ). get_or (automaton_words (patterns_of set)) (2 * q + 1 + 16 * n + f) 0) r.patterns
      ∙ get_or_record (patterns_of set) n f (omega (arith, r.within)) l

  pub made_row : (n x : ℕ) → 0 < n → n < m → x < 8 → get_or automaton (2 * k + 16 * n + x - 7) 0 ≡ entry_of (patterns_of set) n x
  made_row n x z h l =
      made_word (2 * k + 16 * n + x - 7) (omega arith)
      ∙ ap (λ (q : ℕ). get_or (automaton_words (patterns_of set)) (2 * q + 16 * n + x - 7) 0) r.patterns
      ∙ get_or_row (patterns_of set) n x z (omega (arith, r.within)) l

-- the words of the automaton itself
pub words-Made : (set : List ℕ) (k m : ℕ) → IsSet set → k ≡ length (patterns_of set) → 0 < length (patterns_of set) → m ≤ length (nodes (patterns_of set))
    → Made set (automaton_words (patterns_of set)) k m
words-Made set k m g e z l = record { is_set = g; patterns = e; filled = z; within = l; begun = refl; room = omega arith }

-- where the words lie that a view reads
pub made_reads : {set automaton : List ℕ} {k m : ℕ} → Made set automaton k m → Reads set automaton k m
made_reads r =
    record {
      room = made_room r;
      order = made_order r;
      shared = made_shared r;
      count = made_count r;
      field = made_field r;
      row = made_row r;
    }
