-- THE NODES, ONE AFTER THE OTHER behind the front: an array that is grown by the words of one has
-- one node more, and words that differ in one do not begin with the automaton.
use Rattle.std.specs.Prelude.{◌≡◌, ◌++◌, ◌+◌, ◌-◌, ◌*◌, ◌≤◌, ◌<◌}
use Rattle.lists.proofs.Prelude.{◌∙◌, ap, sym, refl, ap₂, true, false, List, ℕ, zero, suc, length, get_or, take, drop}
use Rattle.lists.proofs.Prelude.{length-append}
use Rattle.lists.proofs.Prelude.{length-drop, take-append-drop, length-take-le, get_or-take, get_or-drop, take_at, drop-drop, ext_get_or, take-add}
use Rattle.lists.proofs.Prelude.{drop-append-add}
use Rattle.lists.proofs.Prelude.{take-take, take-length, dec_lt, arith, begins, same, get_or-append, get_or-append-add}
use Rattle.lists.proofs.Tables.{get_or-tabulate}
use Rattle.lists.proofs.Same.{same-true, same-false, false-same}
use Rattle.lists.proofs.Parts.{drop_front}
use Rattle.pattern_set.specs.PatternSet.{PatternSet, patterns_of, IsSet}
use Rattle.automaton_model.specs.Automaton.{nodes, record_of, entry_of, row_of, node_words, automaton_words}
use Rattle.automaton_model.proofs.Lengths.{length_automaton, length_record, length_row, length_node}
use Rattle.automaton_lookup.specs.Made.{Made}
use Rattle.automaton_lookup.proofs.Words.{made_field, made_row, words-Made}

-- entry x of a row
row_word : (ps : PatternSet) (n x : ℕ) → x < 8 → get_or (row_of ps n) x 0 ≡ entry_of ps n x
unfolding row_of
row_word ps n x h = get_or-tabulate 8 (entry_of ps n) 0 x h

-- where the words of node n begin, for k patterns
abbrev pub node_at : ℕ → ℕ → ℕ
node_at k n = 2 * k + 1 + (16 * n - 8)

pub begin_at : (k n : ℕ) → 0 < n → 2 * k + 16 * n - 7 ≡ node_at k n
begin_at k n h = omega arith

-- they are its row and its record, but those of the root its record alone
abbrev pub words_of : PatternSet → ℕ → List ℕ
words_of ps zero = record_of ps zero
words_of ps (suc n) = node_words ps (suc n)

words_below : (ps : PatternSet) (n : ℕ) → 0 < n → node_words ps n ≡ words_of ps n
words_below ps zero h = absurd (let z : ⊥ = omega arith in z)
words_below ps (suc n) h = refl

-- the row and the record of a node other than the root, as they are made, are its words
pub node_words_lem : (ps : PatternSet) (n : ℕ) (row rec : List ℕ) → 0 < n → row ≡ row_of ps n → rec ≡ record_of ps n
    → (row ++ rec ≡ words_of ps n) × (16 ≡ length (words_of ps n)) × (length row ≡ 8)
node_words_lem ps n row rec h r e =
    let below = words_below ps n h in
    (ap₂ (λ (x y : List ℕ). x ++ y) r e ∙ below, sym (length_node ps n) ∙ ap length below, ap length r ∙ length_row ps n)

node_at_next : (ps : PatternSet) (k n : ℕ) → node_at k (n + 1) ≡ node_at k n + length (words_of ps n)
node_at_next ps k zero = omega (arith, length_record ps 0)
node_at_next ps k (suc n) = omega (arith, length_node ps (suc n))

-- ---- one node more

module _ {set words : List ℕ} {k i : ℕ} (m : Made set words k i) (n : ℕ) (h : n < length (nodes (patterns_of set))) where
  -- the words of the automaton, and its length
  abbrev whole : List ℕ
  whole = automaton_words (patterns_of set)

  whole-length : length whole ≡ node_at k (length (nodes (patterns_of set)))
  whole-length = omega (arith, length_automaton (patterns_of set), m.patterns)

  -- those of the node among them
  node_within : node_at k n + length (words_of (patterns_of set) n) ≤ length whole
  node_within = omega (arith, whole-length, node_at_next (patterns_of set) k n)

  node_part : take (length (words_of (patterns_of set) n)) (drop (node_at k n) whole) ≡ words_of (patterns_of set) n
  node_part =
      let w = words_of (patterns_of set) n in
      let a = node_at k n in
      let l : length (take (length w) (drop a whole)) ≡ length w = length-take-le (length w) (drop a whole) (rw length-drop (omega (arith, node_within))) in
      ext_get_or 0 (take (length w) (drop a whole)) w l
      (λ j q. get_or-take (length w) (drop a whole) j 0 (omega arith) ∙ get_or-drop a whole j 0
      ∙ go n h (words-Made set k (n + 1) m.is_set m.patterns m.filled (omega arith)) j (omega arith) (dec_lt j 8))
    where
      go : (n : ℕ) → n < length (nodes (patterns_of set)) → Made set whole k (n + 1) → (j : ℕ) → j < length (words_of (patterns_of set) n) → Dec (j < 8)
          → get_or whole (node_at k n + j) 0 ≡ get_or (words_of (patterns_of set) n) j 0
      go zero h w j l d =
          let e : node_at k 0 + j ≡ 2 * k + 1 + 16 * 0 + j = omega arith in
          ap (λ (p : ℕ). get_or whole p 0) e ∙ made_field w 0 j (omega arith) (omega (arith, length_record (patterns_of set) 0))
      go (suc n) h w j l (yes d) =
          let ps = patterns_of set in
          let e : node_at k (suc n) + j ≡ 2 * k + 16 * suc n + j - 7 = omega arith in
          ap (λ (p : ℕ). get_or whole p 0) e
          ∙ made_row w (suc n) j (omega arith) (omega arith) d
          ∙ sym (row_word ps (suc n) j d)
          ∙ sym (get_or-append (row_of ps (suc n)) (record_of ps (suc n)) 0 j (omega (arith, length_row ps (suc n))))
      go (suc n) h w j l (no d) =
          let ps = patterns_of set in
          let f = j - 8 in
          let e : node_at k (suc n) + j ≡ 2 * k + 1 + 16 * suc n + f = omega arith in
          let r : length (row_of ps (suc n)) + f ≡ j = omega (arith, length_row ps (suc n)) in
          ap (λ (p : ℕ). get_or whole p 0) e
          ∙ made_field w (suc n) f (omega arith) (omega (arith, length_node ps (suc n)))
          ∙ sym (get_or-append-add (row_of ps (suc n)) (record_of ps (suc n)) f 0)
          ∙ ap (λ (p : ℕ). get_or (node_words ps (suc n)) p 0) r

  -- the words up to and with them
  front_more : take (node_at k (n + 1)) whole ≡ take (node_at k n) whole ++ words_of (patterns_of set) n
  front_more =
      let ps = patterns_of set in
      ap (λ (j : ℕ). take j whole) (node_at_next ps k n)
      ∙ take-add (node_at k n) (length (words_of ps n)) whole
      ∙ ap (λ (l : List ℕ). take (node_at k n) whole ++ l) node_part

  -- a node whose words differ
  pub begins_not : (vs : List ℕ) (at size : ℕ) → at ≡ node_at k n → vs ≡ words_of (patterns_of set) n → size ≡ length (words_of (patterns_of set) n)
      → same (take size (drop at words)) vs ≡ false → begins words whole ≡ false
  begins_not vs at size e v z f =
      let a = node_at k n in
      let l = node_within in
      same-false (take (length whole) words) whole
      (λ q. false-same (take size (drop at words)) vs f
      (ap (λ (j : ℕ). take size (drop j words)) e
      ∙ sym (drop_front a size words (omega (arith, m.room)))
      ∙ ap (drop a) (sym (take-take (a + size) (length whole) words (omega arith)) ∙ ap (take (a + size)) q)
      ∙ drop_front a size whole (omega arith)
      ∙ ap (λ (j : ℕ). take j (drop a whole)) z
      ∙ node_part
      ∙ sym v))

-- one node more is there
pub Made-more : {set words : List ℕ} {k n : ℕ} → Made set words k n → n < length (nodes (patterns_of set))
    → (at size : ℕ) → at ≡ node_at k n → size ≡ length (words_of (patterns_of set) n) → take size (drop at words) ≡ words_of (patterns_of set) n
    → Made set words k (n + 1)
Made-more {set} {words} {k} {n} m h at size e z q =
    let ps = patterns_of set in
    let w = length (words_of ps n) in
    let t : take w (drop (node_at k n) words) ≡ words_of ps n = ap₂ (λ (j i : ℕ). take j (drop i words)) (sym z) (sym e) ∙ q in
    record {
      is_set = m.is_set;
      patterns = m.patterns;
      filled = m.filled;
      within = omega arith;
      begun =
          ap (λ (i : ℕ). take i words) (node_at_next ps k n)
          ∙ take-add (node_at k n) w words
          ∙ ap₂ (λ (x y : List ℕ). x ++ y) m.begun t
          ∙ sym (front_more m n h);
      room = m.room;
    }

-- ---- an array that grows

-- `out` has the words of the automaton up to the record of node n - 1, and behind them those of d
pub record Grown (set d out : List ℕ) (k n : ℕ) : Type 0 where
  pub made : Made set out k n
  pub words : out ≡ take (node_at k n) (automaton_words (patterns_of set)) ++ drop (node_at k n) d
  pub sized : length out ≡ length d

module _ {set d : List ℕ} {k : ℕ} where
  -- an array with the first records
  pub Grown-start : {n : ℕ} → Made set d k n → Grown set d d k n
  Grown-start {n} m =
      let a = node_at k n in
      record { made = m; words = sym (take-append-drop a d) ∙ ap (λ (l : List ℕ). l ++ drop a d) m.begun; sized = refl }

  -- words that are put together so
  pub Grown-from : (out : List ℕ) (n : ℕ) → IsSet set → k ≡ length (patterns_of set) → 0 < length (patterns_of set) → n ≤ length (nodes (patterns_of set))
      → length (automaton_words (patterns_of set)) ≤ length d → out ≡ take (node_at k n) (automaton_words (patterns_of set)) ++ drop (node_at k n) d
      → Grown set d out k n
  Grown-from out n g p z l r o =
      let w = automaton_words (patterns_of set) in
      let a = node_at k n in
      let f = length-take-le a w (omega (arith, length_automaton (patterns_of set))) in
      let s : length out ≡ length d =
      ap length o ∙ length-append (take a w) (drop a d) ∙ (omega (arith, length-drop a d, length_automaton (patterns_of set))) in
      record {
        made = record { is_set = g; patterns = p; filled = z; within = l; begun = ap (take a) o ∙ take_at (take a w) (drop a d) a f; room = omega arith };
        words = o;
        sized = s;
      }

  -- one node more is written
  pub Grown-more : {out : List ℕ} {n : ℕ} → Grown set d out k n → n < length (nodes (patterns_of set))
      → (vs : List ℕ) (at size : ℕ) → at ≡ node_at k n → vs ≡ words_of (patterns_of set) n → size ≡ length (words_of (patterns_of set) n)
      → Grown set d (take at out ++ vs ++ drop (at + size) out) k (n + 1)
  Grown-more {out} {n} r h vs at size e v z =
      let m = r.made in
      let w = automaton_words (patterns_of set) in
      let a = node_at k n in
      let b = node_at k (n + 1) in
      let f = take a w in
      let lf : length f ≡ a = length-take-le a w (omega (arith, length_automaton (patterns_of set), m.patterns)) in
      let s : a + size ≡ length f + size = omega arith in
      let t : a + size ≡ b = omega (arith, node_at_next (patterns_of set) k n) in
      let x : take a out ≡ f = ap (take a) r.words ∙ take_at f (drop a d) a lf in
      let y : drop (a + size) out ≡ drop b d =
      ap₂ (λ (i : ℕ) (z : List ℕ). drop i z) s r.words ∙ drop-append-add f (drop a d) size ∙ drop-drop size a d ∙ ap (λ (i : ℕ). drop i d) t in
      Grown-from (take at out ++ vs ++ drop (at + size) out) (n + 1) m.is_set m.patterns m.filled (omega arith) (omega (arith, m.room, r.sized))
      (ap (λ (i : ℕ). take i out ++ vs ++ drop (i + size) out) e
      ∙ ap₂ (λ (u z : List ℕ). u ++ vs ++ z) x y
      ∙ ap (λ (u : List ℕ). f ++ u ++ drop b d) v
      ∙ ap (λ (u : List ℕ). u ++ drop b d) (sym (front_more m n h)))

  -- behind the records that are written the array is as it was
  Grown-behind : {out : List ℕ} {n : ℕ} → Grown set d out k n → (m : ℕ) → n ≤ m → drop (node_at k m) out ≡ drop (node_at k m) d
  Grown-behind {out} {n} r m h =
      let w = automaton_words (patterns_of set) in
      let a = node_at k n in
      let f = take a w in
      let lf : length f ≡ a = length-take-le a w (omega (arith, length_automaton (patterns_of set), r.made.patterns, r.made.within)) in
      let s : node_at k m ≡ length f + (node_at k m - a) = omega arith in
      let t : a + (node_at k m - a) ≡ node_at k m = omega arith in
      ap₂ (λ (i : ℕ) (z : List ℕ). drop i z) s r.words ∙ drop-append-add f (drop a d) (node_at k m - a) ∙ drop-drop (node_at k m - a) a d
      ∙ ap (λ (i : ℕ). drop i d) t

  -- an array that is grown from a grown one
  pub Grown-on : {o out : List ℕ} {m n : ℕ} → Grown set d o k m → Grown set o out k n → m ≤ n → Grown set d out k n
  Grown-on {o} {out} {m} {n} p q h =
      record {
        made = q.made;
        words = q.words ∙ ap (λ (l : List ℕ). take (node_at k n) (automaton_words (patterns_of set)) ++ l) (Grown-behind p n h);
        sized = q.sized ∙ p.sized;
      }

  -- the whole
  pub Grown-all : {out : List ℕ} {n : ℕ} → Grown set d out k n → n ≡ length (nodes (patterns_of set))
      → out ≡ automaton_words (patterns_of set) ++ drop (length (automaton_words (patterns_of set))) d
  Grown-all {out} {n} r e =
      let w = automaton_words (patterns_of set) in
      let s : node_at k n ≡ length w = omega (arith, length_automaton (patterns_of set), r.made.patterns) in
      r.words ∙ ap (λ (i : ℕ). take i w ++ drop i d) s ∙ ap (λ (l : List ℕ). l ++ drop (length w) d) (take-length w)

-- ---- all records

-- the front is written first, over the array d, and then the whole over it
pub whole_over : {set d o : List ℕ} {k : ℕ} → Grown set d o k 0 → (out : List ℕ)
    → out ≡ automaton_words (patterns_of set) ++ drop (length (automaton_words (patterns_of set))) o
    → out ≡ automaton_words (patterns_of set) ++ drop (length (automaton_words (patterns_of set))) d
whole_over {set} {d} {o} {k} r out q =
    let w = automaton_words (patterns_of set) in
    let s : node_at k (length (nodes (patterns_of set))) ≡ length w = omega (arith, length_automaton (patterns_of set), r.made.patterns) in
    q ∙ ap (λ (l : List ℕ). w ++ l) (rw s at (Grown-behind r (length (nodes (patterns_of set))) (omega arith)))

pub length_whole : (ps : PatternSet) (d : List ℕ) → length (automaton_words ps) ≤ length d
    → length (automaton_words ps ++ drop (length (automaton_words ps)) d) ≡ length d
length_whole ps d l = length-append (automaton_words ps) (drop (length (automaton_words ps)) d) ∙ (omega (arith, length-drop (length (automaton_words ps)) d))

-- words with all records begin with the automaton
pub begins_all : {set words : List ℕ} {k n : ℕ} → Made set words k n → n ≡ length (nodes (patterns_of set))
    → begins words (automaton_words (patterns_of set)) ≡ true
begins_all {set} {words} {k} {n} m e =
    let w = automaton_words (patterns_of set) in
    let s : node_at k n ≡ length w = omega (arith, length_automaton (patterns_of set), m.patterns) in
    same-true (take (length w) words) w (ap (λ (i : ℕ). take i words) (sym s) ∙ m.begun ∙ ap (λ (i : ℕ). take i w) s ∙ take-length w)
