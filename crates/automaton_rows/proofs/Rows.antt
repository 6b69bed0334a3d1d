-- THE ROW OF A NODE by that of its failure link: with one attempt more, then with the children put
-- one after the other, and where a distance leads out of the window with the word for 0.
use Rattle.std.specs.Prelude.{◌≡◌, ◌&&◌, ◌+◌, ◌-◌, ◌≤◌, ◌<◌}
use Rattle.lists.proofs.Prelude.{◌∙◌, ap, sym, refl, subst, Bool, true, false, cond, List, [], ℕ, T, ltb, length, get_or, set}
use Rattle.lists.proofs.Prelude.{take, get_or-take, get_or-set_same, get_or-set_other, length-set, get_or-append_seam, ext_get_or, dec_lt, arith}
use Rattle.lists.proofs.Prelude.{lt-ltb, le-ltb}
use Rattle.lists.proofs.Tests.{T-true, true-T}
use Rattle.lists.proofs.Same.{same_eq}
use Rattle.lists.proofs.Tables.{length-tabulate, get_or-tabulate}
use Rattle.cartesian.specs.Cartesian.{cut}
use Rattle.pattern_set.specs.PatternSet.{PatternSet, good_set}
use Rattle.matching.specs.Matching.{is_head, failure}
use Rattle.automaton_model.specs.Automaton.{nodes, head_of, node_of, children, first_child, entry_of, row_of}
use Rattle.automaton_model.proofs.Nodes.{head_node, node_head}
use Rattle.automaton_model.proofs.Children.{child_head_lem, child_number}
use Rattle.automaton_model.proofs.Order.{pattern_at}
use Rattle.automaton_model.proofs.Steps.{cut_within, cut_outside, entry_cut, entry_child, entry_missing}
use Rattle.automaton_lookup.specs.Places.{place_of, end_of}
use Rattle.automaton_lookup.proofs.Places.{begins_at_place}
use Rattle.automaton_rows.specs.Rows.{Eight, one_more, child_head, child_node, word_with, with_word, CutRow}
use Rattle.automaton_rows.proofs.Shared.{begins-length}
use Rattle.automaton_rows.proofs.Intervals.{Counted, child_length}

-- ---- one word after the other

-- the first n of the eight words are so
abbrev pub Upto : (ℕ → ℕ) → ℕ → List ℕ → Type 0
Upto word n row = (length row ≡ 8) × ((x : ℕ) → x < n → get_or row x 0 ≡ word x)

pub Upto-more : (word : ℕ → ℕ) (n e : ℕ) (row : List ℕ) → Upto word n row → n < 8 → e ≡ word n → Upto word (n + 1) (set row n e)
Upto-more word n e row u h q = (length-set row n e ∙ u.0, λ x l. go x l (dec_lt x n))
  where
    go : (x : ℕ) → x < n + 1 → Dec (x < n) → get_or (set row n e) x 0 ≡ word x
    go x l (yes d) = get_or-set_other row n x e 0 (λ p. omega arith) ∙ u.1 x d
    go x l (no f) =
        let p : x ≡ n = omega arith in
        ap (λ (y : ℕ). get_or (set row n e) y 0) p ∙ get_or-set_same row n e 0 (omega (arith, u.0)) ∙ q ∙ ap word (sym p)

-- ---- the distances above the depth

-- the words from depth + 1 up to x are put
abbrev pub CutTo : ℕ → List ℕ → ℕ → List ℕ → Type 0
CutTo depth before x after = Eight (λ y. get_or before (cond (ltb y x) (cut depth y) y) 0) after

pub cut_start : (depth : ℕ) (row : List ℕ) → length row ≡ 8 → CutTo depth row (depth + 1) row
cut_start depth row e = (e, λ y l. go y (dec_lt y (depth + 1)))
  where
    go : (y : ℕ) → Dec (y < depth + 1) → get_or row y 0 ≡ get_or row (cond (ltb y (depth + 1)) (cut depth y) y) 0
    go y (yes d) = ap (λ (z : ℕ). get_or row z 0) (sym (rw (lt-ltb y (depth + 1) d) (cut_within depth y (omega arith))))
    go y (no f) = ap (λ (z : ℕ). get_or row z 0) (sym (rw (le-ltb y (depth + 1) (omega arith)) refl))

pub cut_more : (depth x : ℕ) (before row : List ℕ) → depth < x → x < 8 → CutTo depth before x row → CutTo depth before (x + 1) (set row x (get_or row 0 0))
cut_more depth x before row h l u = (length-set row x (get_or row 0 0) ∙ u.0, λ y k. go y k (dec_lt y x) (dec_lt x y))
  where
    go : (y : ℕ) → y < 8 → Dec (y < x) → Dec (x < y) → get_or (set row x (get_or row 0 0)) y 0 ≡ get_or before (cond (ltb y (x + 1)) (cut depth y) y) 0
    go y k (yes d) f =
        get_or-set_other row x y (get_or row 0 0) 0 (λ p. omega arith) ∙ u.1 y k
        ∙ ap (λ (b : Bool). get_or before (cond b (cut depth y) y) 0) (lt-ltb y x d ∙ sym (lt-ltb y (x + 1) (omega arith)))
    go y k (no d) (yes f) =
        get_or-set_other row x y (get_or row 0 0) 0 (λ p. omega arith) ∙ u.1 y k
        ∙ ap (λ (b : Bool). get_or before (cond b (cut depth y) y) 0) (le-ltb y x (omega arith) ∙ sym (le-ltb y (x + 1) (omega arith)))
    go y k (no d) (no f) =
        let p : y ≡ x = omega arith in
        ap (λ (z : ℕ). get_or (set row x (get_or row 0 0)) z 0) p ∙ get_or-set_same row x (get_or row 0 0) 0 (omega (arith, u.0)) ∙ u.1 0 (omega arith)
        ∙ ap (λ (z : ℕ). get_or before z 0)
        (rw (lt-ltb 0 x (omega arith), lt-ltb y (x + 1) (omega arith)) (cut_within depth 0 (omega arith) ∙ sym (cut_outside depth y (omega arith))))

pub cut_all : (depth x : ℕ) (before row : List ℕ) → 8 ≤ x → CutTo depth before x row → CutRow depth before row
cut_all depth x before row h u = (u.0, λ y k. u.1 y k ∙ ap (λ (b : Bool). get_or before (cond b (cut depth y) y) 0) (lt-ltb y x (omega arith)))

-- ---- the children

module _ (ps : PatternSet) (g : T (good_set ps)) (z : 0 < length ps) (n : ℕ) (h : n < length (nodes ps)) where
  -- the head of the child that is met at place i, by the pattern there
  pub Counted-child : (count i : ℕ) → Counted ps n (count + 1) (i + 1)
      → (head_of ps (first_child ps n + count) ≡ child_head ps n (get_or (pattern_at ps i) (length (head_of ps n)) 0))
      × (length (head_of ps n) < length (pattern_at ps i)) × (count < children ps n)
  Counted-child count i r =
      let c = first_child ps n + count in
      let e : first_child ps n + (count + 1 - 1) ≡ c = omega arith in
      let within = r.within in
      let a : place_of ps c ≤ i = omega (arith, r.behind, ap (place_of ps) e) in
      let b : i < end_of ps c = omega (arith, r.upto, ap (end_of ps) e) in
      let t = begins_at_place ps (head_of ps c) i a b in
      let k = child_length ps g z n h c (omega arith) (omega arith) in
      let q = (child_head_lem ps g z n h c (omega arith) (omega arith)).1 in
      let d = length (head_of ps n) in
      let v : get_or (head_of ps c) d 0 ≡ get_or (pattern_at ps i) d 0 =
      ap (λ (l : List ℕ). get_or l d 0) (sym (same_eq (take (length (head_of ps c)) (pattern_at ps i)) (head_of ps c) t))
      ∙ get_or-take (length (head_of ps c)) (pattern_at ps i) d 0 (omega arith) in
      (q ∙ ap (child_head ps n) v, omega (arith, begins-length (pattern_at ps i) (head_of ps c) t), omega arith)

  -- of the first none no child is put
  pub row_start : (f : ℕ) (row : List ℕ) → Eight (one_more ps f) row → Eight (word_with ps n f 0) row
  row_start f row e = (e.0, λ x l. e.1 x l ∙ go x (is_head ps (child_head ps n x)) refl)
    where
      go : (x : ℕ) (b : Bool) → is_head ps (child_head ps n x) ≡ b
          → one_more ps f x ≡ cond (b && ltb (child_node ps n x) (first_child ps n + 0)) (child_node ps n x + 65536) (one_more ps f x)
      go x true t =
          let r = (child_number ps g z n h x (T-true (is_head ps (child_head ps n x)) t)).0 in
          rw (le-ltb (child_node ps n x) (first_child ps n + 0) (omega arith)) refl
      go x false t = refl

  module _ (f count v : ℕ) (k : count < children ps n) (e : head_of ps (first_child ps n + count) ≡ child_head ps n v) where
    abbrev child : ℕ
    child = first_child ps n + count

    child_there : child < length (nodes ps)
    child_there = (child_head_lem ps g z n h child (omega arith) (omega arith)).0

    child_is : (child_node ps n v ≡ child) × (is_head ps (child_head ps n v) ≡ true)
    child_is =
        let p = node_head ps child child_there in
        (ap (node_of ps) (sym e) ∙ p.1, true-T (is_head ps (child_head ps n v)) (subst (λ (l : List ℕ). T (is_head ps l)) e p.0))

    -- the word of its label
    word_put : child + 65536 ≡ word_with ps n f (count + 1) v
    word_put =
        let p = child_is in
        rw (p.1, lt-ltb (child_node ps n v) (first_child ps n + (count + 1)) (omega (arith, p.0))) (ap (λ (c : ℕ). c + 65536) (sym p.0))

    -- the words of other labels stay
    word_other : (x : ℕ) → (x ≡ v → ⊥) → word_with ps n f count x ≡ word_with ps n f (count + 1) x
    word_other x d = go (is_head ps (child_head ps n x)) refl
      where
        apart : T (is_head ps (child_head ps n x)) → child_node ps n x ≡ child → ⊥
        apart t q =
            let p : child_head ps n x ≡ child_head ps n v = sym (head_node ps g (child_head ps n x) t).1 ∙ ap (head_of ps) q ∙ e in
            d (sym (get_or-append_seam (head_of ps n) x [] 0) ∙ ap (λ (l : List ℕ). get_or l (length (head_of ps n)) 0) p
            ∙ get_or-append_seam (head_of ps n) v [] 0)

        inner : T (is_head ps (child_head ps n x)) → Dec (child_node ps n x < child) → Dec (child < child_node ps n x)
            → ltb (child_node ps n x) child ≡ ltb (child_node ps n x) (first_child ps n + (count + 1))
        inner t (yes a) b = lt-ltb (child_node ps n x) child a ∙ sym (lt-ltb (child_node ps n x) (first_child ps n + (count + 1)) (omega arith))
        inner t (no a) (yes b) =
            le-ltb (child_node ps n x) child (omega arith) ∙ sym (le-ltb (child_node ps n x) (first_child ps n + (count + 1)) (omega arith))
        inner t (no a) (no b) = absurd (apart t (omega arith))

        go : (b : Bool) → is_head ps (child_head ps n x) ≡ b
            → cond (b && ltb (child_node ps n x) child) (child_node ps n x + 65536) (one_more ps f x)
            ≡ cond (b && ltb (child_node ps n x) (first_child ps n + (count + 1))) (child_node ps n x + 65536) (one_more ps f x)
        go true t =
            ap (λ (b : Bool). cond b (child_node ps n x + 65536) (one_more ps f x))
            (inner (T-true (is_head ps (child_head ps n x)) t) (dec_lt (child_node ps n x) child) (dec_lt child (child_node ps n x)))
        go false t = refl

    -- one child more is put
    pub row_more : (row : List ℕ) → Eight (word_with ps n f count) row → Eight (word_with ps n f (count + 1)) (with_word v (child + 65536) row)
    row_more row r = go (dec_lt v 8)
      where
        at : v < 8 → (x : ℕ) → x < 8 → Dec (x < v) → Dec (v < x) → get_or (set row v (child + 65536)) x 0 ≡ word_with ps n f (count + 1) x
        at l x m (yes a) b = get_or-set_other row v x (child + 65536) 0 (λ p. omega arith) ∙ r.1 x m ∙ word_other x (λ p. omega arith)
        at l x m (no a) (yes b) = get_or-set_other row v x (child + 65536) 0 (λ p. omega arith) ∙ r.1 x m ∙ word_other x (λ p. omega arith)
        at l x m (no a) (no b) =
            let p : x ≡ v = omega arith in
            ap (λ (y : ℕ). get_or (set row v (child + 65536)) y 0) p
            ∙ get_or-set_same row v (child + 65536) 0 (omega (arith, r.0))
            ∙ word_put
            ∙ ap (word_with ps n f (count + 1)) (sym p)

        go : Dec (v < 8) → Eight (word_with ps n f (count + 1)) (with_word v (child + 65536) row)
        go (yes l) = rw (lt-ltb v 8 l) (length-set row v (child + 65536) ∙ r.0, λ x m. at l x m (dec_lt x v) (dec_lt v x))
        go (no a) = rw (le-ltb v 8 (omega arith)) (r.0, λ x m. r.1 x m ∙ word_other x (λ p. omega arith))

  -- ---- all of them

  -- the word for a distance within the window
  word_within : (f x : ℕ) → f ≡ node_of ps (failure ps (head_of ps n)) → x ≤ length (head_of ps n) → word_with ps n f (children ps n) x ≡ entry_of ps n x
  word_within f x e l = go (is_head ps (child_head ps n x)) refl
    where
      go : (b : Bool) → is_head ps (child_head ps n x) ≡ b
          → cond (b && ltb (child_node ps n x) (first_child ps n + children ps n)) (child_node ps n x + 65536) (one_more ps f x) ≡ entry_of ps n x
      go true t =
          let r = (child_number ps g z n h x (T-true (is_head ps (child_head ps n x)) t)).1 in
          rw (lt-ltb (child_node ps n x) (first_child ps n + children ps n) r) (sym (entry_child ps g z n x l t))
      go false t = sym (entry_missing ps g z n x l t h f e)

  -- THE ROW IS MADE
  pub row_made : (f depth : ℕ) (before after : List ℕ) → f ≡ node_of ps (failure ps (head_of ps n)) → depth ≡ length (head_of ps n)
      → Eight (word_with ps n f (children ps n)) before → CutRow depth before after → after ≡ row_of ps n
  unfolding row_of
  row_made f depth before after e d b a =
      ext_get_or 0 after (row_of ps n) (a.0 ∙ sym (length-tabulate 8 (entry_of ps n)))
      (λ x l. word x (omega (arith, a.0)) ∙ sym (get_or-tabulate 8 (entry_of ps n) 0 x (omega (arith, a.0))))
    where
      small : (x : ℕ) → x < 8 → Dec (depth < x) → (cut depth x < 8) × (cut depth x ≤ depth)
      small x l (yes m) = let q = cut_outside depth x m in (omega arith, omega arith)
      small x l (no m) = let q = cut_within depth x (omega arith) in (omega arith, omega arith)

      word : (x : ℕ) → x < 8 → get_or after x 0 ≡ entry_of ps n x
      word x l =
          let s = small x l (dec_lt depth x) in
          a.1 x l ∙ b.1 (cut depth x) s.0 ∙ word_within f (cut depth x) e (omega (arith, s.1))
          ∙ ap (λ (m : ℕ). entry_of ps n (cut m x)) d
          ∙ sym (entry_cut ps g z n x)
