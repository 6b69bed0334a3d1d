-- THE WORDS BEFORE THE RECORDS: the order, what neighbours share, and the number of nodes; written
-- one behind the other, and tested.
use Rattle.std.specs.Prelude.{◌≡◌, ◌&&◌, ◌∷◌, ◌++◌, ◌+◌, ◌*◌, ◌≤◌, ◌<◌}
use Rattle.lists.proofs.Prelude.{◌∙◌, ap, sym, refl, ap₂, Bool, true, false, List, [], append_assoc, ℕ, suc, eqb}
use Rattle.lists.proofs.Prelude.{length, get_or, take, drop, set, length-append, length-take, length-drop, length-take-le, drop-cons, take-suc, append_snoc}
use Rattle.lists.proofs.Prelude.{take_at, drop-drop, set_at, drop_at, take-add, drop-append-add, arith, same}
use Rattle.lists.proofs.Tables.{length-tabulate}
use Rattle.lists.proofs.Same.{same-false, same-append}
use Rattle.pattern_set.specs.PatternSet.{PatternSet}
use Rattle.automaton_model.specs.Automaton.{nodes, order, shared_at, automaton_words}
use Rattle.automaton_model.proofs.Order.{length-order}
use Rattle.automaton_model.proofs.Lengths.{length_automaton}
use Rattle.automaton_lookup.proofs.Words.{shares, numbers, records, length-numbers}
use Rattle.automaton_order.specs.FirstWords.{HasOrder, HasShared}

-- ---- the words before the records

module _ (ps : PatternSet) where
  front_words : take (2 * length ps + 1) (automaton_words ps) ≡ numbers ps ++ (length (nodes ps) ∷ [])
  unfolding automaton_words
  front_words =
      let f = numbers ps in
      let rows = records ps in
      ap (take (2 * length ps + 1)) (sym (append_snoc f (length (nodes ps)) rows))
      ∙ take_at (f ++ (length (nodes ps) ∷ [])) rows (2 * length ps + 1) (length-append f (length (nodes ps) ∷ []) ∙ ap (λ (n : ℕ). n + 1) (length-numbers ps))

-- ---- writing them: d is the array as it was, and then the order, and what neighbours share, are
-- written

module _ (ps : PatternSet) (d o₁ : List ℕ) (room : 2 * length ps + 1 ≤ length d) (ordered : o₁ ≡ order ps ++ drop (length ps) d) where
  pub order_there : HasOrder ps o₁
  order_there = ap (take (length ps)) ordered ∙ take_at (order ps) (drop (length ps) d) (length ps) (length-order ps)

  pub length_ordered : length o₁ ≡ length d
  length_ordered = ap length ordered ∙ length-append (order ps) (drop (length ps) d) ∙ (omega (arith, length-order ps, length-drop (length ps) d))

  behind_order : drop (2 * length ps) o₁ ≡ drop (2 * length ps) d
  behind_order =
      let p : 2 * length ps ≡ length (order ps) + length ps = omega (arith, length-order ps) in
      let q : length ps + length ps ≡ 2 * length ps = omega arith in
      ap (drop (2 * length ps)) ordered
      ∙ ap (λ (n : ℕ). drop n (order ps ++ drop (length ps) d)) p
      ∙ drop-append-add (order ps) (drop (length ps) d) (length ps)
      ∙ drop-drop (length ps) (length ps) d
      ∙ ap (λ (n : ℕ). drop n d) q

  module _ (o₂ : List ℕ) (shared : o₂ ≡ numbers ps ++ drop (2 * length ps) o₁) where
    numbers_there : o₂ ≡ numbers ps ++ drop (2 * length ps) d
    numbers_there = shared ∙ ap (λ (l : List ℕ). numbers ps ++ l) behind_order

    apart : o₂ ≡ order ps ++ (shares ps ++ drop (2 * length ps) d)
    apart = numbers_there ∙ append_assoc (order ps) (shares ps) (drop (2 * length ps) d)

    pub order_kept : HasOrder ps o₂
    order_kept = ap (take (length ps)) apart ∙ take_at (order ps) (shares ps ++ drop (2 * length ps) d) (length ps) (length-order ps)

    pub shared_there : HasShared ps o₂
    shared_there =
        ap (take (length ps)) (ap (drop (length ps)) apart ∙ drop_at (order ps) (shares ps ++ drop (2 * length ps) d) (length ps) (length-order ps))
        ∙ take_at (shares ps) (drop (2 * length ps) d) (length ps) (length-tabulate (length ps) (shared_at ps))

    pub length_shared : length o₂ ≡ length d
    length_shared =
        ap length numbers_there ∙ length-append (numbers ps) (drop (2 * length ps) d)
        ∙ (omega (arith, length-numbers ps, length-drop (2 * length ps) d))

    -- with the number of nodes they are the front
    pub front_stored : (k v : ℕ) → k ≡ length ps → v ≡ length (nodes ps) → set o₂ (2 * k) v ≡ take (2 * k + 1) (automaton_words ps) ++ drop (2 * k + 1) d
    front_stored k v e c =
        let f = numbers ps in
        let n = length (nodes ps) in
        let s : suc (2 * length ps) ≡ 2 * length ps + 1 = omega arith in
        ap₂ (λ (i x : ℕ). set o₂ (2 * i) x) e c
        ∙ ap (λ (l : List ℕ). set l (2 * length ps) n) (numbers_there ∙ ap (λ (l : List ℕ). f ++ l) (drop-cons d (2 * length ps) 0 (omega arith)))
        ∙ set_at f (get_or d (2 * length ps) 0) (drop (suc (2 * length ps)) d) n (2 * length ps) (length-numbers ps)
        ∙ sym (append_snoc f n (drop (suc (2 * length ps)) d))
        ∙ ap₂ (λ (l : List ℕ) (i : ℕ). l ++ drop i d) (sym (front_words ps)) s
        ∙ ap (λ (i : ℕ). take (2 * i + 1) (automaton_words ps) ++ drop (2 * i + 1) d) (sym e)

-- ---- testing them

same_one : (x y : ℕ) → same (x ∷ []) (y ∷ []) ≡ eqb x y
unfolding same
same_one x y = go (eqb x y)
  where
    go : (b : Bool) → b && true ≡ b
    go true = refl
    go false = refl

module _ (ps : PatternSet) (words : List ℕ) (k : ℕ) (e : k ≡ length ps) where
  -- the tests: of all the words before the records, of the order, and of what neighbours share
  abbrev pub same_front : Bool
  same_front = same (take (2 * k + 1) words) (take (2 * k + 1) (automaton_words ps))

  abbrev pub same_order : Bool
  same_order = same (take (length ps) words) (order ps)

  abbrev pub same_shares : Bool
  same_shares = same (take (length ps) (drop (length ps) words)) (shares ps)

  pub front_short : length words < 2 * k + 1 → same_front ≡ false
  front_short h =
      same-false (take (2 * k + 1) words) (take (2 * k + 1) (automaton_words ps))
      (λ q. omega (arith, ap length q, length-take (2 * k + 1) words, length-take (2 * k + 1) (automaton_words ps), length_automaton ps))

  front_split : 2 * k + 1 ≤ length words
      → take (2 * length ps + 1) words ≡ take (length ps) words ++ take (length ps) (drop (length ps) words) ++ (get_or words (2 * length ps) 0 ∷ [])
  front_split h =
      let s : 2 * length ps + 1 ≡ suc (2 * length ps) = omega arith in
      let t : 2 * length ps ≡ length ps + length ps = omega arith in
      ap (λ (n : ℕ). take n words) s
      ∙ take-suc words (2 * length ps) 0 (omega arith)
      ∙ ap (λ (l : List ℕ). l ++ (get_or words (2 * length ps) 0 ∷ [])) (ap (λ (n : ℕ). take n words) t ∙ take-add (length ps) (length ps) words)

  front_test : 2 * k + 1 ≤ length words → same_front ≡ (same_order && same_shares) && eqb (get_or words (2 * k) 0) (length (nodes ps))
  front_test h =
      let a = take (length ps) words in
      let b = take (length ps) (drop (length ps) words) in
      let t = shares ps in
      let la : length a ≡ length ps = length-take-le (length ps) words (omega arith) in
      let lb : length b ≡ length ps = length-take-le (length ps) (drop (length ps) words) (rw length-drop (omega arith)) in
      ap (λ (n : ℕ). same (take (2 * n + 1) words) (take (2 * n + 1) (automaton_words ps))) e
      ∙ ap₂ same (front_split h) (front_words ps)
      ∙ same-append (a ++ b) (order ps ++ t) (get_or words (2 * length ps) 0 ∷ []) (length (nodes ps) ∷ [])
      (length-append a b ∙ (omega (arith, length-numbers ps)))
      ∙ ap₂ (λ (p q : Bool). p && q) (same-append a (order ps) b t (la ∙ sym (length-order ps))) (same_one (get_or words (2 * length ps) 0) (length (nodes ps)))
      ∙ ap (λ (n : ℕ). (same a (order ps) && same b t) && eqb (get_or words (2 * n) 0) (length (nodes ps))) (sym e)

  -- as the code tests them, one part after the other
  module _ (h : 2 * k + 1 ≤ length words) where
    pub front_unordered : same_order ≡ false → same_front ≡ false
    front_unordered p =
        front_test h ∙ ap (λ (b : Bool). (b && same_shares) && eqb (get_or words (2 * k) 0) (length (nodes ps))) p

    pub front_unshared : same_order ≡ true → same_shares ≡ false → same_front ≡ false
    front_unshared p q = front_test h ∙ ap₂ (λ (a b : Bool). (a && b) && eqb (get_or words (2 * k) 0) (length (nodes ps))) p q

    pub front_counted : same_order ≡ true → same_shares ≡ true
        → (x n : ℕ) → x ≡ get_or words (2 * k) 0 → n ≡ length (nodes ps) → eqb x n ≡ same_front
    front_counted p q x n u v =
        ap₂ eqb u v ∙ sym (front_test h ∙ ap₂ (λ (a b : Bool). (a && b) && eqb (get_or words (2 * k) 0) (length (nodes ps))) p q)
