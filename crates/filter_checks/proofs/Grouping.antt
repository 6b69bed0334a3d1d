-- EQUAL PATTERNS SIDE BY SIDE: numbers written behind others leave these as they are, and a set of
-- ranks that has with each rank all that equal it shares none with the set of another rank.
use Rattle.std.specs.Prelude.{◌≡◌, ◌⊎◌, ◌&&◌, ◌||◌, ◌++◌, ◌+◌, ◌*◌, ◌/◌, ◌%◌, ◌≤◌, ◌<◌}
use Rattle.lists.proofs.Prelude.{◌∙◌, ap, sym, refl, subst, inl, inr, Bool, true, false, cond, List, append_assoc, map}
use Rattle.lists.proofs.Prelude.{ℕ, zero, suc, T, ltb, length, get_or, take, drop, length-map}
use Rattle.lists.proofs.Prelude.{length-take-le, take_at, drop_at, take-take, take-append-le, sets, sets-eq, length-sets, dec_lt, arith}
use Rattle.lists.proofs.Prelude.{lt-ltb, same, select, tabulate, true≢false, ltb→lt, le_refl}
use Rattle.lists.proofs.Tests.{T-true, true-T, clash, and_split, or_cases, or_left, or_right}
use Rattle.lists.proofs.Same.{same-true, same_eq}
use Rattle.lists.proofs.Parts.{drop_front}
use Rattle.lists.proofs.Members.{mem-get_or}
use Rattle.lists.proofs.Counting.{count, count_next, count_from}
use Rattle.bit_sets.specs.BitSets.{bit_at, bits}
use Rattle.bit_sets.proofs.Laws.{bits_by, bits-zero, mem-bits}
use Rattle.bit_sets.proofs.Digits.{bit_at_none}
use Rattle.pattern_set.specs.PatternSet.{PatternSet}
use Rattle.filter_tables.specs.Tables.{ranked}
use Rattle.filter_checks.specs.Equal.{EqualRanks}

-- ---- numbers written behind others

module _ (grouped vs : List ℕ) (at : ℕ) (room : at + length vs ≤ length grouped) where
  parted : sets grouped at vs ≡ take at grouped ++ (vs ++ drop (at + length vs) grouped)
  parted = sets-eq vs grouped at room ∙ append_assoc (take at grouped) vs (drop (at + length vs) grouped)

  -- they are there
  written : take (length vs) (drop at (sets grouped at vs)) ≡ vs
  written =
      ap (λ (l : List ℕ). take (length vs) (drop at l)) parted
      ∙ ap (take (length vs)) (drop_at (take at grouped) (vs ++ drop (at + length vs) grouped) at (length-take-le at grouped (omega arith)))
      ∙ take_at vs (drop (at + length vs) grouped) (length vs) refl

  -- and the others are as they were
  front : (n : ℕ) → n ≤ at → take n (sets grouped at vs) ≡ take n grouped
  front n h =
      ap (take n) parted
      ∙ take-append-le n (take at grouped) (vs ++ drop (at + length vs) grouped) (omega (arith, length-take-le at grouped (omega arith)))
      ∙ take-take n at grouped h

  unwritten : (a n : ℕ) → a + n ≤ at → take n (drop a (sets grouped at vs)) ≡ take n (drop a grouped)
  unwritten a n h =
      sym (drop_front a n (sets grouped at vs) (omega (arith, length-sets grouped at vs)))
      ∙ ap (drop a) (front (a + n) h)
      ∙ drop_front a n grouped (omega arith)

-- ---- sizes of sets

-- a test that passes where one of two others does, never both
count_sum : (r s t : ℕ → Bool) (n : ℕ) → ((j : ℕ) → j < n → cond (t j) 1 0 ≡ cond (r j) 1 0 + cond (s j) 1 0) → count t n ≡ count r n + count s n
unfolding tabulate select
count_sum r s t zero f = refl
count_sum r s t (suc n) f =
    omega (arith, f n (omega arith), count_sum r s t n (λ j h. f j (omega arith)), count_next r n, count_next s n, count_next t n)

count-bits : (m : ℕ) → count (bit_at m) 64 ≡ length (bits m)
unfolding bits
count-bits m = refl

-- a member makes a size
size_some : (m r : ℕ) → r < 64 → T (bit_at m r) → 0 < length (bits m)
size_some m r h t = let p = mem-get_or (bits m) r 0 ((mem-bits m r).1 (h, t)) in omega (arith, p.1)

-- sets with the same members have the same list of them
bits_same : (a b : ℕ) → ((j : ℕ) → j < 64 → bit_at a j ≡ bit_at b j) → bits a ≡ bits b
unfolding bits
bits_same a b f = bits_by a (bit_at b) f

-- the sizes of sets that share nothing
module _ (a b : ℕ) (apart : (j : ℕ) → j < 64 → T (bit_at b j) → bit_at a j ≡ false) where
  size_both : count (λ j. bit_at a j || bit_at b j) 64 ≡ length (bits a) + length (bits b)
  size_both =
      let e = count_sum (bit_at a) (bit_at b) (λ j. bit_at a j || bit_at b j) 64 (λ j h. go (bit_at a j) (bit_at b j) (apart j h)) in
      omega (arith, e, count-bits a, count-bits b)
    where
      go : (x y : Bool) → (T y → x ≡ false) → cond (x || y) 1 0 ≡ cond x 1 0 + cond y 1 0
      go true true f = absurd (true≢false (f tt))
      go true false f = omega arith
      go false y f = omega arith

  size_both_le : length (bits a) + length (bits b) ≤ 64
  size_both_le =
      omega (arith, size_both, count_from (λ j. bit_at a j || bit_at b j) 0 64 (omega arith) (λ j h. absurd (let z : ⊥ = omega arith in z)))

  size_either : (c : ℕ) → ((j : ℕ) → j < 64 → bit_at c j ≡ (bit_at a j || bit_at b j)) → length (bits c) ≡ length (bits a) + length (bits b)
  size_either c f = ap length (bits_by c (λ j. bit_at a j || bit_at b j) f) ∙ size_both

-- ---- the tables

-- the word of rank s tells where the numbers of its group are, before place `at`
abbrev GroupAt : List ℕ → List ℕ → List ℕ → List ℕ → ℕ → ℕ → Type 0
GroupAt numbers equal grouped words at s =
    let word = get_or words s 0 in
    (word % 64 + word / 64 ≤ at) × (take (word / 64) (drop (word % 64) grouped) ≡ map (λ t. get_or numbers t 0) (bits (get_or equal s 0)))

-- the groups of the ranks that were seen are written, one behind the other up to place `at`: all
-- ranks below r were seen, and with a rank those that equal it
pub record Grouped (ps : PatternSet) (numbers equal : List ℕ) (r seen at : ℕ) (grouped words : List ℕ) : Type 0 where
  pub below : (s : ℕ) → s < r → T (bit_at seen s)
  pub whole : (s t : ℕ) → s < 64 → t < length ps → ranked ps s ≡ ranked ps t → T (bit_at seen s) → T (bit_at seen t)
  pub room : (length grouped ≡ 64) × (at ≤ 64)
  pub size : at ≡ length (bits seen)
  pub there : (s : ℕ) → s < 64 → T (bit_at seen s) → GroupAt numbers equal grouped words at s

module _ (ps : PatternSet) (numbers equal : List ℕ) where
  pub grouped_start : (grouped words : List ℕ) → length grouped ≡ 64 → Grouped ps numbers equal 0 0 0 grouped words
  grouped_start grouped words l =
      record {
        below = λ s h. absurd (let z : ⊥ = omega arith in z);
        whole = λ s t h k e i. absurd (none s i);
        room = (l, omega arith);
        size = sym (ap length bits-zero);
        there = λ s h i. absurd (none s i);
      }
    where
      none : (s : ℕ) → T (bit_at 0 s) → ⊥
      none s i = clash (true-T (bit_at 0 s) i) (bit_at_none s)

  -- rank r was seen
  pub grouped_pass : (r seen at : ℕ) (grouped words : List ℕ) → bit_at seen r ≡ true → Grouped ps numbers equal r seen at grouped words
      → Grouped ps numbers equal (r + 1) seen at grouped words
  grouped_pass r seen at grouped words e g =
      record { below = λ s h. go s h (dec_lt s r); whole = g.whole; room = g.room; size = g.size; there = g.there }
    where
      go : (s : ℕ) → s < r + 1 → Dec (s < r) → T (bit_at seen s)
      go s h (yes l) = g.below s l
      go s h (no l) = let q : s ≡ r = omega arith in rw q (T-true (bit_at seen r) e)

  -- rank r was not: it and those that equal it get their group
  module _ (few : length ps ≤ 64) (table : EqualRanks ps equal) (r seen at : ℕ) (grouped words : List ℕ) (lt : r < length ps)
      (new : bit_at seen r ≡ false) (g : Grouped ps numbers equal r seen at grouped words) where
    abbrev members : ℕ
    members = get_or equal r 0

    abbrev values : List ℕ
    values = map (λ t. get_or numbers t 0) (bits members)

    same_in : (s : ℕ) → s < length ps → ranked ps r ≡ ranked ps s → T (bit_at members s)
    same_in s h e =
        T-true (bit_at members s) (table r lt s (omega arith) ∙ rw (lt-ltb s (length ps) h) (same-true (ranked ps r) (ranked ps s) e))

    in_same : (s : ℕ) → s < 64 → T (bit_at members s) → (s < length ps) × (ranked ps r ≡ ranked ps s)
    in_same s h i =
        let p = and_split (ltb s (length ps)) (same (ranked ps r) (ranked ps s)) (subst T (table r lt s h) i) in
        (ltb→lt s (length ps) p.0, same_eq (ranked ps r) (ranked ps s) p.1)

    -- none of them was seen
    group_apart : (s : ℕ) → s < 64 → T (bit_at members s) → bit_at seen s ≡ false
    group_apart s h i = go (bit_at seen s) refl
      where
        go : (b : Bool) → bit_at seen s ≡ b → bit_at seen s ≡ false
        go true e = clash (true-T (bit_at seen r) (g.whole s r h lt (sym (in_same s h i).1) (T-true (bit_at seen s) e))) new
        go false e = e

    -- there is room for them
    pub group_room : (0 < length (bits members)) × (at + length (bits members) ≤ 64)
    group_room =
        (size_some members r (omega arith) (same_in r lt refl), omega (arith, g.size, size_both_le seen members group_apart))

    -- the word of the group
    group_word : (word : ℕ) → word ≡ 64 * length (bits members) + at → (word % 64 ≡ at) × (word / 64 ≡ length (bits members))
    group_word word e = let h = group_room in (omega arith, omega arith)

    module _ (word seen' at' : ℕ) (grouped' words' : List ℕ) (is : word ≡ 64 * length (bits members) + at)
        (union : (j : ℕ) → j < 64 → bit_at seen' j ≡ (bit_at seen j || bit_at members j)) (next : at' ≡ at + length (bits members))
        (numbered : grouped' ≡ sets grouped at values)
        (stored : (s : ℕ) → s < 64 → get_or words' s 0 ≡ cond (bit_at members s) word (get_or words s 0)) where
      fits : at + length values ≤ length grouped
      fits = omega (arith, g.room.0, group_room.1, length-map (bits members) (λ t. get_or numbers t 0))

      -- which of the two sets a rank is in
      which : (s : ℕ) → s < 64 → T (bit_at seen' s) → T (bit_at members s) ⊎ (T (bit_at seen s) × (bit_at members s ≡ false))
      which s h i = go (bit_at members s) refl (or_cases (bit_at seen s) (bit_at members s) (subst T (union s h) i))
        where
          go : (b : Bool) → bit_at members s ≡ b → T (bit_at seen s) ⊎ T (bit_at members s)
              → T (bit_at members s) ⊎ (T (bit_at seen s) × (bit_at members s ≡ false))
          go true e x = inl (T-true (bit_at members s) e)
          go false e (inl x) = inr (x, e)
          go false e (inr x) = inl x

      put_in : (s : ℕ) → s < 64 → T (bit_at seen s) ⊎ T (bit_at members s) → T (bit_at seen' s)
      put_in s h (inl x) = subst T (sym (union s h)) (or_left (bit_at seen s) (bit_at members s) x)
      put_in s h (inr x) = subst T (sym (union s h)) (or_right (bit_at seen s) (bit_at members s) x)

      new_there : (s : ℕ) → s < 64 → T (bit_at members s) → GroupAt numbers equal grouped' words' at' s
      new_there s h i =
          let w : get_or words' s 0 ≡ word = stored s h ∙ ap (λ (b : Bool). cond b word (get_or words s 0)) (true-T (bit_at members s) i) in
          let p = group_word word is in
          let q = in_same s h i in
          let own : bits members ≡ bits (get_or equal s 0) =
          bits_same members (get_or equal s 0)
          (λ j k. table r lt j k ∙ ap (λ (x : List ℕ). ltb j (length ps) && same x (ranked ps j)) q.1 ∙ sym (table s q.0 j k)) in
          let n = length-map (bits members) (λ t. get_or numbers t 0) in (
            rw (w, p.0, p.1, next) (le_refl (at + length (bits members))),
            rw (w, p.0, p.1, numbered, sym own) (rw n at (written grouped values at fits)),
          )

      old_there : (s : ℕ) → s < 64 → T (bit_at seen s) → bit_at members s ≡ false → GroupAt numbers equal grouped' words' at' s
      old_there s h i o =
          let w : get_or words' s 0 ≡ get_or words s 0 = stored s h ∙ ap (λ (b : Bool). cond b word (get_or words s 0)) o in
          let p = g.there s h i in (
            rw w (omega (arith, p.0, next)),
            rw (w, numbered) (unwritten grouped values at fits (get_or words s 0 % 64) (get_or words s 0 / 64) p.0 ∙ p.1),
          )

      pub grouped_more : Grouped ps numbers equal (r + 1) seen' at' grouped' words'
      grouped_more =
          record {
            below = λ s h. below s h (dec_lt s r);
            whole = λ s t h k e i. whole s t h k e (which s h i);
            room = (ap length numbered ∙ length-sets grouped at values ∙ g.room.0, omega (arith, next, group_room.1));
            size = next ∙ ap (λ (n : ℕ). n + length (bits members)) g.size ∙ sym (size_either seen members group_apart seen' union);
            there = λ s h i. there s h (which s h i);
          }
        where
          below : (s : ℕ) → s < r + 1 → Dec (s < r) → T (bit_at seen' s)
          below s h (yes l) = put_in s (omega arith) (inl (g.below s l))
          below s h (no l) = let q : s ≡ r = omega arith in rw q (put_in r (omega arith) (inr (same_in r lt refl)))

          whole : (s t : ℕ) → s < 64 → t < length ps → ranked ps s ≡ ranked ps t → T (bit_at members s) ⊎ (T (bit_at seen s) × (bit_at members s ≡ false))
              → T (bit_at seen' t)
          whole s t h k e (inl x) = put_in t (omega arith) (inr (same_in t k ((in_same s h x).1 ∙ e)))
          whole s t h k e (inr x) = put_in t (omega arith) (inl (g.whole s t h k e x.0))

          there : (s : ℕ) → s < 64 → T (bit_at members s) ⊎ (T (bit_at seen s) × (bit_at members s ≡ false)) → GroupAt numbers equal grouped' words' at' s
          there s h (inl x) = new_there s h x
          there s h (inr x) = old_there s h x.0 x.1
