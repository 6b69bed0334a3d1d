-- THE CHECK BY THE WORDS: for a window that has the pattern's own fingerprint it is the check by
-- all global parents, since the comparisons that are left out hold of it.
use Rattle.std.specs.Prelude.{◌≡◌, ◌+◌, ◌-◌, ◌*◌, ◌/◌, ◌%◌, ◌≤◌, ◌<◌}
use Rattle.lists.proofs.Prelude.{sym, refl, subst, Bool, true, false, List, Memᴰ, ℕ, suc, ℤ}
use Rattle.lists.proofs.Prelude.{drop, drop-cons, drop_of_length-le, add-one}
use Rattle.lists.proofs.Prelude.{T, length, get_or, dec_lt, arith, eq-eqb, ne_eqb, lt-ltb, le-ltb, last_of, tabulate, all, select}
use Rattle.lists.proofs.Tests.{T-true, true-T, test_ext, and_split, and_join, clash}
use Rattle.lists.proofs.Members.{all-mem, mem-all, get_or-mem, mem-map, mem_below, all_below, below_all}
use Rattle.lists.proofs.Select.{mem-select}
use Rattle.lists.proofs.Tables.{get_or-tabulate}
use Rattle.realization.specs.Realization.{realizable}
use Rattle.fingerprint.specs.Fingerprint.{fingerprint}
use Rattle.global_parents.specs.GlobalParents.{global_parent, global_parents}
use Rattle.global_parents.specs.Passes.{passes_at, passes, ParentsArePlaces}
use Rattle.global_parents.proofs.Parents.{length-global_parents, global_parents_places}
use Rattle.global_parents.proofs.Comparison.{passes_left_lem, passes_right_lem}
use Rattle.filter_plan.specs.Plan.{pattern_fingerprint, own_length}
use Rattle.filter_plan.proofs.Decided.{decided_left, decided_right, decided_root}
use Rattle.filter_checks.specs.Comparisons.{is_apart, is_asked, side_words, left_words, right_words, passes_left, passes_right, WordsArePlaces, passes_words}

-- ---- a list tested word by word

pub one_passes : (test : ℕ → Bool) (words : List ℕ) (k : ℕ) → k < length words → test (get_or words k 0) ≡ true
    → all test (drop k words) ≡ all test (drop (k + 1) words)
unfolding all
one_passes test words k h e = rw (drop-cons words k 0 h, add-one k, e) refl

pub one_fails : (test : ℕ → Bool) (words : List ℕ) (k : ℕ) → k < length words → test (get_or words k 0) ≡ false → all test (drop k words) ≡ false
unfolding all
one_fails test words k h e = rw (drop-cons words k 0 h, e) refl

pub none_left : (test : ℕ → Bool) (words : List ℕ) (k : ℕ) → length words ≤ k → all test (drop k words) ≡ true
unfolding all
none_left test words k h = rw (drop_of_length-le words {i = k} h) refl

-- ---- the words of a side

side_word : (right : Bool) (from : ℕ) (parents : List ℕ) (w : ℕ) → Memᴰ w (side_words right from parents)
    → (i : ℕ) × (i < length parents) × (is_asked right from (get_or parents i 0) i ≡ true) × (w ≡ i + 256 * get_or parents i 0)
unfolding side_words
side_word right from parents w m =
    let a = (mem-map (λ i. i + 256 * get_or parents i 0) (select (λ i. is_asked right from (get_or parents i 0) i) (tabulate (length parents) (λ i. i)))
    w).0 m in
    let b = (mem-select (λ i. is_asked right from (get_or parents i 0) i) (tabulate (length parents) (λ i. i)) a.0).0 a.1 in
    (a.0, (mem_below (length parents) a.0).0 b.0, true-T _ b.1, a.2)

word_side : (right : Bool) (from : ℕ) (parents : List ℕ) (i : ℕ) → i < length parents → is_asked right from (get_or parents i 0) i ≡ true
    → Memᴰ (i + 256 * get_or parents i 0) (side_words right from parents)
unfolding side_words
word_side right from parents i h e =
    (mem-map (λ i. i + 256 * get_or parents i 0) (select (λ i. is_asked right from (get_or parents i 0) i) (tabulate (length parents) (λ i. i)))
    (i + 256 * get_or parents i 0)).1 (
      i,
      (mem-select (λ i. is_asked right from (get_or parents i 0) i) (tabulate (length parents) (λ i. i)) i).1 ((mem_below (length parents) i).1 h, T-true _ e),
      refl,
    )

-- place and parent of a word
word_parts : (i g : ℕ) → i < 256 → ((i + 256 * g) / 256 ≡ g) × ((i + 256 * g) % 256 ≡ i)
word_parts i g h = (omega arith, omega arith)

pub side_places : (right : Bool) (from : ℕ) (parents : List ℕ) → length parents ≤ 256 → ParentsArePlaces parents
    → WordsArePlaces (side_words right from parents) (length parents)
side_places right from parents l f k h =
    let w = side_word right from parents (get_or (side_words right from parents) k 0) (get_or-mem (side_words right from parents) k 0 h) in
    let p = word_parts w.0 (get_or parents w.0 0) (omega (arith, w.1, l)) in
    rw (w.3, p.0, p.1) (f w.0 w.1, w.1)

-- one side after the other
pub both_pass : (parents : List ℕ) (window : List ℤ) {b : Bool} → all (passes_left window) (left_words parents) ≡ true
    → b ≡ all (passes_right window) (right_words parents) → b ≡ passes_words parents window
unfolding passes_words
both_pass parents window e f = rw e f

pub left_fails : (parents : List ℕ) (window : List ℤ) → all (passes_left window) (left_words parents) ≡ false → false ≡ passes_words parents window
unfolding passes_words
left_fails parents window e = rw e refl

-- ---- which comparisons are left out

apart_lt : (from a b : ℕ) → is_apart from a b ≡ true → a < b
apart_lt from a b e = go (dec_lt a b)
  where
    go : Dec (a < b) → a < b
    go (yes h) = h
    go (no h) = clash e (rw (ne_eqb (suc a) b (λ q. let z : ⊥ = omega arith in z)) (le-ltb a b (omega arith)))

-- neighbours that are both from `from` on
not_apart : (from a b : ℕ) → a < b → is_apart from a b ≡ false → (suc a ≡ b) × (from ≤ a)
not_apart from a b h e = go (dec_lt (suc a) b) (dec_lt a from)
  where
    go : Dec (suc a < b) → Dec (a < from) → (suc a ≡ b) × (from ≤ a)
    go (yes l) d = clash (rw (ne_eqb (suc a) b (λ q. let z : ⊥ = omega arith in z)) (lt-ltb a b h)) e
    go (no l) (yes k) = clash (rw (eq-eqb (suc a) b (omega arith)) (lt-ltb a from k)) e
    go (no l) (no k) = (omega arith, omega arith)

-- ---- the law

module _ (p : List ℕ) (r : T (realizable p)) (short : length p ≤ 256) (window : List ℤ) (len : length window ≡ length p)
    (e : fingerprint (last_of (own_length p) window) ≡ pattern_fingerprint (own_length p) p) where
  abbrev gs : List ℕ
  gs = global_parents p

  abbrev from : ℕ
  from = length gs - 17

  abbrev parent : ℕ → ℕ
  parent i = get_or gs i 0

  parent_is : (i : ℕ) → i < length p → global_parent p i ≡ parent i
  unfolding global_parents
  parent_is i h = sym (get_or-tabulate (length p) (global_parent p) 0 i h)

  inside : (i : ℕ) → i < length p → i < length gs
  inside i h = omega (arith, h, length-global_parents p)

  -- a comparison that is left out holds
  left_out : (i : ℕ) → i < length p → is_apart from (parent i) i ≡ false → is_apart from i (parent i) ≡ false → T (passes_at window (parent i) i)
  left_out i h a b = go (dec_lt (parent i) i) (dec_lt i (parent i))
    where
      n : length gs ≡ length p
      n = length-global_parents p

      go : Dec (parent i < i) → Dec (i < parent i) → T (passes_at window (parent i) i)
      go (yes l) d =
          let q = not_apart from (parent i) i l a in
          decided_left p r window len e (parent i) i (parent_is i h) q.0 (omega (arith, q.1, n)) h
      go (no l) (yes k) =
          let q = not_apart from i (parent i) k b in
          decided_right p r window len e (parent i) i (parent_is i h) q.0 (omega (arith, q.1, n))
          (omega (arith, global_parents_places p i (inside i h), n))
      go (no l) (no k) = let q : parent i ≡ i = omega arith in subst (λ (g : ℕ). T (passes_at window g i)) (sym q) (decided_root window i)

  -- a comparison of the list is that of its place
  is_left : (i : ℕ) → i < length p → is_apart from (parent i) i ≡ true → passes_left window (i + 256 * parent i) ≡ passes_at window (parent i) i
  is_left i h a =
      let w = word_parts i (parent i) (omega (arith, h, short)) in
      rw (w.0, w.1) (passes_left_lem window (parent i) i (omega (arith, apart_lt from (parent i) i a)))

  is_right : (i : ℕ) → i < length p → is_apart from i (parent i) ≡ true → passes_right window (i + 256 * parent i) ≡ passes_at window (parent i) i
  is_right i h a =
      let w = word_parts i (parent i) (omega (arith, h, short)) in
      rw (w.0, w.1) (passes_right_lem window (parent i) i (apart_lt from i (parent i) a))

  from_words : T (passes_words gs window) → (i : ℕ) → i < length p → T (passes_at window (parent i) i)
  unfolding passes_words
  from_words t i h = go (is_apart from (parent i) i) refl (is_apart from i (parent i)) refl
    where
      s : T (all (passes_left window) (left_words gs)) × T (all (passes_right window) (right_words gs))
      s = and_split (all (passes_left window) (left_words gs)) (all (passes_right window) (right_words gs)) t

      go : (b : Bool) → is_apart from (parent i) i ≡ b → (c : Bool) → is_apart from i (parent i) ≡ c → T (passes_at window (parent i) i)
      go true a c d =
          subst T (is_left i h a)
          (all-mem (passes_left window) (left_words gs) s.0 (i + 256 * parent i) (word_side false from gs i (inside i h) a))
      go false a true d =
          subst T (is_right i h d)
          (all-mem (passes_right window) (right_words gs) s.1 (i + 256 * parent i) (word_side true from gs i (inside i h) d))
      go false a false d = left_out i h a d

  to_words : ((i : ℕ) → i < length p → T (passes_at window (parent i) i)) → T (passes_words gs window)
  unfolding passes_words
  to_words f =
      and_join (all (passes_left window) (left_words gs)) (all (passes_right window) (right_words gs))
      (mem-all (passes_left window) (left_words gs)
      (λ w m. let q = side_word false from gs w m in
      let h : q.0 < length p = omega (arith, q.1, length-global_parents p) in
      rw q.3 (subst T (sym (is_left q.0 h q.2)) (f q.0 h))))
      (mem-all (passes_right window) (right_words gs)
      (λ w m. let q = side_word true from gs w m in
      let h : q.0 < length p = omega (arith, q.1, length-global_parents p) in
      rw q.3 (subst T (sym (is_right q.0 h q.2)) (f q.0 h))))

  -- THE LAW
  pub words_pass : passes_words gs window ≡ passes p window
  unfolding passes
  words_pass =
      test_ext (passes_words gs window) (passes p window)
      (λ t. below_all (λ i. passes_at window (global_parent p i) i) (length p) (λ i h. rw (parent_is i h) (from_words t i h)))
      (λ t. to_words (λ i h. rw (parent_is i h) at (all_below (λ i. passes_at window (global_parent p i) i) (length p) t i h)))
