-- The refusals of the calls that make set and automaton are those of the definition, and where
-- there is none the arrays begin with the words of the patterns' set and of its automaton. Each
-- pattern makes a good set of the one before, and the arrays have room for all that an input may
-- hold.
use Rattle.std.specs.Prelude.{◌≡◌, ◌||◌, ◌∷◌, ◌++◌, ◌+◌, ◌*◌, ◌≤◌, ◌<◌}
use Rattle.lists.proofs.Prelude.{◌∙◌, ap, sym, refl, subst, Bool, true, false, cond, List, [], map, append-nil, append_assoc}
use Rattle.lists.proofs.Prelude.{flatten, ℕ, zero, suc, ℤ, T, eqb, leb, ltb, leb-false, ltb-false, length, length-append}
use Rattle.lists.proofs.Prelude.{length-drop, drop, arith, le-ltb, any, all, begins}
use Rattle.lists.proofs.Parts.{length_snoc}
use Rattle.lists.proofs.Rows.{flatten_snoc}
use Rattle.lists.proofs.Tests.{true-T, not_zero}
use Rattle.lists.proofs.Members.{none_snoc}
use Rattle.lists.proofs.Same.{begins_iff}
use Rattle.gaps.specs.Gaps.{holds_gap}
use Rattle.cartesian.specs.Cartesian.{distances}
use Rattle.cartesian.proofs.Seek.{length-distances}
use Rattle.realization.specs.Realization.{Realizable}
use Rattle.realization.proofs.Realizable.{realizable_iff}
use Rattle.pattern_set.specs.PatternSet.{PatternSet, set_words, good_pattern, good_set, has_one_value, holds_one_value, is_set, patterns_of}
use Rattle.pattern_set.proofs.Good.{good_pattern_is, good_more}
use Rattle.pattern_set.proofs.Words.{length-set_words}
use Rattle.pattern_set.proofs.IsSet.{IsSet-words, patterns_of_words}
use Rattle.automaton_model.specs.Automaton.{automaton_words}
use Rattle.entries.specs.Entries.{first_met, unless, after, empty_set_entry, add_entry, build_entry}
use Rattle.hits_calls.specs.Prepared.{add_all, make_set, make_both}
use Rattle.hits_printed.specs.Printed.{refusal_of}

-- ---- the distances of values are a good pattern

good_values : (xs : List ℤ) → (eqb (length xs) 0 ≡ false) → length xs ≤ 256 → T (good_pattern (distances xs))
unfolding Realizable
good_values xs n l =
    let d = length-distances xs in
    let some = not_zero (length xs) n in
    good_pattern_is (distances xs) (omega (arith, d, some)) (omega (arith, d, l)) ((realizable_iff (distances xs)).1 (xs, refl))

-- ---- one pattern after the other

-- the array begins with the words of the patterns, which are a good set and have two values or more
record Holds (ws : List ℕ) (ps : PatternSet) : Type 0 where
  good : T (good_set ps)
  many : holds_one_value ps ≡ false
  rest : List ℕ
  words : ws ≡ set_words ps ++ rest

Holds-set : (ws : List ℕ) (ps : PatternSet) → Holds ws ps → (is_set ws ≡ true) × (patterns_of ws ≡ ps)
Holds-set ws ps h = (ap is_set h.words ∙ IsSet-words ps h.rest h.good, ap patterns_of h.words ∙ patterns_of_words ps h.rest h.good)

-- the refusal of adding to such an array that has room
add_refusal : PatternSet → List ℤ → ℕ
add_refusal ps xs =
    cond (eqb (length xs) 0) 1 (cond (ltb 256 (length xs)) 2 (cond (holds_gap xs) 13
    (cond (leb 64 (length ps) || ltb 4096 (length (flatten ps) + length xs)) 6 (cond (has_one_value xs) 15 0))))

-- none: the pattern is good and has two values or more, and there is room for it
record Fits (ps : PatternSet) (xs : List ℤ) : Type 0 where
  good : T (good_pattern (distances xs))
  many : has_one_value xs ≡ false
  few : length ps < 64
  short : length (flatten ps) + length xs ≤ 4096

fits : (ps : PatternSet) (xs : List ℤ) → add_refusal ps xs ≡ 0 → Fits ps xs
unfolding add_refusal
fits ps xs e =
    go (eqb (length xs) 0) refl (ltb 256 (length xs)) refl (holds_gap xs) (leb 64 (length ps)) refl (ltb 4096 (length (flatten ps) + length xs)) refl
    (has_one_value xs) refl e
  where
    go : (a : Bool) → eqb (length xs) 0 ≡ a → (b : Bool) → ltb 256 (length xs) ≡ b → (o c : Bool) → leb 64 (length ps) ≡ c
        → (d : Bool) → ltb 4096 (length (flatten ps) + length xs) ≡ d → (u : Bool) → has_one_value xs ≡ u
        → ◌≡◌ {A = ℕ} (cond a 1 (cond b 2 (cond o 13 (cond (c || d) 6 (cond u 15 0))))) 0 → Fits ps xs
    go true p b q o c r d s u v f = absurd (let y : ⊥ = omega arith in y)
    go false p true q o c r d s u v f = absurd (let y : ⊥ = omega arith in y)
    go false p false q true c r d s u v f = absurd (let y : ⊥ = omega arith in y)
    go false p false q false true r d s u v f = absurd (let y : ⊥ = omega arith in y)
    go false p false q false false r true s u v f = absurd (let y : ⊥ = omega arith in y)
    go false p false q false false r false s true v f = absurd (let y : ⊥ = omega arith in y)
    go false p false q false false r false s false v f =
        record {
          good = good_values xs p (ltb-false 256 (length xs) q);
          many = v;
          few = leb-false 64 (length ps) r;
          short = ltb-false 4096 (length (flatten ps) + length xs) s;
        }

-- with room, the entry's refusal is that one
module _ (ws : List ℕ) (ps : PatternSet) (xs : List ℤ) (h : Holds ws ps) (l : 1090 ≤ length ws) (n : length (flatten ps) + length xs ≤ 1023) where
  add_refusal_lem : first_met (add_entry ws xs).conditions ≡ add_refusal ps xs
  unfolding add_refusal
  add_refusal_lem =
      let w = Holds-set ws ps h in
      rw (w.0, w.1)
      (go (eqb (length xs) 0) (ltb 256 (length xs)) (holds_gap xs) (leb 64 (length ps)) refl (ltb 4096 (length (flatten ps) + length xs)) (has_one_value xs))
    where
      go : (a b o c : Bool) → leb 64 (length ps) ≡ c → (d u : Bool)
          → first_met ((1, a) ∷ (2, b) ∷ (13, o) ∷ (5, false) ∷ (6, c || d) ∷ (15, u)
          ∷ (10, ltb (length ws) (4 + length ps + (length (flatten ps) + length xs))) ∷ [])
          ≡ cond a 1 (cond b 2 (cond o 13 (cond (c || d) 6 (cond u 15 0))))
      go true b o c r d u = refl
      go false true o c r d u = refl
      go false false true c r d u = refl
      go false false false true r d u = refl
      go false false false false r true u = refl
      go false false false false r false true = refl
      go false false false false r false false =
          let f = leb-false 64 (length ps) r in
          rw (le-ltb (length ws) (4 + length ps + (length (flatten ps) + length xs))
          (let y : 4 + length ps + (length (flatten ps) + length xs) ≤ length ws = omega arith in y)) refl

  -- and where there is none, the array holds the larger set then
  added : add_refusal ps xs ≡ 0 → Holds (after (add_entry ws xs) ws) (ps ++ (distances xs ∷ [])) × (length (after (add_entry ws xs) ws) ≡ length ws)
  added e =
      let f = fits ps xs e in
      let w = Holds-set ws ps h in
      let qs = ps ++ (distances xs ∷ []) in
      let d = length-distances xs in
      let g : T (good_set qs) = good_more ps (distances xs) h.good f.good f.few (omega (arith, d, f.short)) in
      let is : after (add_entry ws xs) ws ≡ set_words qs ++ drop (length (set_words qs)) ws =
      ap (λ (r : ℕ). unless r (after_add (patterns_of ws)) ws) (add_refusal_lem ∙ e)
      ∙ ap after_add w.1 in
      let flat : length (flatten qs) ≡ length (flatten ps) + length (distances xs) =
      ap length (flatten_snoc ps (distances xs)) ∙ length-append (flatten ps) (distances xs) in
      let size : length (set_words qs) ≤ length ws = omega (arith, length-set_words qs, length_snoc ps (distances xs), flat, d, f.few) in
      let long : length (set_words qs ++ drop (length (set_words qs)) ws) ≡ length ws =
      omega (arith, length-append (set_words qs) (drop (length (set_words qs)) ws), length-drop (length (set_words qs)) ws, size) in
      (record { good = g; many = longer f.many; rest = drop (length (set_words qs)) ws; words = is }, ap length is ∙ long)
    where
      after_add : PatternSet → List ℕ
      after_add rs = set_words (rs ++ (distances xs ∷ [])) ++ drop (length (set_words (rs ++ (distances xs ∷ [])))) ws

      longer : has_one_value xs ≡ false → holds_one_value (ps ++ (distances xs ∷ [])) ≡ false
      longer e = none_snoc has_one_value ps (distances xs) h.many (ap (λ (n : ℕ). eqb n 1) (length-distances xs) ∙ e)

-- ---- all patterns, and the automaton

-- what the calls leave: the refusal q; and where there is none, the set of all patterns in its
-- array
record Added (automaton : List ℕ) (q : ℕ) (s : ℕ × List ℕ) (ps : PatternSet) : Type 0 where
  refusal : unless s.0 (first_met (build_entry s.1 automaton).conditions) s.0 ≡ q
  accepted : q ≡ 0 → s.0 ≡ 0
  set : q ≡ 0 → Holds s.1 ps
  some : q ≡ 0 → 0 < length ps

-- the definition's refusal, by that of the first pattern
refusal_cons : (ps : PatternSet) (xs : List ℤ) (xss : List (List ℤ))
    → refusal_of ps (xs ∷ xss) ≡ unless (add_refusal ps xs) (refusal_of (ps ++ (distances xs ∷ [])) xss) (add_refusal ps xs)
unfolding refusal_of add_refusal
refusal_cons ps xs xss =
    go (eqb (length xs) 0) (ltb 256 (length xs)) (holds_gap xs) (leb 64 (length ps) || ltb 4096 (length (flatten ps) + length xs)) (has_one_value xs)
    (refusal_of (ps ++ (distances xs ∷ [])) xss)
  where
    go : (a b o c u : Bool) (n : ℕ) → cond a 1 (cond b 2 (cond o 13 (cond c 6 (cond u 15 n))))
        ≡ unless (cond a 1 (cond b 2 (cond o 13 (cond c 6 (cond u 15 0))))) n (cond a 1 (cond b 2 (cond o 13 (cond c 6 (cond u 15 0)))))
    go true b o c u n = refl
    go false true o c u n = refl
    go false false true c u n = refl
    go false false false true u n = refl
    go false false false false true n = refl
    go false false false false false n = refl

length-cons : (xs : List ℤ) (xss : List (List ℤ)) → length (flatten (xs ∷ xss)) ≡ length xs + length (flatten xss)
unfolding flatten
length-cons xs xss = length-append xs (flatten xss)

module _ (automaton : List ℕ) (m : 16384 ≤ length automaton) where
  -- building has room
  built : (ws : List ℕ) (ps : PatternSet) → Holds ws ps → length (flatten ps) ≤ 1023
      → first_met (build_entry ws automaton).conditions ≡ cond (eqb (length ps) 0) 1 0
  built ws ps h n =
      let w = Holds-set ws ps h in
      rw (
        w.0,
        w.1,
        h.many,
        le-ltb (length automaton) (16 * (1 + length (flatten ps)))
            (let y : 16 * (1 + length (flatten ps)) ≤ length automaton = omega arith in y),
      ) (go (eqb (length ps) 0))
    where
      go : (b : Bool) → first_met ((1, b) ∷ (5, false) ∷ (15, false) ∷ (10, false) ∷ []) ≡ cond b 1 0
      go true = refl
      go false = refl

  some_patterns : (n : ℕ) → ◌≡◌ {A = ℕ} (cond (eqb n 0) 1 0) 0 → 0 < n
  some_patterns zero e = absurd (let y : ⊥ = omega arith in y)
  some_patterns (suc n) e = omega arith

  add_all_lem : (xss : List (List ℤ)) (ws : List ℕ) (ps : PatternSet) → Holds ws ps → 1090 ≤ length ws → length (flatten ps) + length (flatten xss) ≤ 1023
      → Added automaton (refusal_of ps xss) (add_all xss ws) (ps ++ map distances xss)
  unfolding add_all refusal_of
  add_all_lem [] ws ps h l n =
      record {
        refusal = built ws ps h (omega arith);
        accepted = λ e. refl;
        set = λ e. subst (Holds ws) (sym (append-nil ps)) h;
        some = λ e. subst (λ (qs : PatternSet). 0 < length qs) (sym (append-nil ps)) (some_patterns (length ps) e);
      }
  add_all_lem (xs ∷ xss) ws ps h l n =
      subst (λ (q : ℕ). Added automaton q (add_all (xs ∷ xss) ws) (ps ++ map distances (xs ∷ xss))) (sym (refusal_cons ps xs xss))
      (subst (λ (s : ℕ × List ℕ). Added automaton (unless r (refusal_of next xss) r) s (ps ++ map distances (xs ∷ xss)))
      (sym (ap (λ (k : ℕ). unless {A = ℕ × List ℕ} k (add_all xss (after (add_entry ws xs) ws)) (k, ws)) (add_refusal_lem ws ps xs h l room)))
      (go r refl (λ e. let a = added ws ps xs h l room e in
      add_all_lem xss (after (add_entry ws xs) ws) next a.0 (omega (arith, a.1))
      (omega (arith, ap length (flatten_snoc ps (distances xs)) ∙ length-append (flatten ps) (distances xs), length-distances xs, length-cons xs xss)))))
    where
      next : PatternSet
      next = ps ++ (distances xs ∷ [])

      r : ℕ
      r = add_refusal ps xs

      room : length (flatten ps) + length xs ≤ 1023
      room = omega (arith, n, length-cons xs xss)

      go : (k : ℕ) → r ≡ k → (r ≡ 0 → Added automaton (refusal_of next xss) (add_all xss (after (add_entry ws xs) ws)) (next ++ map distances xss))
          → Added automaton (unless k (refusal_of next xss) k) (unless k (add_all xss (after (add_entry ws xs) ws)) (k, ws)) (ps ++ map distances (xs ∷ xss))
      go zero e ih =
          subst (λ (qs : PatternSet). Added automaton (refusal_of next xss) (add_all xss (after (add_entry ws xs) ws)) qs)
          (append_assoc ps (distances xs ∷ []) (map distances xss)) (ih e)
      go (suc k) e ih =
          record {
            refusal = refl;
            accepted = λ q. absurd (let y : ⊥ = omega arith in y);
            set = λ q. absurd (let y : ⊥ = omega arith in y);
            some = λ q. absurd (let y : ⊥ = omega arith in y);
          }

  -- ---- from the empty set

  empty-Holds : (ws : List ℕ) → 1090 ≤ length ws → Holds (after (empty_set_entry ws) ws) [] × (length (after (empty_set_entry ws) ws) ≡ length ws)
  unfolding good_set flatten all any
  empty-Holds ws l =
      let words : after (empty_set_entry ws) ws ≡ set_words [] ++ drop (length (set_words [])) ws =
      rw (le-ltb (length ws) 3 (let y : 3 ≤ length ws = omega arith in y)) refl in
      let long = length-append (set_words []) (drop (length (set_words [])) ws) in (
        record { good = tt; many = refl; rest = drop (length (set_words [])) ws; words = words },
        ap length words ∙ (omega (arith, long, length-set_words [], length-drop (length (set_words [])) ws)),
      )

  made : (xss : List (List ℤ)) (ws : List ℕ) → 1090 ≤ length ws → length (flatten xss) ≤ 1023
      → Added automaton (refusal_of [] xss) (make_set xss ws) (map distances xss)
  unfolding make_set flatten
  made xss ws l n =
      let h = empty-Holds ws l in
      let none-met : first_met (empty_set_entry ws).conditions ≡ 0 = rw (le-ltb (length ws) 3 (let y : 3 ≤ length ws = omega arith in y)) refl in
      subst (λ (s : ℕ × List ℕ). Added automaton (refusal_of [] xss) s (map distances xss))
      (sym (ap (λ (r : ℕ). unless {A = ℕ × List ℕ} r (add_all xss (after (empty_set_entry ws) ws)) (r, ws)) none-met))
      (add_all_lem xss (after (empty_set_entry ws) ws) [] h.0 (omega (arith, h.1)) (omega arith))

-- WHAT IS PREPARED for a search over the patterns
pub record Searchable (set automaton : List ℕ) (ps : PatternSet) : Type 0 where
  pub good : T (good_set ps)
  pub some : 0 < length ps
  pub many : holds_one_value ps ≡ false
  pub is_set : is_set set ≡ true
  pub patterns : patterns_of set ≡ ps
  pub words : begins automaton (automaton_words ps) ≡ true

pub record Prepared (xss : List (List ℤ)) (set automaton : List ℕ) : Type 0 where
  pub refusal : (make_both xss set automaton).0 ≡ refusal_of [] xss
  pub ready : refusal_of [] xss ≡ 0 → Searchable (make_set xss set).1 (make_both xss set automaton).1 (map distances xss)

pub prepared : (xss : List (List ℤ)) (set automaton : List ℕ) → 1090 ≤ length set → 16384 ≤ length automaton → length (flatten xss) ≤ 1023
    → Prepared xss set automaton
unfolding make_both
prepared xss set automaton l m n =
    let a = made automaton m xss set l n in
    record {
      refusal = told (make_set xss set).0 ∙ a.refusal;
      ready = λ e. ready_of a e;
    }
  where
    S : List ℕ
    S = (make_set xss set).1

    B : ℕ
    B = first_met (build_entry S automaton).conditions

    told : (k : ℕ) → (unless {A = ℕ × List ℕ} k (B, after (build_entry S automaton) automaton) (k, automaton)).0 ≡ unless k B k
    told zero = refl
    told (suc k) = refl

    ready_of : Added automaton (refusal_of [] xss) (make_set xss set) (map distances xss) → refusal_of [] xss ≡ 0
        → Searchable S (make_both xss set automaton).1 (map distances xss)
    ready_of a e =
        let h = a.set e in
        let w = Holds-set S (map distances xss) h in
        let s0 = a.accepted e in
        let b0 : B ≡ 0 = sym (ap (λ (k : ℕ). unless k B k) s0) ∙ a.refusal ∙ e in
        let is : (make_both xss set automaton).1 ≡ automaton_words (map distances xss) ++ drop (length (automaton_words (map distances xss))) automaton =
        ap (λ (k : ℕ). (unless {A = ℕ × List ℕ} k (B, after (build_entry S automaton) automaton) (k, automaton)).1) s0
        ∙ ap (λ (k : ℕ). unless k (words_of (patterns_of S)) automaton) b0
        ∙ ap words_of w.1 in
        record {
          good = h.good;
          some = a.some e;
          many = h.many;
          is_set = w.0;
          patterns = w.1;
          words = true-T (begins (make_both xss set automaton).1 (automaton_words (map distances xss)))
              ((begins_iff (make_both xss set automaton).1 (automaton_words (map distances xss))).1
              (drop (length (automaton_words (map distances xss))) automaton, is));
        }
      where
        words_of : PatternSet → List ℕ
        words_of qs = automaton_words qs ++ drop (length (automaton_words qs)) automaton
