-- GROUPS OF EQUAL PATTERNS: those left are checked one by one, and each answer is that of all equal
-- patterns; a hit settles all patterns of its length.
use Rattle.std.specs.Prelude.{◌≡◌, ◌&&◌, ◌-◌, ◌^◌, ◌≤◌, ◌<◌}
use Rattle.lists.proofs.Prelude.{◌∙◌, ap, sym, refl, subst, ap₂, Bool, true, false, not, List, ℕ, min, ℤ, T, leb, ltb}
use Rattle.lists.proofs.Prelude.{leb→le, length, get_or, dec_lt, arith, leb-false, lt-ltb, ltb-true, same}
use Rattle.lists.proofs.Tests.{and_split, and_join, T-true, true-T, test_ext, clash}
use Rattle.lists.proofs.Same.{same_eq, same-true}
use Rattle.bit_sets.specs.BitSets.{bit_at}
use Rattle.bit_sets.proofs.Digits.{bit_at_none}
use Rattle.bit_sets.proofs.Laws.{subset_lt}
use Rattle.realization.specs.Realization.{realizable}
use Rattle.pattern_set.specs.PatternSet.{PatternSet, good_set}
use Rattle.matching.proofs.Trees.{not_passed}
use Rattle.filter_plan.specs.Plan.{hit_order, is_hit}
use Rattle.filter_plan.proofs.HitOrder.{good_number, hit_order-lt, length-hit_order}
use Rattle.filter_plan.proofs.Checks.{hits_equal}
use Rattle.filter_tables.specs.Tables.{ranked, TableOf, fits_at}
use Rattle.filter_tables.proofs.Ranks.{ranked_falls}
use Rattle.filter_tables.proofs.Lookup.{fits_test}
use Rattle.filter_checks.specs.Equal.{EqualTo}
use Rattle.filter_windows.specs.Looks.{is_within, Fitting}
use Rattle.filter_windows.specs.Groups.{LikelyGroups, NoneHit, HitGroup}

-- of the patterns left those that are not in the rest have no hit
pub record Passed (ps : PatternSet) (text : List ℤ) (left rest : ℕ) : Type 0 where
  pub part : (r : ℕ) → r < 64 → T (bit_at rest r) → T (bit_at left r)
  pub none : (r : ℕ) → r < 64 → T (bit_at left r) → bit_at rest r ≡ false → is_hit text (ranked ps r) ≡ false
  pub groups : LikelyGroups ps text rest
  pub le : rest ≤ left

pub Passed-start : (ps : PatternSet) (text : List ℤ) (left : ℕ) → LikelyGroups ps text left → Passed ps text left left
Passed-start ps text left g = record {
  part = λ r h t. t;
  none = λ r h t e. clash (true-T (bit_at left r) t) e;
  groups = g;
  le = omega arith;
}

pub Passed-end : (ps : PatternSet) (text : List ℤ) (left rest : ℕ) → Passed ps text left rest → rest ≡ 0 → NoneHit ps text left
Passed-end ps text left rest s e r h t = s.none r h t (ap (λ (n : ℕ). bit_at n r) e ∙ bit_at_none r)

-- rank r of the rest is taken, and with it the set of the ranks whose pattern equals that of rank r
module _ (ps : PatternSet) (text : List ℤ) (left rest r members : ℕ) (good : T (good_set ps)) (before : Passed ps text left rest) (small : r < 64)
    (here : T (bit_at rest r)) (equal : EqualTo ps r members) where
  -- a member has the pattern of rank r, and is in the rest
  member : (j : ℕ) → j < 64 → T (bit_at members j) → (ranked ps j ≡ ranked ps r) × T (bit_at rest j)
  member j h t =
      let s = and_split (ltb j (length ps)) (same (ranked ps r) (ranked ps j)) (subst T (equal j h) t) in
      let e = sym (same_eq (ranked ps r) (ranked ps j) s.1) in
      (e, (before.groups r small here).2 j h (ltb-true j (length ps) (true-T (ltb j (length ps)) s.0)) e)

  -- and what has that pattern is a member
  is_member : (j : ℕ) → j < 64 → j < length ps → ranked ps j ≡ ranked ps r → bit_at members j ≡ true
  is_member j h k e = equal j h ∙ ap₂ ◌&&◌ (lt-ltb j (length ps) k) (same-true (ranked ps r) (ranked ps j) (sym e))

  inside : (j : ℕ) → j < 64 → T (bit_at rest j) → j < length ps
  inside j h t = (before.groups j h t).0

  -- what is left without rank r is less
  less : (rest' : ℕ) → rest' < 2 ^ 64 → ((j : ℕ) → j < 64 → T (bit_at rest' j) → T (bit_at rest j)) → bit_at rest' r ≡ false → rest' < rest
  less rest' h f e = subset_lt rest' rest r h f here e

  -- ---- rank r has no hit

  module _ (rest' : ℕ) (out : (j : ℕ) → j < 64 → bit_at rest' j ≡ (bit_at rest j && not (bit_at members j))) where
    kept : (j : ℕ) → j < 64 → T (bit_at rest' j) → T (bit_at rest j) × (bit_at members j ≡ false)
    kept j h t =
        let s = and_split (bit_at rest j) (not (bit_at members j)) (subst T (out j h) t) in
        (s.0, not_passed (bit_at members j) s.1)

    pub miss_less : rest' < 2 ^ 64 → rest' < rest
    miss_less h =
        less rest' h (λ j k t. (kept j k t).0)
        (test_ext (bit_at rest' r) false (λ t. clash (is_member r small (inside r small here) refl) (kept r small t).1) (λ t. absurd t))

    pub Passed-miss : rest' < 2 ^ 64 → is_hit text (ranked ps r) ≡ false → Passed ps text left rest'
    Passed-miss big miss = record {
      part = λ j h t. before.part j h (kept j h t).0;
      none = λ j h t e. gone j h t e (bit_at rest j) refl (bit_at members j) refl;
      groups = λ j h t. let s = kept j h t in
          let g = before.groups j h s.0 in
          let others = other j h t in (
            g.0,
            g.1,
            λ i k l e. subst T (sym (out i k)) (and_join (bit_at rest i) (not (bit_at members i)) (g.2 i k l e) (others i k e (bit_at members i) refl)),
          );
      le = omega (arith, miss_less big, before.le);
    }
      where
        gone : (j : ℕ) → j < 64 → T (bit_at left j) → bit_at rest' j ≡ false → (b : Bool) → bit_at rest j ≡ b → (c : Bool) → bit_at members j ≡ c
            → is_hit text (ranked ps j) ≡ false
        gone j h t e false q c m = before.none j h t q
        gone j h t e true q true m = ap (is_hit text) (member j h (T-true (bit_at members j) m)).0 ∙ miss
        gone j h t e true q false m = clash (out j h ∙ ap₂ (λ (x y : Bool). x && not y) q m) e

        other : (j : ℕ) → j < 64 → T (bit_at rest' j) → (i : ℕ) → i < 64 → ranked ps i ≡ ranked ps j → (b : Bool) → bit_at members i ≡ b
            → T (not (bit_at members i))
        other j h t i k e false m = subst (λ (b : Bool). T (not b)) (sym m) tt
        other j h t i k e true m =
            let s = kept j h t in
            clash (is_member j h (inside j h s.0) (sym e ∙ (member i k (T-true (bit_at members i) m)).0)) s.1

  -- ---- rank r, the lowest, has a hit: those are left that have less values

  module _ (rest' n : ℕ) (fits : List ℕ) (table : TableOf ps fits_at fits) (n≡ : n ≡ length (ranked ps r)) (fit : Fitting fits (n - 1) rest rest')
      (least : (j : ℕ) → j < 64 → T (bit_at rest j) → r ≤ j) (hit : T (is_hit text (ranked ps r))) where
    -- the pattern of a rank is a good one
    good_rank : (j : ℕ) → j < length ps → (1 ≤ length (ranked ps j)) × (length (ranked ps j) ≤ 256) × T (realizable (ranked ps j))
    good_rank j h = good_number ps (get_or (hit_order ps) j 0) good (hit_order-lt ps j (omega (arith, length-hit_order ps good)))

    within_is : (j : ℕ) → j < 64 → j < length ps → is_within fits (n - 1) j ≡ leb (length (ranked ps j)) (n - 1)
    within_is j h i =
        ap (λ (b : Bool). ltb 0 (n - 1) && b) (table (min 255 (n - 1 - 1)) (omega arith) j h ∙ rw (lt-ltb j (length ps) i) refl)
        ∙ fits_test (n - 1) (ranked ps j) (good_rank j i).0 (good_rank j i).1

    -- what is left is shorter
    shorter : (j : ℕ) → j < 64 → T (bit_at rest' j) → T (bit_at rest j) × (length (ranked ps j) ≤ n - 1)
    shorter j h t =
        let s = and_split (bit_at rest j) (is_within fits (n - 1) j) (subst T (fit j h) t) in
        (s.0, leb→le (length (ranked ps j)) (n - 1) (subst T (within_is j h (inside j h s.0)) s.1))

    -- and what is gone from the rest is as long; with a hit it is a member
    settled : (j : ℕ) → j < 64 → T (bit_at rest j) → bit_at members j ≡ false → bit_at rest' j ≡ false → is_hit text (ranked ps j) ≡ false
    settled j h t f e = test_ext (is_hit text p) false (λ u. clash (is_member j h i (same_tree u)) f) (λ u. absurd u)
      where
        p : List ℕ
        p = ranked ps j

        i : j < length ps
        i = inside j h t

        longer : leb (length p) (n - 1) ≡ false
        longer = sym (within_is j h i) ∙ sym (ap (λ (b : Bool). b && is_within fits (n - 1) j) (true-T (bit_at rest j) t)) ∙ sym (fit j h) ∙ e

        one : length (ranked ps r) ≡ length p
        one =
            omega (arith, n≡, leb-false (length p) (n - 1) longer, ranked_falls ps r j good (least j h t) i, (good_rank r (inside r small here)).0)

        same_tree : T (is_hit text p) → p ≡ ranked ps r
        same_tree u = sym (hits_equal text (ranked ps r) p (good_rank r (inside r small here)).2 (good_rank j i).2 one hit u)

    pub hit_group : rest' < 2 ^ 64 → HitGroup ps text left members n rest'
    hit_group h = record {
      hit = λ j k t. let m = member j k t in
          (before.part j k m.1, subst (λ (p : List ℕ). T (is_hit text p)) (sym m.0) hit, ap length m.0 ∙ sym n≡);
      behind = λ j k t. (before.part j k (shorter j k t).0, λ i l u. lower j k t i l u (dec_lt i j));
      gone = λ j k t f e. gone j k t f e (bit_at rest j) refl;
      groups = λ j k t. let s = shorter j k t in
          let g = before.groups j k s.0 in
          (g.0, g.1, λ i l o e. subst T (sym (fit i l)) (and_join (bit_at rest i) (is_within fits (n - 1) i) (g.2 i l o e) (as_short j k t i l o e)));
      less = omega (arith, before.le, less rest' h (λ j k t. (shorter j k t).0) taken);
    }
      where
        taken : bit_at rest' r ≡ false
        taken =
            test_ext (bit_at rest' r) false
            (λ t. let z : ⊥ = omega (arith, (shorter r small t).1, n≡, (good_rank r (inside r small here)).0) in absurd z) (λ t. absurd t)

        lower : (j : ℕ) → j < 64 → T (bit_at rest' j) → (i : ℕ) → i < 64 → T (bit_at members i) → Dec (i < j) → i < j
        lower j k t i l u (yes d) = d
        lower j k t i l u (no f) =
            let m = member i l u in
            let z : ⊥ =
            omega
            (arith, (shorter j k t).1, n≡, ap length m.0, ranked_falls ps j i good (omega arith) (inside i l m.1), (good_rank r (inside r small here)).0)
            in
            absurd z

        gone : (j : ℕ) → j < 64 → T (bit_at left j) → bit_at members j ≡ false → bit_at rest' j ≡ false → (b : Bool) → bit_at rest j ≡ b
            → is_hit text (ranked ps j) ≡ false
        gone j k t f e false q = before.none j k t q
        gone j k t f e true q = settled j k (T-true (bit_at rest j) q) f e

        as_short : (j : ℕ) → j < 64 → T (bit_at rest' j) → (i : ℕ) → i < 64 → i < length ps → ranked ps i ≡ ranked ps j → T (is_within fits (n - 1) i)
        as_short j k t i l o e =
            let s = and_split (bit_at rest j) (is_within fits (n - 1) j) (subst T (fit j k) t) in
            subst T
            (within_is j k (inside j k s.0) ∙ ap (λ (p : List ℕ). leb (length p) (n - 1)) (sym e) ∙ sym (within_is i l o))
            s.1
