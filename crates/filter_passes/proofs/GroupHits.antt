-- THE HITS OF A PLACE, GROUP BY GROUP: of the ranks that are left to check, those with a hit are
-- the members of the first group that has one, in their order, and then those of the rest.
use Rattle.std.specs.Prelude.{◌≡◌, ◌&&◌, ◌||◌, ◌∷◌, ◌++◌, ◌≤◌, ◌<◌}
use Rattle.lists.proofs.Prelude.{◌∙◌, ap, sym, refl, subst, ap₂, Bool, true, false, List, [], append-nil, append_assoc, map, ℕ}
use Rattle.lists.proofs.Prelude.{zero, suc, ℤ, T, leb, leb→le, ltb, ltb-true, pos, length, get_or, take, length-take-le, arith, lt-ltb, tabulate}
use Rattle.lists.proofs.Prelude.{select, last_of, same, Memᴰ}
use Rattle.lists.proofs.Tests.{and_split, T-true, true-T, clash}
use Rattle.lists.proofs.Parts.{map-append}
use Rattle.lists.proofs.Members.{map_ext, map-map, mem_below}
use Rattle.lists.proofs.Same.{same-true}
use Rattle.lists.proofs.Select.{mem-select, select_empty, select_snoc, select_snoc_not}
use Rattle.lists.proofs.SelectTable.{select_below_ext}
use Rattle.bit_sets.specs.BitSets.{bit_at, bits}
use Rattle.bit_sets.proofs.Laws.{bits_below_lem, mem-bits}
use Rattle.pattern_set.specs.PatternSet.{PatternSet, good_set}
use Rattle.pattern_set.proofs.Good.{good_set_parts}
use Rattle.matching.specs.Matching.{has_tree, hits_at}
use Rattle.matching.specs.Rise.{rise_over, rise_in}
use Rattle.filter_plan.specs.Plan.{hit_order, is_likely, is_hit}
use Rattle.filter_plan.proofs.HitOrder.{last_hits_order}
use Rattle.filter_tables.specs.Tables.{ranked, Ranks}
use Rattle.filter_tables.proofs.Lookup.{ranks_order}
use Rattle.filter_checks.specs.Equal.{EqualTo}
use Rattle.filter_windows.specs.Looks.{SetOf}
use Rattle.filter_windows.specs.Groups.{NoneHit, HitGroup}
use Rattle.filter_windows.proofs.RankSets.{likely_hit}
use Rattle.filter_passes.specs.Passes.{rank_hits}

-- ---- numbers below n that pass one of two tests, those that pass the first before the others

select_then : (a b c : ℕ → Bool) (n : ℕ) → ((i : ℕ) → i < n → c i ≡ (a i || b i)) → ((i j : ℕ) → i < n → j < n → T (a i) → T (b j) → i < j)
    → select c (tabulate n (λ i. i)) ≡ select a (tabulate n (λ i. i)) ++ select b (tabulate n (λ i. i))
unfolding tabulate select
select_then a b c zero e o = refl
select_then a b c (suc n) e o = go (a n) refl (b n) refl (select_then a b c n (λ i h. e i (omega arith)) (λ i j h k. o i j (omega arith) (omega arith)))
  where
    below : List ℕ
    below = tabulate n (λ i. i)

    go : (x : Bool) → a n ≡ x → (y : Bool) → b n ≡ y → select c below ≡ select a below ++ select b below
        → select c (below ++ (n ∷ [])) ≡ select a (below ++ (n ∷ [])) ++ select b (below ++ (n ∷ []))
    go true x true y ih = absurd (let z : ⊥ = omega (arith, o n n (omega arith) (omega arith) (T-true (a n) x) (T-true (b n) y)) in z)
    go true x false y ih =
        let none : select b below ≡ [] =
        select_empty b below (λ j m t. let k = (mem_below n j).0 m in
        let z : ⊥ = omega (arith, k, o n j (omega arith) (omega (arith, k)) (T-true (a n) x) t) in z) in
        select_snoc c below n (e n (omega arith) ∙ ap₂ ◌||◌ x y)
        ∙ ap (λ (l : List ℕ). l ++ (n ∷ [])) (ih ∙ ap (λ (l : List ℕ). select a below ++ l) none ∙ append-nil (select a below))
        ∙ sym (ap₂ (λ (k l : List ℕ). k ++ l) (select_snoc a below n x) (select_snoc_not b below n y ∙ none) ∙ append-nil (select a below ++ (n ∷ [])))
    go false x true y ih =
        select_snoc c below n (e n (omega arith) ∙ ap₂ ◌||◌ x y)
        ∙ ap (λ (l : List ℕ). l ++ (n ∷ [])) ih
        ∙ append_assoc (select a below) (select b below) (n ∷ [])
        ∙ sym (ap₂ (λ (k l : List ℕ). k ++ l) (select_snoc_not a below n x) (select_snoc b below n y))
    go false x false y ih =
        select_snoc_not c below n (e n (omega arith) ∙ ap₂ ◌||◌ x y)
        ∙ ih
        ∙ sym (ap₂ (λ (k l : List ℕ). k ++ l) (select_snoc_not a below n x) (select_snoc_not b below n y))

-- ---- the hits of the ranks of a set at place p

-- the ranks of a set that have a hit
abbrev pub hit_ranks : PatternSet → List ℤ → ℕ → ℕ → List ℕ
hit_ranks ps text p set = select (λ r. bit_at set r && is_hit (take (suc p) text) (ranked ps r)) (tabulate (length ps) (λ r. r))

abbrev pub hits_of : PatternSet → List ℤ → ℕ → List ℕ → ℕ → List (ℕ × ℕ)
hits_of ps text p numbers set = rank_hits numbers p (hit_ranks ps text p set)

module _ (ps : PatternSet) (text : List ℤ) (p : ℕ) (numbers : List ℕ) (good : T (good_set ps)) (ranks : Ranks ps numbers) where
  -- the values of the text up to place p
  abbrev front : List ℤ
  front = take (suc p) text

  small : (r : ℕ) → r < length ps → r < 64
  small r h = omega (arith, h, (good_set_parts ps good).0)

  -- those of the likely patterns are all
  pub likely_all : (likely : ℕ) → SetOf ps (is_likely front) likely → hits_of ps text p numbers likely ≡ hits_at ps text p
  unfolding hits_at rank_hits
  likely_all likely l =
      let all : ℕ → Bool = λ r. is_hit front (ranked ps r) in
      let order : ℕ → ℕ = λ r. get_or (hit_order ps) r 0 in
      let rest = select all (tabulate (length ps) (λ r. r)) in
      ap (rank_hits numbers p) (select_below_ext (λ r. bit_at likely r && all r) all (length ps)
      (λ r h. likely_hit ps front likely good l r (small r h) ∙ ap (λ (b : Bool). b && all r) (lt-ltb r (length ps) h)))
      ∙ map_ext (λ r. (p, get_or numbers r 0)) (λ r. (p, order r)) rest (λ r m. ap (λ (j : ℕ). (p, j)) (ranks r (inside r m)))
      ∙ sym (map-map order (λ j. (p, j)) rest)
      ∙ ap (map (λ j. (p, j))) (ranks_order ps (is_hit front) good ∙ sym (last_hits_order ps front good))
    where
      inside : (r : ℕ) → Memᴰ r (select (λ r. is_hit (take (suc p) text) (ranked ps r)) (tabulate (length ps) (λ r. r))) → r < length ps
      inside r m = (mem_below (length ps) r).0 ((mem-select (λ r. is_hit (take (suc p) text) (ranked ps r)) (tabulate (length ps) (λ r. r)) r).0 m).0

  -- none is left
  pub none_all : (rest : ℕ) → NoneHit ps front rest → hits_of ps text p numbers rest ≡ []
  unfolding rank_hits
  none_all rest none =
      ap (rank_hits numbers p)
      (select_empty (λ r. bit_at rest r && is_hit front (ranked ps r)) (tabulate (length ps) (λ r. r))
      (λ r m t. let s = and_split (bit_at rest r) (is_hit front (ranked ps r)) t in
      clash (true-T (is_hit front (ranked ps r)) s.1) (none r (small r ((mem_below (length ps) r).0 m)) s.0)))

  module _ (left members r n rest : ℕ) (equal : EqualTo ps r members) (group : HitGroup ps front left members n rest) where
    -- those of the group, then those of the rest
    pub group_first : hits_of ps text p numbers left ≡ rank_hits numbers p (bits members) ++ hits_of ps text p numbers rest
    unfolding rank_hits
    group_first =
        let a : ℕ → Bool = λ s. same (ranked ps r) (ranked ps s) in
        let b : ℕ → Bool = λ s. bit_at rest s && is_hit front (ranked ps s) in
        ap (rank_hits numbers p)
        (select_then a b (λ s. bit_at left s && is_hit front (ranked ps s)) (length ps)
        (λ s h. either s (small s h) h (bit_at members s) refl (bit_at rest s) refl (bit_at left s) refl)
        (λ s t h k u v. (group.behind t (small t k) (and_split (bit_at rest t) (is_hit front (ranked ps t)) v).0).1 s (small s h) (subst T (sym (is s h)) u)))
        ∙ map-append (λ s. (p, get_or numbers s 0)) (select a (tabulate (length ps) (λ s. s))) (hit_ranks ps text p rest)
        ∙ ap (λ (l : List ℕ). rank_hits numbers p l ++ hits_of ps text p numbers rest)
        (sym (bits_below_lem members (length ps) a (good_set_parts ps good).0 equal))
      where
        -- a member is a rank of an equal pattern
        is : (s : ℕ) → s < length ps → bit_at members s ≡ same (ranked ps r) (ranked ps s)
        is s h = equal s (small s h) ∙ ap (λ (x : Bool). x && same (ranked ps r) (ranked ps s)) (lt-ltb s (length ps) h)

        either : (s : ℕ) → s < 64 → s < length ps → (x : Bool) → bit_at members s ≡ x → (y : Bool) → bit_at rest s ≡ y → (z : Bool) → bit_at left s ≡ z
            → (bit_at left s && is_hit front (ranked ps s)) ≡ (same (ranked ps r) (ranked ps s) || (bit_at rest s && is_hit front (ranked ps s)))
        either s h k true x y e z f =
            let m = group.hit s h (T-true (bit_at members s) x) in
            rw (true-T (bit_at left s) m.0, true-T (is_hit front (ranked ps s)) m.1, sym (is s k) ∙ x) refl
        either s h k false x true e z f =
            rw (true-T (bit_at left s) (group.behind s h (T-true (bit_at rest s) e)).0, sym (is s k) ∙ x, e) refl
        either s h k false x false e true f = rw (f, group.gone s h (T-true (bit_at left s) f) x e, sym (is s k) ∙ x, e) refl
        either s h k false x false e false f = rw (f, sym (is s k) ∙ x, e) refl

    -- the rises over those of the group are one
    pub group_rises : (v : ℤ) → v ≡ rise_over (λ q. get_or text q (pos 0)) p n
        → map (λ h. v) (rank_hits numbers p (bits members)) ≡ map (rise_in ps text) (rank_hits numbers p (bits members))
    unfolding rank_hits
    group_rises v e =
        let number : ℕ → ℕ × ℕ = λ s. (p, get_or numbers s 0) in
        map-map number (λ h. v) (bits members)
        ∙ map_ext (λ s. v) (λ s. rise_in ps text (number s)) (bits members)
        (λ s m. let b = (mem-bits members s).0 m in
        let k = (and_split (ltb s (length ps)) (same (ranked ps r) (ranked ps s)) (subst T (equal s b.0) b.1)).0 in
        let size : n ≡ length (get_or ps (get_or numbers s 0) []) =
        sym (group.hit s b.0 b.1).2 ∙ ap (λ (j : ℕ). length (get_or ps j [])) (sym (ranks s (ltb-true s (length ps) (true-T (ltb s (length ps)) k)))) in
        e ∙ ap (rise_over (λ q. get_or text q (pos 0)) p) size)
        ∙ sym (map-map number (rise_in ps text) (bits members))

    -- their windows lie within the values up to place p
    pub group_within : r < length ps → p < length text → n ≤ suc p
    unfolding is_hit
    group_within h lt =
        let own : bit_at members r ≡ true = equal r (small r h) ∙ rw (lt-ltb r (length ps) h) (same-true (ranked ps r) (ranked ps r) refl) in
        let m = group.hit r (small r h) (T-true (bit_at members r) own) in
        let q = ranked ps r in
        let within = leb→le (length q) (length front) (and_split (leb (length q) (length front)) (has_tree (last_of (length q) front) q) m.1).0 in
        omega (arith, m.2, within, length-take-le (suc p) text lt)
