-- THE LAW OF WITHDRAWING: the hits of a set without pattern j are those of the set without the hits
-- of pattern j, higher numbers one lower. So it is with the numbers that one window gives, hence
-- with those at one place, hence with the whole list. The rises over them are what they were, since
-- the patterns are as long.
use Rattle.std.specs.Prelude.{◌≡◌, ◌∷◌, ◌++◌, ◌+◌, ◌≤◌, ◌<◌}
use Rattle.lists.proofs.Prelude.{◌∙◌, ap, sym, refl, subst, ap₂, Bool, true, false, cond, not, List, [], map, flatten, ℕ, zero, suc, pred}
use Rattle.lists.proofs.Prelude.{ℤ, pos, T, eqb, length, get_or, take, length-map, add-zero, zero-add, dec_lt, arith, ne_eqb, eq-eqb, lt-ltb, le-ltb}
use Rattle.lists.proofs.Prelude.{last_of, tabulate, select}
use Rattle.lists.proofs.Parts.{map-append}
use Rattle.lists.proofs.Select.{select-map, select-append, mem-select}
use Rattle.lists.proofs.Members.{map_ext, map-map}
use Rattle.lists.proofs.Rows.{flatten-tabulate}
use Rattle.lists.proofs.Counting.{how_many-le, how_many_all}
use Rattle.pattern_set.specs.PatternSet.{PatternSet, without}
use Rattle.pattern_set.proofs.Without.{lower_pattern, higher_pattern}
use Rattle.matching.specs.Matching.{has_tree, numbers_from, end_hits, last_hits, hits_at, hits}
use Rattle.matching.specs.Rise.{rise_over, rise_in}
use Rattle.matching.specs.Withdrawn.{renumbered, hits_of_others, hits_without}

-- what is kept of two lists, one after the other
kept_append : {A B : Type 0} (f : A → B) (test : A → Bool) (xs ys : List A)
    → map f (select test (xs ++ ys)) ≡ map f (select test xs) ++ map f (select test ys)
kept_append f test xs ys = ap (map f) (select-append test xs ys) ∙ map-append f (select test xs) (select test ys)

-- ---- the numbers of the patterns

-- the numbers other than j, by the new numbers
abbrev numbers_without : ℕ → List ℕ → List ℕ
numbers_without j ns = map (renumbered j) (select (λ n. not (eqb n j)) ns)

-- j falls away, a lower number is kept, a higher one is one lower
withdrawn_number : (j : ℕ) (ns : List ℕ) → numbers_without j ns ≡ numbers_without j (j ∷ ns)
unfolding select
withdrawn_number j ns = rw (eq-eqb j j refl) refl

lower_number : (j i : ℕ) (ns : List ℕ) → i < j → i ∷ numbers_without j ns ≡ numbers_without j (i ∷ ns)
unfolding select
lower_number j i ns h = rw (ne_eqb i j (λ e. let z : ⊥ = omega arith in z), le-ltb j i (omega arith)) refl

higher_number : (j i : ℕ) (ns : List ℕ) → j ≤ i → i ∷ numbers_without j ns ≡ numbers_without j (suc i ∷ ns)
unfolding select
higher_number j i ns h = rw (ne_eqb (suc i) j (λ e. let z : ⊥ = omega arith in z), lt-ltb j (suc i) (omega arith)) refl

module _ (window : List ℤ) where
  -- all numbers are higher
  numbers_above : (i j : ℕ) (ps : PatternSet) → j ≤ i → numbers_from i window ps ≡ numbers_without j (numbers_from (suc i) window ps)
  unfolding numbers_from select
  numbers_above i j [] h = refl
  numbers_above i j (p ∷ ps) h = go (has_tree window p) (numbers_above (suc i) j ps (omega arith))
    where
      go : (b : Bool) → numbers_from (suc i) window ps ≡ numbers_without j (numbers_from (suc (suc i)) window ps)
          → cond b (i ∷ numbers_from (suc i) window ps) (numbers_from (suc i) window ps)
          ≡ numbers_without j (cond b (suc i ∷ numbers_from (suc (suc i)) window ps) (numbers_from (suc (suc i)) window ps))
      go true ih = ap (λ (ns : List ℕ). i ∷ ns) ih ∙ higher_number j i (numbers_from (suc (suc i)) window ps) h
      go false ih = ih

  -- the numbers from i on, of which i + j is withdrawn
  numbers_without_lem : (i : ℕ) (ps : PatternSet) (j : ℕ) → j < length ps → numbers_from i window (without j ps)
      ≡ numbers_without (i + j) (numbers_from i window ps)
  unfolding numbers_from without
  numbers_without_lem i [] j h = absurd (let z : ⊥ = omega arith in z)
  numbers_without_lem i (p ∷ ps) zero h = rw add-zero (go (has_tree window p))
    where
      go : (b : Bool) → numbers_from i window ps ≡ numbers_without i (cond b (i ∷ numbers_from (suc i) window ps) (numbers_from (suc i) window ps))
      go true = numbers_above i i ps (omega arith) ∙ withdrawn_number i (numbers_from (suc i) window ps)
      go false = numbers_above i i ps (omega arith)
  numbers_without_lem i (p ∷ ps) (suc j) h =
      let e : i + suc j ≡ suc i + j = omega arith in
      rw e (go (has_tree window p) (numbers_without_lem (suc i) ps j (omega arith)))
    where
      go : (b : Bool) → numbers_from (suc i) window (without j ps) ≡ numbers_without (suc i + j) (numbers_from (suc i) window ps)
          → cond b (i ∷ numbers_from (suc i) window (without j ps)) (numbers_from (suc i) window (without j ps))
          ≡ numbers_without (suc i + j) (cond b (i ∷ numbers_from (suc i) window ps) (numbers_from (suc i) window ps))
      go true ih = ap (λ (ns : List ℕ). i ∷ ns) ih ∙ lower_number (suc i + j) i (numbers_from (suc i) window ps) (omega arith)
      go false ih = ih

-- ---- the hits

module _ (ps : PatternSet) (j : ℕ) (h : j < length ps) where
  -- is the hit another pattern's
  abbrev is_other : ℕ × ℕ → Bool
  is_other w = not (eqb w.1 j)

  -- the hit by the new numbers
  abbrev moved : ℕ × ℕ → ℕ × ℕ
  moved w = (w.0, renumbered j w.1)

  -- of the windows of at most n values at the end of the text
  ends_without : (text : List ℤ) (n : ℕ) → end_hits (without j ps) text n ≡ numbers_without j (end_hits ps text n)
  unfolding end_hits select
  ends_without text zero = refl
  ends_without text (suc n) =
      let window = last_of (suc n) text in
      ap₂ (λ (l r : List ℕ). l ++ r) (rw zero-add at (numbers_without_lem window 0 ps j h)) (ends_without text n)
      ∙ sym (kept_append (renumbered j) (λ m. not (eqb m j)) (numbers_from 0 window ps) (end_hits ps text n))

  -- with last place p
  place_without : (text : List ℤ) (p : ℕ) → hits_at (without j ps) text p ≡ hits_without j (hits_at ps text p)
  unfolding hits_at hits_without
  place_without text p =
      let front = take (suc p) text in
      let ns = last_hits ps front in
      let hit : ℕ → ℕ × ℕ = λ n. (p, n) in
      let others = select (λ n. not (eqb n j)) ns in
      ap (map hit) (ends_without front (length front))
      ∙ map-map (renumbered j) hit others
      ∙ sym (ap (map moved) (select-map is_other hit ns) ∙ map-map hit moved others)

  -- with last place below n
  places_without : (text : List ℤ) (n : ℕ) → flatten (tabulate n (hits_at (without j ps) text)) ≡ hits_without j (flatten (tabulate n (hits_at ps text)))
  unfolding hits_without tabulate flatten select
  places_without text zero = refl
  places_without text (suc n) =
      flatten-tabulate n (hits_at (without j ps) text)
      ∙ ap₂ (λ (l r : List (ℕ × ℕ)). l ++ r) (places_without text n) (place_without text n)
      ∙ sym (ap (hits_without j) (flatten-tabulate n (hits_at ps text))
      ∙ kept_append moved is_other (flatten (tabulate n (hits_at ps text))) (hits_at ps text n))

  -- THE LAW
  pub hits_without_lem : (text : List ℤ) → hits (without j ps) text ≡ hits_without j (hits ps text)
  unfolding hits
  hits_without_lem text = places_without text (length text)

  -- a hit of another pattern is one of the same pattern by the new numbers
  pattern_moved : (w : ℕ × ℕ) → T (is_other w) → get_or (without j ps) (moved w).1 [] ≡ get_or ps w.1 []
  pattern_moved w t = go (dec_lt j w.1) (dec_lt w.1 j)
    where
      go : Dec (j < w.1) → Dec (w.1 < j) → get_or (without j ps) (renumbered j w.1) [] ≡ get_or ps w.1 []
      go (yes l) d =
          let e : suc (pred w.1) ≡ w.1 = omega arith in
          rw (lt-ltb j w.1 l) (higher_pattern ps j h (pred w.1) (omega (arith, e)) ∙ ap (λ (i : ℕ). get_or ps i []) e)
      go (no f) (yes l) = rw (le-ltb j w.1 (omega arith)) (lower_pattern ps j h w.1 l)
      go (no f) (no g) = absurd (subst T (ap not (eq-eqb w.1 j (omega arith))) t)

  -- so its rise is the same
  pub rises_without : (text : List ℤ) → map (rise_in (without j ps) text) (hits (without j ps) text) ≡ map (rise_in ps text) (hits_of_others j (hits ps text))
  unfolding hits_without
  rises_without text =
      let others = hits_of_others j (hits ps text) in
      ap (map (rise_in (without j ps) text)) (hits_without_lem text)
      ∙ map-map moved (rise_in (without j ps) text) others
      ∙ map_ext (λ w. rise_in (without j ps) text (moved w)) (rise_in ps text) others
      (λ w m.
      ap (λ (p : List ℕ). rise_over (λ i. get_or text i (pos 0)) w.0 (length p)) (pattern_moved w ((mem-select is_other (hits ps text) w).0 m).1))

  -- they are no more than they were
  pub hits-without-le : (text : List ℤ) → length (hits (without j ps) text) ≤ length (hits ps text)
  unfolding hits_without
  hits-without-le text =
      let hs = hits ps text in
      omega (
        arith,
        ap length (hits_without_lem text) ∙ length-map (select is_other hs) moved,
        how_many-le is_other (λ w. true) hs (λ w m t. tt),
        how_many_all hs,
      )
