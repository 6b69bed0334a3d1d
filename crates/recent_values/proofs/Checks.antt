-- The ways through this crate's functions, in the machine's words: the two tests of the values
-- kept, and the values of a call put one after the other.
use Rattle.std.specs.Prelude.{◌≡◌, ◌||◌, ◌∷◌, ◌++◌, ◌+◌, ◌%◌, ◌≤◌, ◌<◌}
use Rattle.lists.proofs.Prelude.{◌∙◌, ap, sym, refl, Bool, true, false, List, [], ℕ, zero, suc, ℤ, pos}
use Rattle.lists.proofs.Prelude.{eq_z, ltb, le-ltb, lt-ltb, length, get_or, set, take, drop, take-suc, drop-append-le, drop_of_length-le, length-drop}
use Rattle.lists.proofs.Prelude.{length-take-le, add-one, arith, tabulate, all}
use Rattle.lists.proofs.Tests.{T-true, true-T}
use Rattle.lists.proofs.Members.{all_below, below_all, below_none, below_more, below_fails}
use Rattle.search_model.specs.Ring.{Ring, place_at, value_at}
use Rattle.search_model.specs.Recent.{kept_for, keeping, unfilled_from, kept_minima}
use Rattle.search_model.proofs.Recent.{keeping-append, keeping_last}

-- ---- the slots not yet filled

module _ (recent : List ℤ) (taken : ℕ) where
  -- slot i is filled, or 0
  abbrev fine : ℕ → Bool
  fine i = ltb i taken || eq_z (get_or recent i (pos 0)) (pos 0)

  -- the slots below n are
  abbrev pub fine_below : ℕ → Bool
  fine_below n = all fine (tabulate n (λ i. i))

  -- a slot that is not yet filled is to be 0
  fine_unfilled : (i : ℕ) → taken ≤ i → fine i ≡ eq_z (get_or recent i (pos 0)) (pos 0)
  fine_unfilled i h = rw (le-ltb i taken h) refl

  -- those that are filled
  pub fine_filled : fine_below taken ≡ true
  fine_filled = true-T (fine_below taken) (below_all fine taken (λ i h. T-true (fine i) (rw (lt-ltb i taken h) refl)))

  pub fine_more : (i : ℕ) → taken ≤ i → fine_below i ≡ true → eq_z (get_or recent i (pos 0)) (pos 0) ≡ true → fine_below (i + 1) ≡ true
  fine_more i h e z = below_more fine i e (fine_unfilled i h ∙ z)

  pub fine_not : (i : ℕ) → taken ≤ i → i < 256 → eq_z (get_or recent i (pos 0)) (pos 0) ≡ false → false ≡ unfilled_from taken recent
  fine_not i h l z = sym (below_fails fine 256 i l (fine_unfilled i h ∙ z))

  pub fine_all : (i : ℕ) → 256 ≤ i → fine_below i ≡ true → true ≡ unfilled_from taken recent
  fine_all i h e =
      sym (true-T (fine_below 256) (below_all fine 256 (λ j l. all_below fine i (T-true (fine_below i) e) j (omega arith))))

-- ---- the values of the open minima

module _ (r : Ring) (recent : List ℤ) where
  -- open minimum i has the value kept for its place
  abbrev is_kept : ℕ → Bool
  is_kept i = eq_z (value_at r i) (kept_for recent (place_at r i))

  -- the first n have
  abbrev pub kept_below : ℕ → Bool
  kept_below n = all is_kept (tabulate n (λ i. i))

  pub kept_none : kept_below 0 ≡ true
  kept_none = below_none is_kept

  pub kept_more : (i : ℕ) → kept_below i ≡ true → is_kept i ≡ true → kept_below (i + 1) ≡ true
  kept_more i k t = below_more is_kept i k t

  pub kept_not : (i : ℕ) → i < r.minima → is_kept i ≡ false → false ≡ kept_minima r recent
  kept_not i l t = sym (below_fails is_kept r.minima i l t)

-- ---- values kept, from value s of a call on

module _ (taken s : ℕ) (recent values : List ℤ) where
  -- with the values s, .., i - 1
  abbrev pub kept_to : ℕ → List ℤ
  kept_to i = keeping (taken + s) recent (drop s (take i values))

  pub to_start : s ≤ length values → recent ≡ kept_to s
  unfolding keeping
  to_start h =
      let none : drop s (take s values) ≡ [] = drop_of_length-le (take s values) {i = s} (omega (arith, length-take-le s values h)) in
      rw none refl

  -- one value more, in the slot of its place
  pub to_more : (i : ℕ) → s ≤ i → i < length values → set (kept_to i) ((taken + i) % 256) (get_or values i (pos 0)) ≡ kept_to (i + 1)
  unfolding keeping
  to_more i h l =
      let x = get_or values i (pos 0) in
      let before = drop s (take i values) in
      let long : length (take i values) ≡ i = length-take-le i values (omega arith) in
      let place : taken + i ≡ taken + s + length before = omega (arith, length-drop s (take i values)) in
      let next : drop s (take (i + 1) values) ≡ before ++ (x ∷ []) =
      ap (λ (n : ℕ). drop s (take n values)) (add-one i)
      ∙ ap (drop s) (take-suc values i (pos 0) l)
      ∙ drop-append-le s (take i values) (x ∷ []) (omega arith) in
      ap (λ (p : ℕ). set (kept_to i) (p % 256) x) place
      ∙ sym (keeping-append (taken + s) recent before (x ∷ []))
      ∙ ap (keeping (taken + s) recent) (sym next)

  -- those before s need not be put
  pub to_end : (n : ℕ) → n ≤ length values → (0 < s → n ≡ s + 256) → kept_to n ≡ keeping taken recent (take n values)
  to_end n l f = go s refl
    where
      go : (k : ℕ) → s ≡ k → kept_to n ≡ keeping taken recent (take n values)
      go zero e = rw e (ap (λ (p : ℕ). keeping p recent (take n values)) (omega arith))
      go (suc k) e =
          let m : n ≡ s + 256 = f (omega arith) in
          sym (keeping_last taken recent (take n values) s (omega (arith, length-take-le n values l)))
