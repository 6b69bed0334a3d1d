-- The refusals of the entries on one pattern, in the words of the code's tests: the number of a
-- refusal is that of the first condition met, and 0 where none is met; the number decides what the
-- call tells and what it leaves in the lent array.
use Rattle.std.specs.Prelude.{◌≡◌, ◌∷◌, ◌++◌, ◌≤◌, ◌<◌}
use Rattle.lists.proofs.Prelude.{◌∙◌, ap, sym, refl, Bool, true, false, not, List, [], ℕ, ℤ, eqb, ltb, length, take, drop, take_at}
use Rattle.lists.proofs.Prelude.{eq-eqb, ne_eqb, not-false, lt-ltb, le-ltb, ltb-false}
use Rattle.lists.proofs.Tables.{length-tabulate}
use Rattle.gaps.specs.Gaps.{holds_gap}
use Rattle.realization.specs.Realization.{realizable, failure_lengths}
use Rattle.ranking.specs.Rank.{factorial, unrank, is_rank}
use Rattle.ranking.proofs.Rank.{length-unrank}
use Rattle.entries.specs.Entries.{Conditions, Entry, first_met, told, after, distances_entry, list_conditions, encode_entry, decode_entry}
use Rattle.entries.proofs.Refusals.{first_unmet, accepted}

-- ---- what the number decides

-- a call that is not refused tells the number of elements that it leaves at the front of the array
pub written : {A : Type 0} (e : Entry ℕ A) (array left : List A) → first_met e.conditions ≡ 0 → length e.result ≡ e.counts
    → left ≡ e.result ++ drop e.counts array
    → (◌≡◌ {A = ℕ × ℕ} (0, e.counts) (told 0 e)) × (left ≡ after e array)
written e array left h l q = accepted 0 e e.counts array left h refl (q ∙ ap (λ (j : ℕ). e.result ++ drop j array) (sym l))

-- ---- distances of values

module _ (xs : List ℤ) (out : List ℕ) where
  pub distances_empty : length xs ≡ 0 → first_met (distances_entry xs out).conditions ≡ 1
  distances_empty e = simp (eq-eqb (length xs) 0 e)

  pub distances_too_long : (length xs ≡ 0 → ⊥) → 256 < length xs → first_met (distances_entry xs out).conditions ≡ 2
  distances_too_long e l = simp (ne_eqb (length xs) 0 e, lt-ltb 256 (length xs) l)

  pub distances_gap : (length xs ≡ 0 → ⊥) → length xs ≤ 256 → holds_gap xs ≡ true → first_met (distances_entry xs out).conditions ≡ 13
  distances_gap e l o = simp (ne_eqb (length xs) 0 e, le-ltb 256 (length xs) l, o)

  pub distances_array_too_short : (length xs ≡ 0 → ⊥) → length xs ≤ 256 → holds_gap xs ≡ false → length out < length xs
      → first_met (distances_entry xs out).conditions ≡ 10
  distances_array_too_short e l o a = simp (ne_eqb (length xs) 0 e, le-ltb 256 (length xs) l, o, lt-ltb (length out) (length xs) a)

  pub distances_good : (length xs ≡ 0 → ⊥) → length xs ≤ 256 → holds_gap xs ≡ false → length xs ≤ length out
      → first_met (distances_entry xs out).conditions ≡ 0
  distances_good e l o a = simp (ne_eqb (length xs) 0 e, le-ltb 256 (length xs) l, o, le-ltb (length out) (length xs) a)

-- ---- a list of distances, into an array of the given room

module _ (ds : List ℕ) (room : ℕ) where
  pub list_empty : length ds ≡ 0 → first_met (list_conditions ds room) ≡ 1
  list_empty e = simp (eq-eqb (length ds) 0 e)

  pub list_too_long : (length ds ≡ 0 → ⊥) → 256 < length ds → first_met (list_conditions ds room) ≡ 2
  list_too_long e l = simp (ne_eqb (length ds) 0 e, lt-ltb 256 (length ds) l)

  pub list_not_realizable : (length ds ≡ 0 → ⊥) → length ds ≤ 256 → realizable ds ≡ false → first_met (list_conditions ds room) ≡ 4
  list_not_realizable e l r = simp (ne_eqb (length ds) 0 e, le-ltb 256 (length ds) l, r)

  pub list_array_too_short : (length ds ≡ 0 → ⊥) → length ds ≤ 256 → realizable ds ≡ true → room < length ds → first_met (list_conditions ds room) ≡ 10
  list_array_too_short e l r a = simp (ne_eqb (length ds) 0 e, le-ltb 256 (length ds) l, r, lt-ltb room (length ds) a)

  pub list_good : (length ds ≡ 0 → ⊥) → length ds ≤ 256 → realizable ds ≡ true → length ds ≤ room → first_met (list_conditions ds room) ≡ 0
  list_good e l r a = simp (ne_eqb (length ds) 0 e, le-ltb 256 (length ds) l, r, le-ltb room (length ds) a)

  -- what a call that is not refused knows
  pub list_unmet : first_met (list_conditions ds room) ≡ 0 → (realizable ds ≡ true) × ((length ds ≤ 256) × (length ds ≤ room))
  list_unmet e =
      let fourth : Conditions = (10, ltb room (length ds)) ∷ [] in
      let third : Conditions = (4, not (realizable ds)) ∷ fourth in
      let second : Conditions = (2, ltb 256 (length ds)) ∷ third in
      let a = first_unmet 0 (eqb (length ds) 0) second e in
      let b = first_unmet 1 (ltb 256 (length ds)) third a.1 in
      let c = first_unmet 3 (not (realizable ds)) fourth b.1 in
      let d = first_unmet 9 (ltb room (length ds)) [] c.1 in
      (not-false (realizable ds) c.0, (ltb-false 256 (length ds) b.0, ltb-false room (length ds) d.0))

-- ---- code of a list of distances

module _ (ds : List ℕ) where
  pub encode_empty : length ds ≡ 0 → first_met (encode_entry ds).conditions ≡ 1
  encode_empty e = simp (eq-eqb (length ds) 0 e)

  pub encode_too_long : (length ds ≡ 0 → ⊥) → 256 < length ds → first_met (encode_entry ds).conditions ≡ 2
  encode_too_long e l = simp (ne_eqb (length ds) 0 e, lt-ltb 256 (length ds) l)

  pub encode_code_too_long : (length ds ≡ 0 → ⊥) → length ds ≤ 256 → 20 < length ds → first_met (encode_entry ds).conditions ≡ 3
  encode_code_too_long e l k = simp (ne_eqb (length ds) 0 e, le-ltb 256 (length ds) l, lt-ltb 20 (length ds) k)

  pub encode_not_realizable : (length ds ≡ 0 → ⊥) → length ds ≤ 256 → length ds ≤ 20 → realizable ds ≡ false → first_met (encode_entry ds).conditions ≡ 4
  encode_not_realizable e l k r = simp (ne_eqb (length ds) 0 e, le-ltb 256 (length ds) l, le-ltb 20 (length ds) k, r)

  pub encode_good : (length ds ≡ 0 → ⊥) → length ds ≤ 256 → length ds ≤ 20 → realizable ds ≡ true → first_met (encode_entry ds).conditions ≡ 0
  encode_good e l k r = simp (ne_eqb (length ds) 0 e, le-ltb 256 (length ds) l, le-ltb 20 (length ds) k, r)

-- ---- distances of a length and a code

module _ (n code : ℕ) (out : List ℕ) where
  pub decode_empty : n ≡ 0 → first_met (decode_entry n code out).conditions ≡ 1
  decode_empty e = simp (eq-eqb n 0 e)

  pub decode_code_too_long : (n ≡ 0 → ⊥) → 20 < n → first_met (decode_entry n code out).conditions ≡ 3
  decode_code_too_long e k = simp (ne_eqb n 0 e, lt-ltb 20 n k)

  pub decode_not_realizable : (n ≡ 0 → ⊥) → n ≤ 20 → is_rank n code ≡ false → first_met (decode_entry n code out).conditions ≡ 4
  decode_not_realizable e k r = simp (ne_eqb n 0 e, le-ltb 20 n k, r)

  pub decode_array_too_short : (n ≡ 0 → ⊥) → n ≤ 20 → is_rank n code ≡ true → length out < n → first_met (decode_entry n code out).conditions ≡ 10
  decode_array_too_short e k r a = simp (ne_eqb n 0 e, le-ltb 20 n k, r, lt-ltb (length out) n a)

  pub decode_good : (n ≡ 0 → ⊥) → n ≤ 20 → is_rank n code ≡ true → n ≤ length out → first_met (decode_entry n code out).conditions ≡ 0
  decode_good e k r a = simp (ne_eqb n 0 e, le-ltb 20 n k, r, le-ltb (length out) n a)

-- ---- whether a code is a rank

module _ (n code f : ℕ) (e : f ≡ factorial n) where
  -- no list of n distances has a code from n! on
  pub not_rank : f ≤ code → false ≡ is_rank n code
  unfolding is_rank
  not_rank h = simp (le-ltb code (factorial n) (rw e at h))

  -- a code below n! is a rank where the list at the front of the digits is realizable
  pub is_rank_by : (digits behind : List ℕ) (b : Bool) → code < f → digits ≡ unrank n code ++ behind → b ≡ realizable (take n digits) → b ≡ is_rank n code
  unfolding is_rank
  is_rank_by digits behind b h d r =
      rw (lt-ltb code (factorial n) (rw e at h), r, d, take_at (unrank n code) behind n (length-unrank n code)) refl

-- ---- the lengths of the results

pub length-failure_lengths : (ds : List ℕ) → length (failure_lengths ds) ≡ length ds
unfolding failure_lengths
length-failure_lengths ds = length-tabulate (length ds) _
