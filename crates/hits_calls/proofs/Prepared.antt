-- The patterns added one after the other, as the program adds them: each is cut out within the
-- values, and the first that is refused ends it.
use Rattle.std.specs.Prelude.{◌≡◌, ◌∷◌, ◌+◌, ◌-◌, ◌≤◌, ◌<◌}
use Rattle.lists.proofs.Prelude.{◌∙◌, ap, sym, refl, ap₂, List, [], ℕ, zero, suc, min, ℤ, length, get_or, take, drop}
use Rattle.lists.proofs.Prelude.{drop_of_length-le, drop-cons, take_all, length-drop, add-one, dec_lt, arith}
use Rattle.entries.specs.Entries.{first_met, unless, after, empty_set_entry, add_entry, build_entry}
use Rattle.hits_calls.specs.Prepared.{parts_of, add_all, make_set, make_both}

-- ---- one part

-- where the part lies within the values, it is as long as the places say
within : (values : List ℤ) (from told end : ℕ) → end ≡ min told (length values) → from ≤ end
    → take (end - from) (drop from values) ≡ take (told - from) (drop from values)
within values from told end e h = go (dec_lt (length values) told)
  where
    go : Dec (length values < told) → take (end - from) (drop from values) ≡ take (told - from) (drop from values)
    go (yes k) =
        let a : length (drop from values) ≤ end - from = simp length-drop (omega arith) in
        let b : length (drop from values) ≤ told - from = simp length-drop (omega arith) in
        take_all (end - from) (drop from values) a ∙ sym (take_all (told - from) (drop from values) b)
    go (no f) =
        let q : end - from ≡ told - from = omega arith in
        ap (λ (k : ℕ). take k (drop from values)) q

-- a part that begins behind its end, or behind the values, is empty
empty_part : (values : List ℤ) (from told : ℕ) → min told (length values) < from → take (told - from) (drop from values) ≡ []
empty_part values from told h = go (dec_lt (length values) from)
  where
    go : Dec (length values < from) → take (told - from) (drop from values) ≡ []
    go (yes k) =
        let a : length (drop from values) ≤ told - from = simp length-drop (omega arith) in
        take_all (told - from) (drop from values) a ∙ drop_of_length-le values {i = from} (omega arith)
    go (no f) =
        let q : told - from ≡ 0 = omega arith in
        ap (λ (k : ℕ). take k (drop from values)) q

-- the part between places that are held to the values
pub part_is : (values : List ℤ) (from told end start : ℕ) → end ≡ min told (length values) → start ≡ min from end
    → take (end - start) (drop start values) ≡ take (told - from) (drop from values)
part_is values from told end start e s = go (dec_lt end from)
  where
    go : Dec (end < from) → take (end - start) (drop start values) ≡ take (told - from) (drop from values)
    go (yes k) =
        let q : end - start ≡ 0 = omega arith in
        ap (λ (k : ℕ). take k (drop start values)) q ∙ sym (empty_part values from told (omega arith))
    go (no f) =
        let q : start ≡ from = omega arith in
        ap (λ (k : ℕ). take (end - k) (drop k values)) q ∙ within values from told end e (omega arith)

-- ---- one call: it is refused, and the array is as before, or the rest follows

-- by the number m of the entry's refusal: the number that is told, and the array afterwards
refused : (m r : ℕ) (ws ws' done : List ℕ) (rest : ℕ × List ℕ) → r ≡ m → ws' ≡ unless m done ws → 0 < r → unless m rest (m, ws) ≡ (r, ws')
refused zero r ws ws' done rest e w h = absurd (let z : ⊥ = omega arith in z)
refused (suc m) r ws ws' done rest e w h = ap₂ (λ (n : ℕ) (l : List ℕ). (n, l)) (sym e) (sym w)

accepted : (m r : ℕ) (ws ws' done : List ℕ) (rest : List ℕ → ℕ × List ℕ) → r ≡ m → ws' ≡ unless m done ws → r ≤ 0
    → unless m (rest (unless m done ws)) (m, ws) ≡ rest ws'
accepted zero r ws ws' done rest e w h = ap rest (sym w)
accepted (suc m) r ws ws' done rest e w h = absurd (let z : ⊥ = omega arith in z)

-- ---- the patterns from place j of `ends` on

parts_more : (from j : ℕ) (ends : List ℕ) (values : List ℤ) → j < length ends
    → parts_of from (drop j ends) values ≡ take (get_or ends j 0 - from) (drop from values) ∷ parts_of (get_or ends j 0) (drop (j + 1) ends) values
unfolding parts_of
parts_more from j ends values h = rw (drop-cons ends j 0 h, add-one) refl

-- the part of the next pattern, the number that is told and the set afterwards
module _ (from j told end start : ℕ) (ends : List ℕ) (values : List ℤ) (ws ws' : List ℕ) (r : ℕ) (h : j < length ends) (t : told ≡ get_or ends j 0)
    (q : end ≡ min told (length values)) (s : start ≡ min from end)
    (e : r ≡ first_met (add_entry ws (take (end - start) (drop start values))).conditions)
    (w : ws' ≡ after (add_entry ws (take (end - start) (drop start values))) ws) where
  xs : List ℤ
  xs = take (end - start) (drop start values)

  rest : List (List ℤ)
  rest = parts_of told (drop (j + 1) ends) values

  parts : parts_of from (drop j ends) values ≡ xs ∷ rest
  unfolding xs rest
  parts =
      parts_more from j ends values h
      ∙ ap (λ (k : ℕ). take (k - from) (drop from values) ∷ parts_of k (drop (j + 1) ends) values) (sym t)
      ∙ ap (λ (l : List ℤ). l ∷ parts_of told (drop (j + 1) ends) values) (sym (part_is values from told end start q s))

  pub add_refused : 0 < r → add_all (parts_of from (drop j ends) values) ws ≡ (r, ws')
  unfolding add_all xs
  add_refused k = ap (λ (l : List (List ℤ)). add_all l ws) parts ∙ refused (first_met (add_entry ws xs).conditions) r ws ws' _ _ e w k

  pub add_more : r ≤ 0 → add_all (parts_of from (drop j ends) values) ws ≡ add_all (parts_of told (drop (j + 1) ends) values) ws'
  unfolding add_all xs rest
  add_more k = ap (λ (l : List (List ℤ)). add_all l ws) parts ∙ accepted (first_met (add_entry ws xs).conditions) r ws ws' _ (add_all rest) e w k

pub add_none : (from j : ℕ) (ends : List ℕ) (values : List ℤ) (ws : List ℕ) → length ends ≤ j → add_all (parts_of from (drop j ends) values) ws ≡ (0, ws)
unfolding add_all parts_of
add_none from j ends values ws h = ap (λ (l : List ℕ). add_all (parts_of from l values) ws) (drop_of_length-le ends {i = j} h)

-- ---- the whole

module _ (xss : List (List ℤ)) (ws ws' : List ℕ) (r : ℕ) (e : r ≡ first_met (empty_set_entry ws).conditions) (w : ws' ≡ after (empty_set_entry ws) ws) where
  pub empty_refused : 0 < r → make_set xss ws ≡ (r, ws')
  unfolding make_set
  empty_refused k = refused (first_met (empty_set_entry ws).conditions) r ws ws' _ _ e w k

  pub set_added : r ≤ 0 → (q : ℕ) (ws'' : List ℕ) → q ≡ (add_all xss ws').0 → ws'' ≡ (add_all xss ws').1 → make_set xss ws ≡ (q, ws'')
  unfolding make_set
  set_added k q ws'' f v =
      accepted (first_met (empty_set_entry ws).conditions) r ws ws' _ (add_all xss) e w k ∙ ap₂ (λ (n : ℕ) (l : List ℕ). (n, l)) (sym f) (sym v)

-- what is told, and what the arrays are afterwards
abbrev pub IsMade : List (List ℤ) → List ℕ → List ℕ → ℕ → List ℕ → List ℕ → Type 0
IsMade xss ws automaton r ws' automaton' =
    (r ≡ (make_both xss ws automaton).0) × ((ws' ≡ (make_set xss ws).1) × (automaton' ≡ (make_both xss ws automaton).1))

module _ (xss : List (List ℤ)) (ws automaton ws' : List ℕ) (r : ℕ) (s : make_set xss ws ≡ (r, ws')) where
  told : ℕ × List ℕ → ℕ × List ℕ
  told z = unless z.0 (first_met (build_entry z.1 automaton).conditions, after (build_entry z.1 automaton) automaton) (z.0, automaton)

  by_set : (q : ℕ) (automaton' : List ℕ) → told (r, ws') ≡ (q, automaton') → IsMade xss ws automaton q ws' automaton'
  unfolding told make_both
  by_set q automaton' t =
      let b : make_both xss ws automaton ≡ (q, automaton') = ap told s ∙ t in (
        sym (ap (λ (z : ℕ × List ℕ). z.0) b),
        (sym (ap (λ (z : ℕ × List ℕ). z.1) s), sym (ap (λ (z : ℕ × List ℕ). z.1) b)),
      )

  pub set_refused : 0 < r → IsMade xss ws automaton r ws' automaton
  unfolding told
  set_refused k = by_set r automaton (refused r r automaton automaton automaton _ refl (go r) k)
    where
      go : (m : ℕ) → automaton ≡ unless m automaton automaton
      go zero = refl
      go (suc m) = refl

  pub set_made : r ≤ 0 → (q : ℕ) (automaton' : List ℕ) → q ≡ first_met (build_entry ws' automaton).conditions
      → automaton' ≡ after (build_entry ws' automaton) automaton
      → IsMade xss ws automaton q ws' automaton'
  unfolding told
  set_made k q automaton' e a = by_set q automaton' (go r k ∙ ap₂ (λ (n : ℕ) (l : List ℕ). (n, l)) (sym e) (sym a))
    where
      made : ℕ × List ℕ
      made = (first_met (build_entry ws' automaton).conditions, after (build_entry ws' automaton) automaton)

      go : (m : ℕ) → m ≤ 0 → unless m made (m, automaton) ≡ made
      go zero k = refl
      go (suc m) k = absurd (let z : ⊥ = omega arith in z)
