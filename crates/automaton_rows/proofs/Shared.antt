-- What two patterns that follow each other in the order begin with alike: a pattern begins with a
-- head that the one before it begins with exactly if they share as many distances as the head has.
-- So the places whose patterns begin with a head are found by reading what is shared, from its
-- first place on.
use Rattle.std.specs.Prelude.{◌≡◌, ◌+◌, ◌-◌, ◌≤◌, ◌<◌}
use Rattle.lists.proofs.Prelude.{ap, refl, List, ℕ, zero, suc, T, length, take, length-take, sub-one, dec_lt, arith, begins}
use Rattle.lists.proofs.Same.{same_eq}
use Rattle.pattern_set.specs.PatternSet.{PatternSet}
use Rattle.automaton_model.specs.Automaton.{common, shared_at}
use Rattle.automaton_lookup.specs.Places.{first_place, begins_at}
use Rattle.automaton_lookup.proofs.Places.{begins_within, begins_at_place, place_of_begins}
use Rattle.automaton_model.proofs.Common.{shares_front, begins_right}
use Rattle.automaton_model.proofs.Order.{pattern_at}

pub begins-length : (p h : List ℕ) → T (begins p h) → length h ≤ length p
begins-length p h t = omega (arith, ap length (same_eq (take (length h) p) h t), length-take (length h) p)

-- ---- what is shared, and the places of a head

shared_is : (ps : PatternSet) (i : ℕ) → 0 < i → shared_at ps i ≡ common (pattern_at ps (i - 1)) (pattern_at ps i)
unfolding shared_at
shared_is ps zero h = absurd (let z : ⊥ = omega arith in z)
shared_is ps (suc i) h = rw sub-one refl

-- the pattern behind one that begins with h does too, where they share as many distances
pub interval_more : (ps : PatternSet) (h : List ℕ) (i : ℕ) → first_place ps h < i → i ≤ first_place ps h + begins_at ps h → i < length ps
    → length h ≤ shared_at ps i → i < first_place ps h + begins_at ps h
interval_more ps h i l k m s =
    let t = begins_at_place ps h (i - 1) (omega arith) (omega arith) in
    (place_of_begins ps h i m (begins_right (pattern_at ps (i - 1)) (pattern_at ps i) h t (omega (arith, shared_is ps i (omega arith))))).1

-- and does not, where they share fewer
pub interval_shared : (ps : PatternSet) (h : List ℕ) (i : ℕ) → first_place ps h < i → i < first_place ps h + begins_at ps h → length h ≤ shared_at ps i
interval_shared ps h i l k =
    let a = begins_at_place ps h (i - 1) (omega arith) (omega arith) in
    let b = begins_at_place ps h i (omega arith) k in
    omega (arith, shared_is ps i (omega arith), shares_front (pattern_at ps (i - 1)) (pattern_at ps i) h a b)

pub interval_stops : (ps : PatternSet) (h : List ℕ) (i : ℕ) → first_place ps h < i → i ≤ first_place ps h + begins_at ps h → shared_at ps i < length h
    → i ≡ first_place ps h + begins_at ps h
interval_stops ps h i l k s = go (dec_lt i (first_place ps h + begins_at ps h))
  where
    go : Dec (i < first_place ps h + begins_at ps h) → i ≡ first_place ps h + begins_at ps h
    go (yes d) = omega (arith, interval_shared ps h i l d)
    go (no f) = omega arith

-- at the last place it ends
pub interval_last : (ps : PatternSet) (h : List ℕ) (i : ℕ) → length ps ≤ i → i ≤ first_place ps h + begins_at ps h → i ≡ first_place ps h + begins_at ps h
interval_last ps h i l k = omega (arith, begins_within ps h)
