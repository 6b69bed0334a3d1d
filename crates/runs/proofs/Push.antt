-- One sample more keeps the open minima those of the text, and its distance is as good as the
-- text's in every window of at most 256 values without a gap. Values never fall along the open
-- minima, so those that are not above the new value are a front of them, which `kept` counts. The
-- greatest place whose value is not above the new one, if the window holds it, is an open minimum,
-- so it is the last of that front.
use Rattle.std.specs.Prelude.{◌≡◌, ◌⊎◌, ◌∷◌, ◌++◌, ◌+◌, ◌-◌, ◌≤◌, ◌<◌, ◌≤ℤ◌, ◌<ℤ◌}
use Rattle.lists.proofs.Prelude.{◌∙◌, ap, sym, refl, ap₂, inl, inr, Bool, false, List, [], map, ℕ, zero, suc, ℤ, pos}
use Rattle.lists.proofs.Prelude.{le_z, T, leb, le→leb, length, length-set, get_or-set_same, get_or-set_other, add-one, dec_lt, arith, le-leb, lt-leb}
use Rattle.lists.proofs.Prelude.{tabulate, last_below, last_of, select, drop}
use Rattle.lists.proofs.Tables.{map-tabulate, tabulate_ext}
use Rattle.lists.proofs.Tests.{and_join}
use Rattle.lists.proofs.LastBelow.{last_below-le, last_below_passes, last_below_none, last_below_is, last_below-zero, last_below_ext}
use Rattle.lists.proofs.Order.{≤ℤ-total, <ℤ-≤ℤ, le_trans'}
use Rattle.lists.proofs.SelectTable.{select_front}
use Rattle.gaps.specs.Gaps.{is_gap, holds_gap}
use Rattle.gaps.proofs.Laws.{later_none}
use Rattle.cartesian.specs.Cartesian.{seek, apart, distance_at, cut}
use Rattle.search_model.specs.Ring.{Ring, slot, place_at, value_at, aged, back, distance_of, pushed, kept}
use Rattle.search_model.proofs.Ring.{put, slot-lt, slots_differ, kept-le, pushed-put}
use Rattle.runs.specs.ReferenceRun.{is_open, open_places}
use Rattle.runs.proofs.Minima.{Minima, value_of, open_from, value_of_before, value_of_last, young, open_places_more, is_listed}
use Rattle.runs.proofs.Ring.{Aged, Minima-aged, Aged-Selected, Aged-rise, Aged-count}

-- ---- the push

-- `kept` by the values of the text
kept_text : (text : List ℤ) (a : Ring) (x : ℤ) → Aged text a → kept a x ≡ last_below (λ i. le_z (value_of text (place_at a i)) x) a.minima
unfolding kept
kept_text text a x g = last_below_ext (λ i. le_z (value_at a i) x) (λ i. le_z (value_of text (place_at a i)) x) a.minima
    (λ i h. ap (λ v. le_z v x) (g.value i h))

-- those that stay are a front
kept_places : (text : List ℤ) (a : Ring) (x : ℤ) → Aged text a
    → tabulate (kept a x) (place_at a) ≡ select (λ i. le_z (value_of text i) x) (select (young (length text)) (open_places text))
kept_places text a x g =
    ap (λ (k : ℕ). tabulate k (place_at a)) (kept_text text a x g)
    ∙ sym (select_front (λ i. le_z (value_of text i) x) a.minima (place_at a)
    (λ i j h k t. le_trans' (value_of text (place_at a i)) (value_of text (place_at a j)) x (Aged-rise text a g i j h k) t))
    ∙ ap (select (λ i. le_z (value_of text i) x)) g.places

kept_few : (text : List ℤ) (a : Ring) (x : ℤ) → Aged text a → kept a x < 256
kept_few text a x g = omega (arith, kept-le a x, Aged-count text a g)

-- the slot written is none of those that stay
put_place : (text : List ℤ) (a : Ring) (x : ℤ) → Aged text a → (i : ℕ) → i < kept a x → place_at (put (length text) a x) i ≡ place_at a i
put_place text a x g i h = get_or-set_other a.places (slot a (kept a x)) (slot a i) (length text) 0 (slots_differ a i (kept a x) h (kept_few text a x g))

put_place_new : (text : List ℤ) (a : Ring) (x : ℤ) → Aged text a → place_at (put (length text) a x) (kept a x) ≡ length text
put_place_new text a x g = get_or-set_same a.places (slot a (kept a x)) (length text) 0 (omega (arith, slot-lt a (kept a x), g.places_length))

put_value : (text : List ℤ) (a : Ring) (x : ℤ) → Aged text a → (i : ℕ) → i < kept a x + 1
    → value_at (put (length text) a x) i ≡ value_of (text ++ (x ∷ [])) (place_at (put (length text) a x) i)
put_value text a x g i h = go (dec_lt i (kept a x))
  where
    go : Dec (i < kept a x) → value_at (put (length text) a x) i ≡ value_of (text ++ (x ∷ [])) (place_at (put (length text) a x) i)
    go (yes l) =
        let k : i < a.minima = omega (arith, kept-le a x) in
        get_or-set_other a.values (slot a (kept a x)) (slot a i) x (pos 0) (slots_differ a i (kept a x) l (kept_few text a x g))
        ∙ g.value i k
        ∙ sym (value_of_before text x (place_at a i) ((Aged-Selected text a g).below i k))
        ∙ ap (value_of (text ++ (x ∷ []))) (sym (put_place text a x g i l))
    go (no f) =
        let e : i ≡ kept a x = omega arith in
        ap (value_at (put (length text) a x)) e
        ∙ get_or-set_same a.values (slot a (kept a x)) x (pos 0) (omega (arith, slot-lt a (kept a x), g.values_length))
        ∙ sym (value_of_last text x)
        ∙ ap (value_of (text ++ (x ∷ []))) (sym (put_place_new text a x g))
        ∙ ap (λ (k : ℕ). value_of (text ++ (x ∷ [])) (place_at (put (length text) a x) k)) (sym e)

put_places : (text : List ℤ) (a : Ring) (x : ℤ) → is_gap x ≡ false → Aged text a
    → tabulate (kept a x + 1) (place_at (put (length text) a x)) ≡ open_places (text ++ (x ∷ []))
unfolding tabulate
put_places text a x o g =
    ap (λ (k : ℕ). tabulate k (place_at (put (length text) a x))) (add-one (kept a x))
    ∙ ap₂ (λ (l : List ℕ) (p : ℕ). l ++ (p ∷ [])) (tabulate_ext (kept a x) (place_at (put (length text) a x)) (place_at a) (put_place text a x g)
    ∙ kept_places text a x g) (put_place_new text a x g)
    ∙ sym (open_places_more text x o)

Minima-put : (text : List ℤ) (a : Ring) (x : ℤ) → is_gap x ≡ false → Aged text a → Minima (text ++ (x ∷ [])) (put (length text) a x)
Minima-put text a x o g = record {
  first = g.first;
  places_length = length-set a.places (slot a (kept a x)) (length text) ∙ g.places_length;
  values_length = length-set a.values (slot a (kept a x)) x ∙ g.values_length;
  places = put_places text a x o g;
  values =
      tabulate_ext (kept a x + 1) (value_at (put (length text) a x)) (λ i. value_of (text ++ (x ∷ [])) (place_at (put (length text) a x) i))
      (put_value text a x g)
      ∙ sym (map-tabulate (value_of (text ++ (x ∷ []))) (kept a x + 1) (place_at (put (length text) a x)))
      ∙ ap (map (value_of (text ++ (x ∷ [])))) (put_places text a x o g);
}

-- THE LAW: a sample pushed keeps the open minima those of the text
pub Minima-pushed : (text : List ℤ) (r : Ring) (x : ℤ) → is_gap x ≡ false → Minima text r → Minima (text ++ (x ∷ [])) (pushed (length text) r x)
Minima-pushed text r x o m = rw pushed-put (Minima-put text (aged (length text) r) x o (Minima-aged text r m))

-- ---- the distance

-- the distance by the text before the value
distance_text : (text : List ℤ) (x : ℤ) → distance_at (text ++ (x ∷ [])) (length text) ≡ apart (length text) (seek text x (length text))
unfolding distance_at
distance_text text x =
    rw (value_of_last text x)
    (ap (apart (length text)) (last_below_ext (λ j. le_z (value_of (text ++ (x ∷ [])) j) x) (λ j. le_z (value_of text j) x) (length text)
    (λ j h. ap (λ v. le_z v x) (value_of_before text x j h))))

-- the greatest place whose value is not above x is an open minimum, if no value from it on is a gap
sought_open : (text : List ℤ) (x : ℤ) (q : ℕ) → holds_gap (drop q text) ≡ false → seek text x (length text) ≡ suc q → T (is_open text q)
sought_open text x q o e = open_from text q o (λ j h k. later j h k (≤ℤ-total (value_of text j) x))
  where
    later : (j : ℕ) → q < j → j < length text → (value_of text j ≤ℤ x) ⊎ (x <ℤ value_of text j) → T (le_z (value_of text q) (value_of text j))
    later j h k (inl l) = absurd (last_below_none (λ j. le_z (value_of text j) x) (length text) j (omega arith) k l.le)
    later j h k (inr l) = le_trans' (value_of text q) x (value_of text j) (last_below_passes (λ j. le_z (value_of text j) x) (length text) q e) (<ℤ-≤ℤ l).le

-- THE LAW of the distance that the young open minima tell: it is as good as the text's in every
-- window of at most 256 values whose values before x hold no gap
module _ (text : List ℤ) (a : Ring) (x : ℤ) (g : Aged text a) (m : ℕ) (few : m ≤ 255) (inside : m ≤ length text)
    (whole : holds_gap (last_of m text) ≡ false) where
  abbrev passes : ℕ → Bool
  passes j = le_z (value_of text j) x

  -- an open minimum that passes is not after the greatest place that passes
  above : (q : ℕ) → seek text x (length text) ≤ q → (j : ℕ) → j < a.minima → T (passes (place_at a j)) → q ≤ place_at a j → ⊥
  above q e j h t k = last_below_none passes (length text) (place_at a j) (omega arith) ((Aged-Selected text a g).below j h) t

  -- the newest that is kept passes
  kept-passes : (i : ℕ) → kept a x ≡ suc i → (i < a.minima) × T (passes (place_at a i))
  kept-passes i e =
      let f = sym (kept_text text a x g) ∙ e in
      let b = last_below-le (λ i. passes (place_at a i)) a.minima in
      (omega (arith, f, b), last_below_passes (λ i. passes (place_at a i)) a.minima i f)

  -- the greatest place that passes lies in the window: it is open, and the newest that is kept
  within : (q : ℕ) → seek text x (length text) ≡ suc q → length text ≤ q + m → back (length text) a (kept a x) ≡ length text - q
  within q e l =
      let below : q < length text = omega (arith, last_below-le passes (length text), e) in
      let o = later_none (length text - m) q text (omega arith) whole in
      let r = (Aged-Selected text a g).found q below (and_join (is_listed text q) (young (length text) q)
      (and_join (leb (length text) (q + 256)) (is_open text q) (le→leb (length text) (q + 256) (omega arith)) (sought_open text x q o e))
      (le→leb (suc (length text)) (q + 256) (omega arith))) in
      let i = r.0 in
      let k : kept a x ≡ suc i = kept_text text a x g ∙ last_below_is (λ i. passes (place_at a i)) a.minima i r.1
      (rw r.2 (last_below_passes passes (length text) q e))
      (λ j p n t. above (suc q) (omega arith) j n t (omega (arith, (Aged-Selected text a g).rises i j p n, r.2))) in
      rw (k, r.2) refl

  -- it lies before the window: so do all that pass
  before : (q : ℕ) → seek text x (length text) ≤ suc q → q + m < length text → cut m (back (length text) a (kept a x)) ≡ 0
  before q e l = go (kept a x) refl
    where
      go : (k : ℕ) → kept a x ≡ k → cut m (back (length text) a k) ≡ 0
      go zero f = rw (le-leb 0 m (omega arith)) refl
      go (suc i) f = far (dec_lt q (place_at a i))
        where
          far : Dec (q < place_at a i) → cut m (length text - place_at a i) ≡ 0
          far (yes p) = absurd (above (suc q) e i (kept-passes i f).0 (kept-passes i f).1 p)
          far (no p) = rw (lt-leb (length text - place_at a i) m (omega arith)) refl

  aged_distance : cut m (back (length text) a (kept a x)) ≡ cut m (apart (length text) (seek text x (length text)))
  aged_distance = go (seek text x (length text)) refl
    where
      go : (k : ℕ) → seek text x (length text) ≡ k → cut m (back (length text) a (kept a x)) ≡ cut m (apart (length text) k)
      go zero e =
          ap (λ (k : ℕ). cut m (back (length text) a k)) (kept_text text a x g ∙ last_below-zero (λ i. passes (place_at a i)) a.minima
          (λ j h t. above 0 (omega arith) j h t (omega arith)))
      go (suc q) e = sought (dec_lt (q + m) (length text))
        where
          sought : Dec (q + m < length text) → cut m (back (length text) a (kept a x)) ≡ cut m (length text - q)
          sought (yes l) = before q (omega arith) l ∙ (rw (lt-leb (length text - q) m (omega arith)) refl)
          sought (no f) = ap (cut m) (within q e (omega arith))

-- so the state's distance is as good as the text's there
pub distance_cut : (text : List ℤ) (r : Ring) (x : ℤ) → Minima text r → (m : ℕ) → m ≤ 255 → m ≤ length text → holds_gap (last_of m text) ≡ false
    → cut m (distance_of (length text) r x) ≡ cut m (distance_at (text ++ (x ∷ [])) (length text))
unfolding distance_of
distance_cut text r x n m h l o = aged_distance text (aged (length text) r) x (Minima-aged text r n) m h l o ∙ ap (cut m) (sym (distance_text text x))
