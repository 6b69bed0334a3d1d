-- The open minima of a ring are those of the text: what that says, that it holds of a new search,
-- and that such a ring passes the check of the open minima. The places rise as they are selected
-- from 0, 1, 2, ..; the last value is open; and no value after an open one is smaller.
use Rattle.std.specs.Prelude.{◌≡◌, ◌⊎◌, ◌&&◌, ◌||◌, ◌∷◌, ◌++◌, ◌+◌, ◌<◌, ◌-◌, ◌≤◌}
use Rattle.lists.proofs.Prelude.{◌∙◌, ap, sym, refl, subst, inl, inr, Bool, true, false, not, List, [], map, ℕ, suc, pred}
use Rattle.lists.proofs.Prelude.{ℤ, pos, le_z, T, leb, leb→le, le→leb, length, get_or, length-append, get_or-append, length-replicate}
use Rattle.lists.proofs.Prelude.{get_or-append_seam, add-one, dec_lt, arith, tabulate, select, all, drop, drop-append-le, drop-append_seam, last_of}
use Rattle.lists.proofs.Tables.{map-tabulate, tabulate_at}
use Rattle.lists.proofs.Select.{select_empty, select-select, select_snoc}
use Rattle.lists.proofs.SelectTable.{select_below_ext, Selected, selected}
use Rattle.lists.proofs.Tests.{and_split, and_join, or_cases, or_left, or_right, test_ext, true-T, clash}
use Rattle.lists.proofs.Members.{mem_below, all_below, below_all}
use Rattle.gaps.specs.Gaps.{is_gap, holds_gap}
use Rattle.gaps.proofs.Laws.{empty_none, front_none, later_none, snoc_none, snoc_gap}
use Rattle.answers.specs.Told.{new_search}
use Rattle.matching.proofs.Trees.{not_passed, passed_not}
use Rattle.search_model.specs.Ring.{Ring, place_at, value_at, good_ring, cleared}
use Rattle.search_model.specs.Search.{position_of}
use Rattle.search_model.proofs.Minima.{Good-from}
use Rattle.runs.specs.ReferenceRun.{is_open, open_places}

pub record Minima (text : List ℤ) (r : Ring) : Type 0 where
  pub first : r.first < 256
  pub places_length : length r.places ≡ 256
  pub values_length : length r.values ≡ 256
  pub places : tabulate r.minima (place_at r) ≡ open_places text
  pub values : tabulate r.minima (value_at r) ≡ map (λ i. get_or text i (pos 0)) (open_places text)

-- a new search has none
pub Minima-new : Minima [] (position_of new_search).ring
unfolding tabulate select open_places
Minima-new = record {
  first = omega arith;
  places_length = length-replicate {A = ℕ} 256 0;
  values_length = length-replicate 256 (pos 0);
  places = refl;
  values = refl;
}

-- ---- open minima of a text

abbrev pub value_of : List ℤ → ℕ → ℤ
value_of text i = get_or text i (pos 0)

-- no value from place i on is smaller than that at i
abbrev lowest : List ℤ → ℕ → Bool
lowest text i = all (λ j. leb j i || le_z (value_of text i) (value_of text j)) (tabulate (length text) (λ j. j))

-- no value from it on is a gap, and no later one is smaller: as facts and back
pub open_whole : (text : List ℤ) (i : ℕ) → T (is_open text i) → holds_gap (drop i text) ≡ false
unfolding is_open
open_whole text i t = not_passed (holds_gap (drop i text)) (and_split (not (holds_gap (drop i text))) (lowest text i) t).0

pub open_later : (text : List ℤ) (i j : ℕ) → T (is_open text i) → i < j → j < length text → T (le_z (value_of text i) (value_of text j))
unfolding is_open
open_later text i j t h k =
    go (or_cases (leb j i) (le_z (value_of text i) (value_of text j))
    (all_below (λ j. leb j i || le_z (value_of text i) (value_of text j)) (length text) (and_split (not (holds_gap (drop i text))) (lowest text i) t).1 j k))
  where
    go : T (leb j i) ⊎ T (le_z (value_of text i) (value_of text j)) → T (le_z (value_of text i) (value_of text j))
    go (inl l) = absurd (let z : ⊥ = omega (arith, leb→le j i l) in z)
    go (inr l) = l

pub open_from : (text : List ℤ) (i : ℕ) → holds_gap (drop i text) ≡ false
    → ((j : ℕ) → i < j → j < length text → T (le_z (value_of text i) (value_of text j))) → T (is_open text i)
unfolding is_open
open_from text i o f =
    and_join (not (holds_gap (drop i text))) (lowest text i) (passed_not (holds_gap (drop i text)) o)
    (below_all (λ j. leb j i || le_z (value_of text i) (value_of text j)) (length text) (λ j h. go j h (dec_lt i j)))
  where
    go : (j : ℕ) → j < length text → Dec (i < j) → T (leb j i || le_z (value_of text i) (value_of text j))
    go j h (yes l) = or_right (leb j i) (le_z (value_of text i) (value_of text j)) (f j l h)
    go j h (no g) = or_left (leb j i) (le_z (value_of text i) (value_of text j)) (le→leb j i (omega arith))

-- ---- one value more

pub value_of_before : (text : List ℤ) (x : ℤ) (i : ℕ) → i < length text → value_of (text ++ (x ∷ [])) i ≡ value_of text i
value_of_before text x i h = get_or-append text (x ∷ []) (pos 0) i h

pub value_of_last : (text : List ℤ) (x : ℤ) → value_of (text ++ (x ∷ [])) (length text) ≡ x
value_of_last text x = get_or-append_seam text x [] (pos 0)

pub length_more : (text : List ℤ) (x : ℤ) → length (text ++ (x ∷ [])) ≡ suc (length text)
length_more text x = length-append text (x ∷ []) ∙ add-one (length text)

-- what stands behind a place before the new value
drop_more : (text : List ℤ) (x : ℤ) (i : ℕ) → i ≤ length text → drop i (text ++ (x ∷ [])) ≡ drop i text ++ (x ∷ [])
drop_more text x i h = drop-append-le i text (x ∷ []) h

-- an open minimum stays one if the new value is a sample and its value is not above it
is_open_before : (text : List ℤ) (x : ℤ) → is_gap x ≡ false → (i : ℕ) → i < length text → is_open (text ++ (x ∷ [])) i
    ≡ is_open text i && le_z (value_of text i) x
is_open_before text x o i h = test_ext (is_open (text ++ (x ∷ [])) i) (is_open text i && le_z (value_of text i) x)
    (λ t. and_join (is_open text i) (le_z (value_of text i) x) (open_from text i (whole t) (λ j l k. before t j l k)) (last t))
    (λ t. let p = and_split (is_open text i) (le_z (value_of text i) x) t in open_from (text ++ (x ∷ [])) i (whole_more p.0)
    (λ j l k. both p.0 p.1 j l (rw length_more at k) (dec_lt j (length text))))
  where
    whole : T (is_open (text ++ (x ∷ [])) i) → holds_gap (drop i text) ≡ false
    whole t = front_none (drop i text) (x ∷ []) (ap holds_gap (sym (drop_more text x i (omega arith))) ∙ open_whole (text ++ (x ∷ [])) i t)

    whole_more : T (is_open text i) → holds_gap (drop i (text ++ (x ∷ []))) ≡ false
    whole_more t = ap holds_gap (drop_more text x i (omega arith)) ∙ snoc_none (drop i text) x (open_whole text i t) o

    before : T (is_open (text ++ (x ∷ [])) i) → (j : ℕ) → i < j → j < length text → T (le_z (value_of text i) (value_of text j))
    before t j l k =
        rw (value_of_before text x i h, value_of_before text x j k) at (open_later (text ++ (x ∷ [])) i j t l (rw length_more (omega arith)))

    last : T (is_open (text ++ (x ∷ [])) i) → T (le_z (value_of text i) x)
    last t =
        rw (value_of_before text x i h, value_of_last text x) at (open_later (text ++ (x ∷ [])) i (length text) t h (rw length_more (omega arith)))

    both : T (is_open text i) → T (le_z (value_of text i) x) → (j : ℕ) → i < j → j < suc (length text) → Dec (j < length text)
        → T (le_z (value_of (text ++ (x ∷ [])) i) (value_of (text ++ (x ∷ [])) j))
    both t u j l k (yes g) = rw (value_of_before text x i h, value_of_before text x j g) (open_later text i j t l g)
    both t u j l k (no g) =
        let e : j ≡ length text = omega arith in
        rw (e, value_of_before text x i h, value_of_last text x) u

-- the newest sample is open
is_open_last : (text : List ℤ) (x : ℤ) → is_gap x ≡ false → T (is_open (text ++ (x ∷ [])) (length text))
is_open_last text x o =
    open_from (text ++ (x ∷ [])) (length text) (ap holds_gap (drop-append_seam text (x ∷ [])) ∙ snoc_none [] x empty_none o)
    (λ j l k. absurd (no_later j l (rw length_more at k)))
  where
    no_later : (j : ℕ) → length text < j → j < suc (length text) → ⊥
    no_later j l k = omega arith

-- still among the last 256 once the text of so many values has one more
abbrev pub young : ℕ → ℕ → Bool
young n i = leb (suc n) (i + 256)

-- the tests in the one order and in the other
reordered : (a y o l : Bool) → (T y → T a) → y && (o && l) ≡ ((a && o) && y) && l
reordered true true true l f = refl
reordered true true false l f = refl
reordered true false true l f = refl
reordered true false false l f = refl
reordered false true o l f = absurd (f tt)
reordered false false o l f = refl

-- the open minima with one sample more: those that are still among the last 256 and not above it,
-- and its place
pub open_places_more : (text : List ℤ) (x : ℤ) → is_gap x ≡ false
    → open_places (text ++ (x ∷ [])) ≡ select (λ i. le_z (value_of text i) x) (select (young (length text)) (open_places text)) ++ (length text ∷ [])
unfolding open_places tabulate
open_places_more text x o =
    let n = length text in
    let before : ℕ → Bool = λ i. leb n (i + 256) && is_open text i in
    let after : ℕ → Bool = λ i. leb (suc n) (i + 256) && is_open (text ++ (x ∷ [])) i in
    let places : List ℕ = tabulate n (λ i. i) in
    rw length_more
    (select_snoc after places n (true-T (after n) (and_join (leb (suc n) (n + 256)) (is_open (text ++ (x ∷ [])) n)
    (le→leb (suc n) (n + 256) (omega arith)) (is_open_last text x o)))
    ∙ ap (λ (l : List ℕ). l ++ (n ∷ []))
    (select_below_ext after (λ i. (before i && young n i) && le_z (value_of text i) x) n
    (λ i h. ap (λ (b : Bool). young n i && b) (is_open_before text x o i h) ∙ reordered (leb n (i + 256)) (young n i) (is_open text i)
    (le_z (value_of text i) x) (λ t. le→leb n (i + 256) (omega (arith, leb→le (suc n) (i + 256) t))))
    ∙ sym (select-select (λ i. before i && young n i) (λ i. le_z (value_of text i) x) places)
    ∙ ap (select (λ i. le_z (value_of text i) x)) (sym (select-select before (young n) places))))

-- behind a gap nothing is open
pub open_places_gap : (text : List ℤ) (x : ℤ) → is_gap x ≡ true → open_places (text ++ (x ∷ [])) ≡ []
unfolding open_places
open_places_gap text x o =
    let more = text ++ (x ∷ []) in
    select_empty (λ i. leb (length more) (i + 256) && is_open more i) (tabulate (length more) (λ i. i))
    (λ i m t. shut i (rw length_more at ((mem_below (length more) i).0 m)) (and_split (leb (length more) (i + 256)) (is_open more i) t).1)
  where
    shut : (i : ℕ) → i < suc (length text) → T (is_open (text ++ (x ∷ [])) i) → ⊥
    shut i h t =
        clash (snoc_gap (drop i text) x o) (ap holds_gap (sym (drop_more text x i (omega arith))) ∙ open_whole (text ++ (x ∷ [])) i t)

-- so the cleared ring has the open minima of the text with the gap
pub Minima-cleared : (text : List ℤ) (r : Ring) (x : ℤ) → is_gap x ≡ true → Minima text r → Minima (text ++ (x ∷ [])) (cleared r)
unfolding tabulate
Minima-cleared text r x o m = record {
  first = m.first;
  places_length = m.places_length;
  values_length = m.values_length;
  places = sym (open_places_gap text x o);
  values = sym (ap (map (λ i. get_or (text ++ (x ∷ [])) i (pos 0))) (open_places_gap text x o));
}

-- ---- what a state with the open minima of the text has

-- is a place open and among the last 256
abbrev pub is_listed : List ℤ → ℕ → Bool
is_listed text i = leb (length text) (i + 256) && is_open text i

pub Minima-Selected : (text : List ℤ) (r : Ring) → Minima text r → Selected (is_listed text) (length text) r.minima (place_at r)
unfolding open_places
Minima-Selected text r m = selected (is_listed text) (length text) r.minima (place_at r) m.places

pub Minima-value : (text : List ℤ) (r : Ring) → Minima text r → (i : ℕ) → i < r.minima → value_at r i ≡ value_of text (place_at r i)
Minima-value text r m =
    tabulate_at (pos 0) r.minima (value_at r) (λ i. value_of text (place_at r i))
    (m.values ∙ ap (map (value_of text)) (sym m.places) ∙ map-tabulate (value_of text) r.minima (place_at r))

-- the values never fall
pub Minima-rise : (text : List ℤ) (r : Ring) → Minima text r → (i j : ℕ) → i < j → j < r.minima
    → T (le_z (value_of text (place_at r i)) (value_of text (place_at r j)))
Minima-rise text r m i j h k =
    let s = Minima-Selected text r m in
    let p = and_split (leb (length text) (place_at r i + 256)) (is_open text (place_at r i)) (s.passes i (omega arith)) in
    open_later text (place_at r i) (place_at r j) p.1 (s.rises i j h k) (s.below j k)

-- ---- the check

-- the last place, where it has a sample, is open and recent, so it is that of some open minimum
last_listed : (text : List ℤ) → 0 < length text → holds_gap (last_of 1 text) ≡ false → T (is_listed text (pred (length text)))
last_listed text h o =
    let last : length text - 1 ≡ pred (length text) = omega arith in
    and_join (leb (length text) (pred (length text) + 256)) (is_open text (pred (length text))) (le→leb (length text) (pred (length text) + 256) (omega arith))
    (open_from text (pred (length text)) (ap (λ (i : ℕ). holds_gap (drop i text)) (sym last) ∙ o) (λ j l k. absurd (no_later j l k)))
  where
    no_later : (j : ℕ) → pred (length text) < j → j < length text → ⊥
    no_later j l k = omega arith

last_found : (text : List ℤ) (r : Ring) → Minima text r → 0 < length text → holds_gap (last_of 1 text) ≡ false
    → (i : ℕ) × (i < r.minima) × (place_at r i ≡ pred (length text))
last_found text r m h o = (Minima-Selected text r m).found (pred (length text)) (omega arith) (last_listed text h o)

-- where some minimum is open, the last value is a sample
last_whole : (text : List ℤ) (r : Ring) → Minima text r → (i : ℕ) → i < r.minima → holds_gap (last_of 1 text) ≡ false
last_whole text r m i h =
    let s = Minima-Selected text r m in
    let a = place_at r i in
    let o = open_whole text a (and_split (leb (length text) (a + 256)) (is_open text a) (s.passes i h)).1 in
    later_none a (length text - 1) text (omega (arith, s.below i h)) o

pub Minima-good : (text : List ℤ) (r : Ring) → Minima text r → T (good_ring (length text) r)
Minima-good text r m = Good-from (length text) r (record {
  rises = λ i h. s.rises i (suc i) (omega arith) h;
  recent = λ i h. leb→le (length text) (place_at r i + 256) (and_split (leb (length text) (place_at r i + 256)) (is_open text (place_at r i)) (s.passes i h)).0;
  ends = λ i h. ends i h (last_found text r m (omega (arith, s.below i (omega arith))) (last_whole text r m i (omega arith)));
  climbs = λ i h. rw (Minima-value text r m i (omega arith), Minima-value text r m (suc i) h) (Minima-rise text r m i (suc i) (omega arith) h);
})
  where
    s : Selected (is_listed text) (length text) r.minima (place_at r)
    s = Minima-Selected text r m

    -- nothing is open after the last place, so its open minimum is the newest
    ends : (i : ℕ) → suc i ≡ r.minima → (j : ℕ) × (j < r.minima) × (place_at r j ≡ pred (length text)) → suc (place_at r i) ≡ length text
    ends i h f = go (dec_lt f.0 i)
      where
        go : Dec (f.0 < i) → suc (place_at r i) ≡ length text
        go (yes k) = absurd (let z : ⊥ = omega (arith, f.2, s.rises f.0 i k (omega arith), s.below i (omega arith)) in z)
        go (no g) =
            let e : f.0 ≡ i = omega (arith, f.1) in
            omega (arith, subst (λ (j : ℕ). place_at r j ≡ pred (length text)) e f.2, s.below i (omega arith))

-- behind a sample some minimum is open
pub Minima-some : (text : List ℤ) (r : Ring) → Minima text r → 0 < length text → holds_gap (last_of 1 text) ≡ false → 0 < r.minima
Minima-some text r m h o = let f = last_found text r m h o in omega (arith, f.1)
