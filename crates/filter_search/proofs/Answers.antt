-- THE ANSWER of a filter search, for each way through the entry: the first refusal that is met, and
-- else the counts and the list.
use Rattle.std.specs.Prelude.{◌≡◌, ◌*◌, ◌≤◌, ◌<◌}
use Rattle.lists.proofs.Prelude.{◌∙◌, ap, sym, refl, ap₂, true, false, List, map, ℕ, ℤ, leb, length, sets, arith, le-leb, lt-leb, lt-ltb}
use Rattle.lists.proofs.Prelude.{le-ltb, leb-true, leb-false}
use Rattle.answers.specs.declared.Refusal.{Refusal}
use Rattle.answers.specs.Told.{number}
use Rattle.answers.proofs.Refusals.{number_positive}
use Rattle.pattern_set.specs.PatternSet.{PatternSet, patterns_of}
use Rattle.matching.specs.Matching.{hits, hit_words, candidates}
use Rattle.matching.specs.Rise.{rise_in}
use Rattle.entries.specs.Entries.{Entry, first_met, unless, told, after, set_conditions, is_short, filter_entry, filter_rises}
use Rattle.entries.proofs.Refusals.{met_before, left_by, refused}
use Rattle.entries.proofs.Filter.{from_nine}
use Rattle.entries.proofs.Searchable.{set_accepted}
use Rattle.filter_passes.proofs.Lists.{front_words, front_rises}
use Rattle.filter_search.specs.Search.{found_entry, found_rises}

-- ---- does the list fit

-- where twice a count does that leaves out no hit, twice the hits do
pub counted_fit : (ps : PatternSet) (text : List ℤ) (count room : ℕ) → length (hits ps text) ≤ count → 2 * count ≤ room
    → true ≡ leb (2 * length (hits ps text)) room
counted_fit ps text count room l h = sym (le-leb (2 * length (hits ps text)) room (omega (arith, l, h)))

-- where twice an exact count does not, twice the hits do not
pub counted_long : (ps : PatternSet) (text : List ℤ) (count room : ℕ) → count ≡ length (hits ps text) → room < 2 * count
    → false ≡ leb (2 * length (hits ps text)) room
counted_long ps text count room e h = sym (lt-leb (2 * length (hits ps text)) room (omega (arith, e, h)))

module _ (ps : PatternSet) (text : List ℤ) (out : List ℕ) (rises : List ℤ) where
  -- what the answer tells, as numbers, and what is in the arrays: it is what the search is to
  -- answer
  abbrev pub Answered : ℕ × (ℕ × ℕ) → List ℕ → List ℤ → Type 0
  Answered numbers array risen =
      (numbers ≡ told (0, 0) (found_entry ps text out))
      × ((array ≡ after (found_entry ps text out) out) × (risen ≡ after (found_rises ps text out) rises))

  pub list_refused : leb (2 * length (hits ps text)) (length out) ≡ false → Answered (11, (0, 0)) out rises
  list_refused e =
      let h = lt-ltb (length out) (2 * length (hits ps text)) (leb-false (2 * length (hits ps text)) (length out) e) in
      (rw h refl, (rw h refl, rw h refl))

  -- the second array has room for a rise where the first has room for a hit
  pub rises_room : leb (2 * length (hits ps text)) (length out) ≡ true → length out ≤ 2 * length rises → length (hits ps text) ≤ length rises
  rises_room e k = omega (arith, leb-true (2 * length (hits ps text)) (length out) e, k)

  pub list_found : leb (2 * length (hits ps text)) (length out) ≡ true → length out ≤ 2 * length rises → (found count : ℕ) (array : List ℕ) (risen : List ℤ)
      → found ≡ length (hits ps text) → count ≡ candidates ps text → array ≡ sets out 0 (hit_words (hits ps text))
      → risen ≡ sets rises 0 (map (rise_in ps text) (hits ps text)) → Answered (0, (found, count)) array risen
  list_found e k found count array risen f c a r =
      let l = leb-true (2 * length (hits ps text)) (length out) e in
      let h = le-ltb (length out) (2 * length (hits ps text)) l in (
        rw h (ap₂ (λ (m n : ℕ). (0, (m, n))) f c),
        (rw h (a ∙ front_words (hits ps text) out l), rw h (r ∙ front_rises (rise_in ps text) (hits ps text) rises (rises_room e k))),
      )

-- ---- the ways through the entry

module _ (ws : List ℕ) (text : List ℤ) (out : List ℕ) (rises : List ℤ) where
  abbrev ps : PatternSet
  ps = patterns_of ws

  abbrev entry : Entry (ℕ × ℕ) ℕ
  entry = filter_entry ws text out rises

  abbrev second : Entry (ℕ × ℕ) ℤ
  second = filter_rises ws text out rises

  -- a call that tells this and leaves these arrays does what the entry promises
  abbrev pub Answers : ℕ × (ℕ × ℕ) → List ℕ → List ℤ → Type 0
  Answers numbers array risen = (numbers ≡ told (0, 0) entry) × (array ≡ after entry out) × (risen ≡ after second rises)

  by_number : (r : Refusal) → first_met entry.conditions ≡ number r → Answers (number r, (0, 0)) out rises
  by_number r e = let a = refused (0, 0) entry r out e in (a.0, a.1, (refused (0, 0) second r rises e).1)

  -- a set that may not be searched
  pub entry_refused : (r : Refusal) → first_met (set_conditions ws) ≡ number r → Answers (number r, (0, 0)) out rises
  entry_refused r e = by_number r (met_before (set_conditions ws) (from_nine ws text out rises) (number r) (number_positive r) e)

  module _ (s : first_met (set_conditions ws) ≡ 0) where
    pub entry_long : 1048576 < length text → Answers (9, (0, 0)) out rises
    entry_long h = by_number Refusal.TextTooLong (set_accepted ws (from_nine ws text out rises) s ∙ (rw (lt-ltb 1048576 (length text) h) refl))

    pub entry_short : length text ≤ 1048576 → is_short out rises ≡ true → Answers (10, (0, 0)) out rises
    entry_short h e = by_number Refusal.ArrayTooShort (set_accepted ws (from_nine ws text out rises) s ∙ (rw (le-ltb 1048576 (length text) h, e) refl))

    -- the answer is that of the search
    pub entry_searched : length text ≤ 1048576 → is_short out rises ≡ false → (numbers : ℕ × (ℕ × ℕ)) (array : List ℕ) (risen : List ℤ)
        → Answered ps text out rises numbers array risen → Answers numbers array risen
    entry_searched h e numbers array risen a =
        let m : first_met (found_entry ps text out).conditions ≡ first_met entry.conditions =
        sym (set_accepted ws (from_nine ws text out rises) s ∙ (rw (le-ltb 1048576 (length text) h, e) refl)) in (
          a.0 ∙ ap (λ (n : ℕ). (n, unless n entry.counts (0, 0))) m,
          a.1.0 ∙ ap (λ (n : ℕ). left_by n entry.result out) m,
          a.1.1 ∙ ap (λ (n : ℕ). left_by n second.result rises) m,
        )
