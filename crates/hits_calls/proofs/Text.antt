-- The hits of an accepted call, read off the array that was lent: their words lie at its front, and
-- their numbers are those of patterns.
use Rattle.std.specs.Prelude.{Ok, Err, ◌≡◌, ◌⊎◌, ◌∷◌, ◌++◌, ◌+◌, ◌-◌, ◌*◌, ◌/◌, ◌≤◌, ◌<◌}
use Rattle.lists.proofs.Prelude.{◌∙◌, ap, sym, refl, subst, ap₂, inl, inr, Bool, true, false, cond, List, [], map, Memᴰ}
use Rattle.lists.proofs.Prelude.{append_assoc, Memᴰ-not-nil, Memᴰ-append_cases, flatten, ℕ, zero, suc, min, ℤ, ltb}
use Rattle.lists.proofs.Prelude.{length, get_or, take, drop, length-append, length-drop, length-take-le, arith, tabulate, same}
use Rattle.lists.proofs.Select.{mem-select}
use Rattle.lists.proofs.Members.{mem_below, get_or-mem, mem-map}
use Rattle.answers.specs.declared.{SearchState.{SearchState}, Refusal.{Refusal}}
use Rattle.answers.specs.Told.{number}
use Rattle.answers.proofs.Refusals.{number_positive}
use Rattle.pattern_set.specs.PatternSet.{PatternSet, patterns_of}
use Rattle.matching.specs.Matching.{hit_words, chain}
use Rattle.matching.proofs.HitWords.{length-hit_words}
use Rattle.entries.specs.Entries.{first_met, unless, told, after, Counts, stream_conditions, stream_call, stream_entry, stream_rises, stream_state}
use Rattle.automaton_model.specs.Automaton.{head_of, advance, ending_at, listed}
use Rattle.search_model.specs.Search.{Position, position_of, feed, sampled, step, call, stop, and_then}
use Rattle.search_model.proofs.Feed.{step_cases}
use Rattle.search_model.specs.Ring.{distance_of}
use Rattle.matching.specs.HitsIn.{hits_in}
use Rattle.matching.proofs.HitsIn.{hit_in_words, hits_in_words}
use Rattle.hits_output.specs.Output.{hit_lines}
use Rattle.hits_calls.specs.declared.calls.{Step.{Step}, Batch.{Batch}}
use Rattle.hits_calls.specs.Called.{hit_front, tells, batch, summed, summary, told_batch, bytes_of, IsCalled}

-- ---- the numbers of hits are those of patterns

ending_below : (ps : PatternSet) (j : ℕ) (hs : List (List ℕ)) → Memᴰ j (flatten (map (ending_at ps) hs)) → j < length ps
unfolding flatten
ending_below ps j [] m = absurd (Memᴰ-not-nil m)
ending_below ps j (g ∷ gs) m = one (ending_below ps j gs) (Memᴰ-append_cases (ending_at ps g) m)
  where
    one : (Memᴰ j (flatten (map (ending_at ps) gs)) → j < length ps) → Memᴰ j (ending_at ps g) ⊎ Memᴰ j (flatten (map (ending_at ps) gs))
        → j < length ps
    one ih (inl n) = (mem_below (length ps) j).0 ((mem-select (λ i. same (get_or ps i []) g) (tabulate (length ps) (λ i. i)) j).0 n).0
    one ih (inr n) = ih n

listed_below : (ps : PatternSet) (h : List ℕ) (j : ℕ) → Memᴰ j (listed ps h) → j < length ps
unfolding listed
listed_below ps h j m = ending_below ps j (chain ps h) m

sample_below : (ps : PatternSet) (st : Position) (x : ℤ) (h : ℕ × ℕ) → Memᴰ h (sampled ps st x).hits → h.1 < length ps
unfolding sampled
sample_below ps st x h m =
    let g = (advance ps (head_of ps st.node) (distance_of st.taken st.ring x)).0 in
    let r = (mem-map (λ j. (st.taken, j)) (listed ps g) h).0 m in
    subst (λ (k : ℕ). k < length ps) (sym (ap (λ (z : ℕ × ℕ). z.1) r.2)) (listed_below ps g r.0 r.1)

step_below : (ps : PatternSet) (st : Position) (x : ℤ) (h : ℕ × ℕ) → Memᴰ h (step ps st x).hits → h.1 < length ps
step_below ps st x h =
    step_cases ps st x (λ s. Memᴰ h s.hits → h.1 < length ps) (λ o m. absurd (Memᴰ-not-nil m)) (λ o. sample_below ps st x h)

call_below : (ps : PatternSet) (xs : List ℤ) (st : Position) (free : ℕ) (h : ℕ × ℕ) → Memᴰ h (call ps st free xs).hits → h.1 < length ps
unfolding feed
call_below ps [] st free h m = absurd (Memᴰ-not-nil m)
call_below ps (x ∷ xs) st free h m = go (ltb free (2 * length ps)) (call_below ps xs (step ps st x).state (free - 2 * length (step ps st x).hits) h) m
  where
    rest : List (ℕ × ℕ)
    rest = (call ps (step ps st x).state (free - 2 * length (step ps st x).hits) xs).hits

    one : (Memᴰ h rest → h.1 < length ps) → Memᴰ h (step ps st x).hits ⊎ Memᴰ h rest → h.1 < length ps
    one ih (inl n) = step_below ps st x h n
    one ih (inr n) = ih n

    go : (b : Bool) → (Memᴰ h rest → h.1 < length ps)
        → Memᴰ h (cond b (stop st 0) (and_then (step ps st x) (call ps (step ps st x).state (free - 2 * length (step ps st x).hits) xs))).hits
        → h.1 < length ps
    go true ih m = absurd (Memᴰ-not-nil m)
    go false ih m = one ih (Memᴰ-append_cases (step ps st x).hits m)

-- ---- an accepted call

module _ (ws au : List ℕ) (st : SearchState) (xs : List ℤ) (array : List ℕ) (rises : List ℤ) (part : List ℕ)
    (e : first_met (stream_conditions ws au st xs array rises) ≡ 0)
    (w : part ≡ after (stream_entry ws au st xs array rises) array) (same : length part ≡ length array) where
  found : List (ℕ × ℕ)
  found = (stream_call ws st xs array).hits

  part_words : part ≡ hit_words found ++ drop (length (hit_words found)) array
  unfolding found
  part_words =
      w ∙ ap (λ (n : ℕ). unless n (hit_words (stream_call ws st xs array).hits ++ drop (length (hit_words (stream_call ws st xs array).hits)) array) array) e

  -- the words fit
  pub words_fit : 2 * length (stream_call ws st xs array).hits ≤ length array
  unfolding found
  words_fit =
      let f = (stream_call ws st xs array).hits in
      let l : length (hit_words f) + (length array - length (hit_words f)) ≡ length array =
      ap (λ (n : ℕ). length (hit_words f) + n) (sym (length-drop (length (hit_words f)) array))
      ∙ sym (length-append (hit_words f) (drop (length (hit_words f)) array))
      ∙ sym (ap length part_words)
      ∙ same in
      omega (arith, length-hit_words f)

  front : (rest : List ℕ) → part ++ rest ≡ hit_words found ++ (drop (length (hit_words found)) array ++ rest)
  front rest = ap (λ (l : List ℕ). l ++ rest) part_words ∙ append_assoc (hit_words found) (drop (length (hit_words found)) array) rest

  -- what is read off are the hits
  pub hits_read : (rest : List ℕ) → hits_in (part ++ rest) (length (stream_call ws st xs array).hits) ≡ (stream_call ws st xs array).hits
  unfolding found
  hits_read rest =
      ap (λ (l : List ℕ). hits_in l (length (stream_call ws st xs array).hits)) (front rest)
      ∙ hits_in_words (stream_call ws st xs array).hits (drop (length (hit_words (stream_call ws st xs array).hits)) array ++ rest)

  -- and each number is that of a pattern
  pub numbers_below : (rest : List ℕ) (i : ℕ) → i < length (stream_call ws st xs array).hits → get_or (part ++ rest) (2 * i + 1) 0 < length (patterns_of ws)
  unfolding found
  numbers_below rest i h =
      let f = (stream_call ws st xs array).hits in
      let q : get_or (part ++ rest) (2 * i + 1) 0 ≡ (get_or f i (0, 0)).1 =
      ap (λ (l : List ℕ). get_or l (2 * i + 1) 0) (front rest) ∙ ap (λ (z : ℕ × ℕ). z.1) (hit_in_words f (drop (length (hit_words f)) array ++ rest) i h) in
      subst (λ (k : ℕ). k < length (patterns_of ws)) (sym q)
      (call_below (patterns_of ws) xs (position_of st) (length array) (get_or f i (0, 0)) (get_or-mem f i (0, 0) h))

  -- the same by a number that is told
  pub told_count : (refused : ℕ) (more : Bool) (n attempts : ℕ)
      → summed refused more n attempts ≡ summary (told (0, 0, 0, 0) (stream_entry ws au st xs array rises)) → n ≡ length (stream_call ws st xs array).hits
  told_count refused more n attempts t =
      let c = stream_call ws st xs array in
      ap (λ (z : ℕ × (Bool × ℕ × ℕ)). z.1.1) t ∙ ap (λ (m : ℕ). (unless {A = Counts} m (c.ended, c.taken, length c.hits, c.attempts) (0, 0, 0, 0)).2) e

  pub told_fit : (n : ℕ) (rest : List ℕ) → n ≡ length (stream_call ws st xs array).hits → 2 * n ≤ length (part ++ rest)
  told_fit n rest q = omega (arith, words_fit, same, length-append part rest)

  pub told_below : (n : ℕ) (rest : List ℕ) → n ≡ length (stream_call ws st xs array).hits → (i : ℕ) → i < n
      → get_or (part ++ rest) (2 * i + 1) 0 < length (patterns_of ws)
  told_below n rest q i h = numbers_below rest i (omega (arith, h, q))

  -- the lines of as many hits as the buffer has room for
  pub told_lines : (n : ℕ) (out : List ℕ) → n ≡ length (stream_call ws st xs array).hits → length array ≤ 2 * (length out / 63) → 63 * n ≤ length out
  told_lines n out q h = omega (arith, words_fit)

-- ---- the whole call

drop_room : (room : ℕ) (hits : List ℕ) → room ≤ length hits → drop room hits ≡ drop (length (take room hits)) hits
drop_room room hits h = ap (λ (n : ℕ). drop n hits) (sym (length-take-le room hits h))

module _ (ws au : List ℕ) (st : SearchState) (xs : List ℤ) (hits : List ℕ) (rises risen : List ℤ) (out part after' : List ℕ) (room : ℕ) (r : Step)
    (q : room ≡ min (length hits) (2 * (length out / 63))) (l : room ≤ length hits)
    (t : told_batch r.answer ≡ summary (told (0, 0, 0, 0) (stream_entry ws au st xs (take room hits) rises)))
    (s : r.state ≡ stream_state ws au st xs (take room hits) rises)
    (w : part ≡ after (stream_entry ws au st xs (take room hits) rises) (take room hits))
    (u : risen ≡ after (stream_rises ws au st xs (take room hits) rises) rises) where
  -- the text is that of the call
  abbrev IsText : List ℕ → Type 0
  IsText text = (bytes_of r.answer ≡ length text) × (after' ≡ text ++ drop (length text) out)

  called : IsText (batch ws au st xs (take room hits) rises) → IsCalled ws au st xs hits rises out (part ++ drop room hits) risen after' r
  called x = record {
    answer = t ∙ ap (λ (n : ℕ). summary (tells ws au st xs (take n hits) rises)) q;
    state = s ∙ ap (λ (n : ℕ). stream_state ws au st xs (take n hits) rises) q;
    words =
        ap₂ (λ (a b : List ℕ). a ++ b) w (drop_room room hits l)
        ∙ ap (λ (n : ℕ). after (stream_entry ws au st xs (take n hits) rises) (take n hits) ++ drop (length (take n hits)) hits) q;
    rises = u ∙ ap (λ (n : ℕ). after (stream_rises ws au st xs (take n hits) rises) rises) q;
    bytes = x.0 ∙ ap (λ (n : ℕ). length (batch ws au st xs (take n hits) rises)) q;
    text = x.1 ∙ ap (λ (n : ℕ). batch ws au st xs (take n hits) rises ++ drop (length (batch ws au st xs (take n hits) rises)) out) q;
  }

  refusal_is : (told_batch r.answer).0 ≡ first_met (stream_conditions ws au st xs (take room hits) rises)
  refusal_is = ap (λ (z : ℕ × (Bool × ℕ × ℕ)). z.0) t

  -- accepted
  pub called_accepted : (b : Batch) → r.answer ≡ Ok b → length part ≡ length (take room hits)
      → b.bytes ≡ length (hit_lines (patterns_of ws) (hits_in (part ++ drop room hits) b.hits))
      → after' ≡ hit_lines (patterns_of ws) (hits_in (part ++ drop room hits) b.hits)
      ++ drop (length (hit_lines (patterns_of ws) (hits_in (part ++ drop room hits) b.hits))) out
      → IsCalled ws au st xs hits rises out (part ++ drop room hits) risen after' r
  called_accepted b z same x y =
      let e : first_met (stream_conditions ws au st xs (take room hits) rises) ≡ 0 = sym refusal_is ∙ ap (λ a. (told_batch a).0) z in
      let f = (stream_call ws st xs (take room hits)).hits in
      let n : b.hits ≡ length f =
      told_count ws au st xs (take room hits) rises part e w same 0 b.more b.hits b.attempts (sym (ap told_batch z) ∙ t) in
      let h : hits_in (part ++ drop room hits) b.hits ≡ f =
      ap (hits_in (part ++ drop room hits)) n ∙ hits_read ws au st xs (take room hits) rises part e w same (drop room hits) in
      let text : hit_lines (patterns_of ws) (hits_in (part ++ drop room hits) b.hits) ≡ batch ws au st xs (take room hits) rises =
      ap (hit_lines (patterns_of ws)) h ∙ sym (ap (λ (m : ℕ). unless m (hit_lines (patterns_of ws) f) []) e) in
      called (subst IsText text (ap bytes_of z ∙ x, y))

  -- refused
  pub called_refused : (e : Refusal) → r.answer ≡ Err e → after' ≡ out → IsCalled ws au st xs hits rises out (part ++ drop room hits) risen after' r
  called_refused e z o =
      called
      (subst IsText (sym (none (first_met (stream_conditions ws au st xs (take room hits) rises)) (sym (ap (λ a. (told_batch a).0) z) ∙ refusal_is)))
      (ap bytes_of z, o))
    where
      none : (m : ℕ) → number e ≡ m → unless m (hit_lines (patterns_of ws) (stream_call ws st xs (take room hits)).hits) [] ≡ []
      none zero f = absurd (let z : ⊥ = omega (arith, f, number_positive e) in z)
      none (suc m) f = refl

-- the text lies within the buffer
pub called_fits : (ws au : List ℕ) (st : SearchState) (xs : List ℤ) (hits : List ℕ) (rises : List ℤ) (out hits' : List ℕ) (risen : List ℤ)
    (after' : List ℕ) (r : Step)
    → IsCalled ws au st xs hits rises out hits' risen after' r → bytes_of r.answer ≤ length after'
called_fits ws au st xs hits rises out hits' risen after' r c =
    let text = batch ws au st xs (hit_front hits out) rises in
    omega (arith, c.bytes, ap length c.text, length-append text (drop (length text) out))
