-- THE ANSWER of a stream search, for each way through the entry: the first refusal that is met, and
-- else what the call does.
use Rattle.std.specs.Prelude.{◌≡◌, ◌++◌}
use Rattle.lists.proofs.Prelude.{◌∙◌, ap, sym, refl, subst, cond, List, ℕ, ℤ, leb, length, drop, length-map}
use Rattle.answers.specs.declared.Counts.{Counts as Counted}
use Rattle.answers.specs.declared.Refusal.{Refusal}
use Rattle.answers.specs.declared.SearchState.{SearchState}
use Rattle.answers.specs.Told.{number}
use Rattle.answers.proofs.Refusals.{number_positive}
use Rattle.pattern_set.specs.PatternSet.{PatternSet, patterns_of}
use Rattle.matching.specs.Matching.{hit_words}
use Rattle.matching.specs.Rise.{rise}
use Rattle.search_model.specs.Recent.{found_at}
use Rattle.entries.specs.Entries.{Conditions, Counts, Entry, first_met, unless, told, after, search_conditions, stream_conditions, stream_call}
use Rattle.entries.specs.Entries.{stream_entry, stream_rises, stream_state}
use Rattle.search_model.specs.Search.{Position, position_of, Called, call, state_after, rises_of}
use Rattle.entries.proofs.Refusals as refusals
use Rattle.entries.proofs.Searchable.{search_accepted}
use Rattle.stream_call.specs.Taken.{IsDone}
use Rattle.stream_search.specs.Conditions.{call_conditions}
use Rattle.matching.proofs.HitWords.{length-hit_words}

module _ (ws automaton : List ℕ) (st : SearchState) (xs : List ℤ) (out : List ℕ) (rises : List ℤ) where
  abbrev ps : PatternSet
  ps = patterns_of ws

  abbrev entry : Entry Counts ℕ
  entry = stream_entry ws automaton st xs out rises

  abbrev second : Entry Counts ℤ
  second = stream_rises ws automaton st xs out rises

  abbrev called : Called Position
  called = stream_call ws st xs out

  -- a call that tells this, hands back this state and leaves these arrays does what the entry
  -- promises
  abbrev pub Answers : ℕ × Counts → SearchState → List ℕ → List ℤ → Type 0
  Answers tells state array risen =
      (tells ≡ told (0, 0, 0, 0) entry) × (state ≡ stream_state ws automaton st xs out rises) × (array ≡ after entry out) × (risen ≡ after second rises)

  abbrev refusal : ℕ
  refusal = first_met (stream_conditions ws automaton st xs out rises)

  -- ---- refused

  refused : (r : Refusal) → refusal ≡ number r → Answers (number r, (0, 0, 0, 0)) st out rises
  refused r e =
      let a = refusals.refused (0, 0, 0, 0) entry r out e in
      let b = refusals.refused (0, 0, 0, 0) second r rises e in
      let next = state_after st xs called in
      (a.0, sym (ap (λ (n : ℕ). unless n next st) e ∙ refusals.unless_refused r next st), a.1, b.1)

  abbrev behind : Conditions
  behind = call_conditions ps st xs out rises

  whole : refusal ≡ first_met (search_conditions ws automaton ++ behind)
  unfolding stream_conditions
  whole = refl

  -- set or automaton is refused
  pub unchecked : (r : Refusal) → first_met (search_conditions ws automaton) ≡ number r → Answers (number r, (0, 0, 0, 0)) st out rises
  unchecked r e = refused r (whole ∙ refusals.met_before (search_conditions ws automaton) behind (number r) (number_positive r) e)

  module _ (k : first_met (search_conditions ws automaton) ≡ 0) where
    checked : refusal ≡ first_met behind
    checked = whole ∙ search_accepted ws automaton behind k

    -- the state, the values or the arrays are, of a view over the words ws'
    pub declined : (ws' : List ℕ) → ws' ≡ ws → (r : Refusal) → first_met (call_conditions (patterns_of ws') st xs out rises) ≡ number r
        → Answers (number r, (0, 0, 0, 0)) st out rises
    declined ws' v r e = refused r (checked ∙ subst (λ (w : List ℕ). first_met (call_conditions (patterns_of w) st xs out rises) ≡ number r) v e)

    -- ---- accepted

    answered : first_met behind ≡ 0 → (hits : List ℕ) (risen : List ℤ) (made : SearchState) (c : Counted) (answer : ℕ × Counts)
        → made ≡ state_after st xs called → IsDone ps (found_at st.taken st.recent xs) xs called out hits rises risen c
        → answer ≡ (0, (cond (leb (length xs) c.taken) 1 0, c.taken, c.hits, c.attempts))
        → Answers answer made hits risen
    answered h hits risen made c answer s t e =
        let n : refusal ≡ 0 = checked ∙ h in
        let q : ◌≡◌ {A = Counts} (cond (leb (length xs) c.taken) 1 0, c.taken, c.hits, c.attempts) entry.counts =
        λ i. (sym t.ended i, t.taken i, t.hits i, t.attempts i) in
        let w = t.words ∙ ap (λ (m : ℕ). hit_words called.hits ++ drop m out) (sym (length-hit_words called.hits)) in
        let a = refusals.accepted (0, 0, 0, 0) entry _ out hits n q w in
        let vs = rises_of ps st xs called in
        let u = t.rises ∙ ap (λ (m : ℕ). vs ++ drop m rises) (sym (length-map called.hits (rise ps (found_at st.taken st.recent xs)))) in (
          e ∙ a.0,
          s ∙ sym (ap (λ (m : ℕ). unless m (state_after st xs called) st) n),
          a.1,
          u ∙ refusals.left_accepted (0, 0, 0, 0) second rises n,
        )

    pub answers : (ws' : List ℕ) → ws' ≡ ws → first_met (call_conditions (patterns_of ws') st xs out rises) ≡ 0
        → (hits : List ℕ) (risen : List ℤ) (made : SearchState) (c : Counted) (answer : ℕ × Counts)
        → made ≡ state_after st xs (call (patterns_of ws') (position_of st) (length out) xs)
        → IsDone (patterns_of ws') (found_at st.taken st.recent xs) xs (call (patterns_of ws') (position_of st) (length out) xs) out hits rises risen c
        → answer ≡ (0, (cond (leb (length xs) c.taken) 1 0, c.taken, c.hits, c.attempts))
        → Answers answer made hits risen
    answers ws' v h hits risen made c answer s t e =
        answered (subst (λ (w : List ℕ). first_met (call_conditions (patterns_of w) st xs out rises) ≡ 0) v h) hits risen made c answer
        (subst (λ (w : List ℕ). made ≡ state_after st xs (call (patterns_of w) (position_of st) (length out) xs)) v s)
        (subst (λ (w : List ℕ). IsDone (patterns_of w) (found_at st.taken st.recent xs) xs (call (patterns_of w) (position_of st) (length out) xs)
        out hits rises risen c) v t) e
