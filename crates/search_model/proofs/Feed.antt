-- THE RULE OF FULL AND ENDED: taking values goes on while values are left and so many words are
-- free as the rule asks for. It holds of a state of any kind.
use Rattle.std.specs.Prelude.{◌≡◌, ◌⊎◌, ◌∷◌, ◌+◌, ◌-◌, ◌*◌, ◌≤◌, ◌<◌}
use Rattle.lists.proofs.Prelude.{◌∙◌, refl, sym, ap, subst, Bool, true, false, inl, inr, List, [], ℕ, suc, ℤ, ltb}
use Rattle.lists.proofs.Prelude.{ltb-true, length, length-append, arith}
use Rattle.pattern_set.specs.PatternSet.{PatternSet}
use Rattle.gaps.specs.Gaps.{is_gap}
use Rattle.search_model.specs.Search.{Position, Stepped, Called, stop, and_then, feed, skipped, sampled, step, call}

module _ {S : Type 0} (next : S → ℤ → Stepped S) (room : ℕ) where
  -- ---- the two ways through a value

  pub feed_full : (s : S) (free : ℕ) (x : ℤ) (xs : List ℤ) → ltb free room ≡ true → feed next room s free (x ∷ xs) ≡ stop s 0
  unfolding feed
  feed_full s free x xs e = rw e refl

  pub feed_more : (s : S) (free : ℕ) (x : ℤ) (xs : List ℤ) → ltb free room ≡ false
      → feed next room s free (x ∷ xs) ≡ and_then (next s x) (feed next room (next s x).state (free - 2 * length (next s x).hits) xs)
  unfolding feed
  feed_more s free x xs e = rw e refl

  -- ---- the rule

  -- with a value there and words enough at least one is taken
  pub feed_takes : (s : S) (free : ℕ) (xs : List ℤ) → room ≤ free → 0 < length xs → 0 < (feed next room s free xs).taken
  feed_takes s free [] r h = absurd (let z : ⊥ = omega arith in z)
  feed_takes s free (x ∷ xs) r h = go (ltb free room) refl
    where
      go : (b : Bool) → ltb free room ≡ b → 0 < (feed next room s free (x ∷ xs)).taken
      go true e = absurd (let l = ltb-true free room e in let z : ⊥ = omega arith in z)
      go false e = subst (λ (c : Called S). 0 < c.taken) (sym (feed_more s free x xs e)) (omega arith)

  -- all are taken and it is ended; or not all, it is full, and too few words are free behind its
  -- hits
  abbrev pub EndedOrFull : ℕ → List ℤ → Called S → Type 0
  EndedOrFull free xs c =
      ((c.ended ≡ 1) × (c.taken ≡ length xs)) ⊎ ((c.ended ≡ 0) × (c.taken < length xs) × (free < room + 2 * length c.hits))

  pub feed_rule : (s : S) (free : ℕ) (xs : List ℤ) → EndedOrFull free xs (feed next room s free xs)
  unfolding feed
  feed_rule s free [] = inl (refl, refl)
  feed_rule s free (x ∷ xs) = go (ltb free room) refl (feed_rule (next s x).state (free - 2 * length (next s x).hits) xs)
    where
      more : (t : Stepped S) (c : Called S) → EndedOrFull (free - 2 * length t.hits) xs c → EndedOrFull free (x ∷ xs) (and_then t c)
      more t c (inl (e, a)) = inl (e, ap suc a)
      more t c (inr (e, l, f)) = inr (e, omega arith, omega (arith, f, length-append t.hits c.hits))

      go : (b : Bool) → ltb free room ≡ b
          → EndedOrFull (free - 2 * length (next s x).hits) xs (feed next room (next s x).state (free - 2 * length (next s x).hits) xs)
          → EndedOrFull free (x ∷ xs) (feed next room s free (x ∷ xs))
      go true e ih =
          subst (EndedOrFull free (x ∷ xs)) (sym (feed_full s free x xs e)) (inr (refl, omega arith, omega (arith, ltb-true free room e)))
      go false e ih =
          subst (EndedOrFull free (x ∷ xs)) (sym (feed_more s free x xs e))
          (more (next s x) (feed next room (next s x).state (free - 2 * length (next s x).hits) xs) ih)

-- ---- the two kinds of values

module _ (ps : PatternSet) (st : Position) (x : ℤ) where
  pub step_gap : is_gap x ≡ true → step ps st x ≡ skipped st
  unfolding step
  step_gap e = rw e refl

  pub step_sample : is_gap x ≡ false → step ps st x ≡ sampled ps st x
  unfolding step
  step_sample e = rw e refl

  -- what holds of what a gap does and of what a sample does holds of a step
  pub step_cases : (P : Stepped Position → Type 0) → (is_gap x ≡ true → P (skipped st)) → (is_gap x ≡ false → P (sampled ps st x)) → P (step ps st x)
  step_cases P gap sample = go (is_gap x) refl
    where
      go : (b : Bool) → is_gap x ≡ b → P (step ps st x)
      go true e = subst P (sym (step_gap e)) (gap e)
      go false e = subst P (sym (step_sample e)) (sample e)

-- ---- a call of the stream search

pub step-taken : (ps : PatternSet) (st : Position) (x : ℤ) → (step ps st x).state.taken ≡ st.taken + 1
unfolding sampled
step-taken ps st x = step_cases ps st x (λ s. s.state.taken ≡ st.taken + 1) (λ e. refl) (λ e. refl)

-- the state has as many values more as the call took
pub call-taken : (ps : PatternSet) (xs : List ℤ) (st : Position) (free : ℕ) → (call ps st free xs).state.taken ≡ st.taken + (call ps st free xs).taken
unfolding feed
call-taken ps [] st free = omega arith
call-taken ps (x ∷ xs) st free = go (ltb free (2 * length ps)) refl (call-taken ps xs (step ps st x).state (free - 2 * length (step ps st x).hits))
  where
    go : (b : Bool) → ltb free (2 * length ps) ≡ b
        → (call ps (step ps st x).state (free - 2 * length (step ps st x).hits) xs).state.taken
        ≡ (step ps st x).state.taken + (call ps (step ps st x).state (free - 2 * length (step ps st x).hits) xs).taken
        → (call ps st free (x ∷ xs)).state.taken ≡ st.taken + (call ps st free (x ∷ xs)).taken
    go true e ih =
        let f = feed_full (step ps) (2 * length ps) st free x xs e in
        ap (λ (c : Called Position). c.state.taken) f ∙ (omega (arith, ap (λ (c : Called Position). c.taken) f))
    go false e ih =
        let m = feed_more (step ps) (2 * length ps) st free x xs e in
        ap (λ (c : Called Position). c.state.taken) m ∙ (omega (arith, ih, step-taken ps st x, ap (λ (c : Called Position). c.taken) m))
