-- Laws of refusals: which condition is the first met, what a refused call tells and leaves, and
-- what a call that is not refused knows.
use Rattle.std.specs.Prelude.{◌≡◌, ◌∷◌, ◌++◌, ◌<◌}
use Rattle.lists.proofs.Prelude.{◌∙◌, ap, sym, refl, Bool, true, false, cond, List, [], ℕ, zero, suc, length, drop, arith}
use Rattle.answers.specs.declared.Refusal.{Refusal}
use Rattle.answers.specs.Told.{number}
use Rattle.answers.proofs.Refusals.{number_positive}
use Rattle.entries.specs.Entries.{Conditions, Entry, first_met, unless, told, after}

-- the first condition is met
pub met : (n : ℕ) (b : Bool) (cs : Conditions) → b ≡ true → first_met ((n, b) ∷ cs) ≡ n
met n b cs e = rw e refl

-- the first condition is not met
pub unmet : (n : ℕ) (b : Bool) (cs : Conditions) → b ≡ false → first_met ((n, b) ∷ cs) ≡ first_met cs
unmet n b cs e = rw e refl

-- where no condition is met, the first is not
pub first_unmet : (n : ℕ) (b : Bool) (cs : Conditions) → first_met ((suc n, b) ∷ cs) ≡ 0 → (b ≡ false) × (first_met cs ≡ 0)
first_unmet n true cs e = absurd (let z : ⊥ = omega arith in z)
first_unmet n false cs e = (refl, e)

-- of conditions behind each other the first ones decide, where one of them is met
pub met_before : (cs ds : Conditions) (n : ℕ) → 0 < n → first_met cs ≡ n → first_met (cs ++ ds) ≡ n
met_before [] ds n h e = absurd (let z : ⊥ = omega arith in z)
met_before (c ∷ cs) ds n h e = go c.1 e (met_before cs ds n h)
  where
    go : (b : Bool) → cond b c.0 (first_met cs) ≡ n → (first_met cs ≡ n → first_met (cs ++ ds) ≡ n) → cond b c.0 (first_met (cs ++ ds)) ≡ n
    go true e ih = e
    go false e ih = ih e

-- so none of them is met where none is
pub unmet_before : (cs ds : Conditions) → first_met (cs ++ ds) ≡ 0 → first_met cs ≡ 0
unmet_before cs ds e = go (first_met cs) refl
  where
    go : (n : ℕ) → first_met cs ≡ n → first_met cs ≡ 0
    go zero q = q
    go (suc n) q = absurd (let z : ⊥ = omega (arith, e, met_before cs ds (suc n) (omega arith) q) in z)

-- ---- by the number of the refusal alone

-- what is told: the number and two counts
abbrev pub told_by : ℕ → ℕ → ℕ → ℕ × (ℕ × ℕ)
told_by r m n = (r, unless r (m, n) (0, 0))

-- what is left in the lent array
abbrev pub left_by : {A : Type 0} → ℕ → List A → List A → List A
left_by r result array = unless r (result ++ drop (length result) array) array

-- a refusal keeps what was
unless_positive : {A : Type 0} (n : ℕ) (done kept : A) → 0 < n → unless n done kept ≡ kept
unless_positive zero done kept h = absurd (let z : ⊥ = omega arith in z)
unless_positive (suc n) done kept h = refl

pub unless_refused : {A : Type 0} (r : Refusal) (done kept : A) → unless (number r) done kept ≡ kept
unless_refused r done kept = unless_positive (number r) done kept (number_positive r)

-- ---- of an entry: what a call tells, and what it leaves in the lent array

module _ {C A : Type 0} (zeros : C) (e : Entry C A) where
  -- a refused call tells the number and no count, and leaves the array as it was
  pub tells_refused : (r : Refusal) → first_met e.conditions ≡ number r → ◌≡◌ {A = ℕ × C} (number r, zeros) (told zeros e)
  tells_refused r h = sym (ap (λ (k : ℕ). (k, unless k e.counts zeros)) h ∙ ap (λ (m : C). (number r, m)) (unless_refused r e.counts zeros))

  pub refused : (r : Refusal) (array : List A) → first_met e.conditions ≡ number r
      → (◌≡◌ {A = ℕ × C} (number r, zeros) (told zeros e)) × (array ≡ after e array)
  refused r array h =
      let done = e.result ++ drop (length e.result) array in
      (tells_refused r h, sym (ap (λ (k : ℕ). unless k done array) h ∙ unless_refused r done array))

  -- one that is not refused tells the counts, and leaves the result at the front of the array
  pub tells : (m : C) → first_met e.conditions ≡ 0 → m ≡ e.counts → ◌≡◌ {A = ℕ × C} (0, m) (told zeros e)
  tells m h q = ap (λ (n : C). (0, n)) q ∙ sym (ap (λ (k : ℕ). (k, unless k e.counts zeros)) h)

  pub left_accepted : (array : List A) → first_met e.conditions ≡ 0 → e.result ++ drop (length e.result) array ≡ after e array
  left_accepted array h = sym (ap (λ (k : ℕ). unless k (e.result ++ drop (length e.result) array) array) h)

  pub accepted : (m : C) (array left : List A) → first_met e.conditions ≡ 0 → m ≡ e.counts → left ≡ e.result ++ drop (length e.result) array
      → (◌≡◌ {A = ℕ × C} (0, m) (told zeros e)) × (left ≡ after e array)
  accepted m array left h q l = (tells m h q, l ∙ left_accepted array h)

  -- and the other way round: a call that tells no refusal
  pub told_accepted : (m : C) → told zeros e ≡ (0, m) → (first_met e.conditions ≡ 0) × (e.counts ≡ m)
  told_accepted m t =
      let r : first_met e.conditions ≡ 0 = ap (λ (w : ℕ × C). w.0) t in
      (r, sym (ap (λ (k : ℕ). unless k e.counts zeros) r) ∙ ap (λ (w : ℕ × C). w.1) t)
