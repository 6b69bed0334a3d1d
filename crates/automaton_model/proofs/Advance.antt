-- THE STEP FROM ANY HEAD, by failure links: where the child is missing, the step is that from the
-- failure of the head, with one attempt more; the root's child is always there, since every pattern
-- begins with distance 0. It leads to a head of at most one distance more, and each failure link
-- shortens the head, so the attempts are at most one more than the head has distances.
use Rattle.std.specs.Prelude.{◌≡◌, ◌∷◌, ◌+◌, ◌≤◌, ◌<◌}
use Rattle.lists.proofs.Prelude.{◌∙◌, ap, sym, refl, subst, Bool, true, false, cond, List, [], ℕ, zero, suc, T, leb, length, le_refl}
use Rattle.lists.proofs.Prelude.{arith, leb-true}
use Rattle.lists.proofs.Tests.{T-true, true-T}
use Rattle.lists.proofs.Parts.{length_snoc}
use Rattle.cartesian.specs.Cartesian.{cut}
use Rattle.pattern_set.specs.PatternSet.{PatternSet, good_set}
use Rattle.matching.specs.Matching.{is_head, failure}
use Rattle.automaton_model.specs.Automaton.{extended, advance_within, advance}
use Rattle.automaton_model.proofs.Nodes.{failure_shorter}
use Rattle.automaton_model.proofs.Chains.{zero-is_head}

-- ---- the root's child

pub cut-zero : (d : ℕ) → cut 0 d ≡ 0
cut-zero d = go (leb d 0) refl
  where
    go : (b : Bool) → leb d 0 ≡ b → cond b d 0 ≡ 0
    go true e = let l = leb-true d 0 e in omega arith
    go false e = refl

-- r is a head of some distances, at most one more than n, and of the fewer the more attempts there
-- were
pub record Bounded (ps : PatternSet) (n : ℕ) (r : List ℕ × ℕ) : Type 0 where
  pub head : T (is_head ps r.0)
  pub longer : 0 < length r.0
  pub within : length r.0 ≤ suc n
  pub positive : 0 < r.1
  pub attempts : r.1 + length r.0 ≤ n + 2

-- ---- one turn

module _ (ps : PatternSet) (g : T (good_set ps)) (z : 0 < length ps) (d : ℕ) where
  pub root_child : (h : List ℕ) → length h ≤ 0 → is_head ps (extended h d) ≡ true
  root_child [] l = ap (λ (v : ℕ). is_head ps (v ∷ [])) (cut-zero d) ∙ true-T (is_head ps (0 ∷ [])) (zero-is_head ps g z)
  root_child (x ∷ h) l = absurd (let y : ⊥ = omega arith in y)

  -- a head without the child is not the root's
  pub missing_longer : (h : List ℕ) → is_head ps (extended h d) ≡ false → 0 < length h
  missing_longer [] e = absurd (subst T e (T-true (is_head ps (extended [] d)) (root_child [] (le_refl 0))))
  missing_longer (x ∷ h) e = omega arith

  pub advance_stops : (n : ℕ) (h : List ℕ) → is_head ps (extended h d) ≡ true → advance_within n ps h d ≡ (extended h d, 1)
  unfolding advance_within
  advance_stops zero h e = refl
  advance_stops (suc n) h e = rw e refl

  pub advance_falls : (n : ℕ) (h : List ℕ) → is_head ps (extended h d) ≡ false
      → advance_within (suc n) ps h d ≡ ((advance_within n ps (failure ps h) d).0, suc (advance_within n ps (failure ps h) d).1)
  unfolding advance_within
  advance_falls n h e = rw e refl

  -- as many failure links as the head has distances are enough
  enough : (n m : ℕ) (h : List ℕ) → length h ≤ n → length h ≤ m → advance_within n ps h d ≡ advance_within m ps h d
  enough zero zero h l k = refl
  enough zero (suc m) h l k = let e = root_child h l in advance_stops 0 h e ∙ sym (advance_stops (suc m) h e)
  enough (suc n) zero h l k = let e = root_child h k in advance_stops (suc n) h e ∙ sym (advance_stops 0 h e)
  enough (suc n) (suc m) h l k = go (is_head ps (extended h d)) refl (enough n m (failure ps h))
    where
      go : (b : Bool) → is_head ps (extended h d) ≡ b
          → (length (failure ps h) ≤ n → length (failure ps h) ≤ m → advance_within n ps (failure ps h) d ≡ advance_within m ps (failure ps h) d)
          → advance_within (suc n) ps h d ≡ advance_within (suc m) ps h d
      go true e ih = advance_stops (suc n) h e ∙ sym (advance_stops (suc m) h e)
      go false e ih =
          let s = failure_shorter ps h (missing_longer h e) in
          advance_falls n h e ∙ ap (λ (r : List ℕ × ℕ). (r.0, suc r.1)) (ih (omega arith) (omega arith)) ∙ sym (advance_falls m h e)

  -- THE CHILD IS THERE
  pub advance_there : (h : List ℕ) → is_head ps (extended h d) ≡ true → advance ps h d ≡ (extended h d, 1)
  advance_there h e = advance_stops (length h) h e

  -- THE CHILD IS MISSING
  pub advance_missing : (h : List ℕ) → is_head ps (extended h d) ≡ false
      → advance ps h d ≡ ((advance ps (failure ps h) d).0, suc (advance ps (failure ps h) d).1)
  advance_missing [] e = let l = missing_longer [] e in absurd (let y : ⊥ = omega arith in y)
  advance_missing (x ∷ h) e =
      let s = failure_shorter ps (x ∷ h) (omega arith) in
      advance_falls (length h) (x ∷ h) e
      ∙ ap (λ (r : List ℕ × ℕ). (r.0, suc r.1))
      (enough (length h) (length (failure ps (x ∷ h))) (failure ps (x ∷ h)) (omega arith) (le_refl (length (failure ps (x ∷ h)))))

  -- ---- how far a step leads

  Bounded-there : (n : ℕ) (h : List ℕ) → is_head ps (extended h d) ≡ true → Bounded ps (length h) (advance_within n ps h d)
  Bounded-there n h e =
      let s = length_snoc h (cut (length h) d) in
      subst (λ (r : List ℕ × ℕ). Bounded ps (length h) r) (sym (advance_stops n h e))
      (record { head = T-true (is_head ps (extended h d)) e; longer = omega arith; within = omega arith; positive = omega arith; attempts = omega arith })

  bounded : (n : ℕ) (h : List ℕ) → length h ≤ n → Bounded ps (length h) (advance_within n ps h d)
  bounded zero h l = Bounded-there 0 h (root_child h l)
  bounded (suc n) h l = go (is_head ps (extended h d)) refl (bounded n (failure ps h))
    where
      go : (b : Bool) → is_head ps (extended h d) ≡ b → (length (failure ps h) ≤ n → Bounded ps (length (failure ps h)) (advance_within n ps (failure ps h) d))
          → Bounded ps (length h) (advance_within (suc n) ps h d)
      go true e ih = Bounded-there (suc n) h e
      go false e ih =
          let s = failure_shorter ps h (missing_longer h e) in
          let r = ih (omega arith) in
          subst (λ (r : List ℕ × ℕ). Bounded ps (length h) r) (sym (advance_falls n h e))
          (record { head = r.head; longer = r.longer; within = omega (arith, r.within); positive = omega arith; attempts = omega (arith, r.attempts) })

  pub advance-Bounded : (h : List ℕ) → Bounded ps (length h) (advance ps h d)
  advance-Bounded h = bounded (length h) h (le_refl (length h))
