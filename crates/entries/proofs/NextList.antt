-- The entry that goes to the next list: what a call tells and leaves, by the first of its
-- conditions that is met, in the words of the code's tests; and back, which list a call tells of.
use Rattle.std.specs.Prelude.{◌≡◌, ◌++◌, ◌≤◌, ◌<◌}
use Rattle.lists.proofs.Prelude.{◌∙◌, ap, sym, Bool, true, false, cond, Option, None, Some, List, ℕ, ltb, length, drop, eq-eqb, ne_eqb}
use Rattle.lists.proofs.Prelude.{lt-ltb, refl, take, take_at, le-ltb, arith}
use Rattle.answers.specs.declared.Refusal.{Refusal}
use Rattle.realization.specs.Realization.{realizable}
use Rattle.catalogue.specs.Catalogue.{next_list}
use Rattle.catalogue.proofs.Next.{next_iff}
use Rattle.entries.specs.Entries.{first_met, told, after, next_counts, next_words, next_entry}
use Rattle.entries.proofs.Refusals.{refused, accepted, told_accepted, left_accepted}

module _ (ds out : List ℕ) where
  -- what the call tells, and what it leaves
  abbrev Answers : ℕ → ℕ × ℕ → List ℕ → Type 0
  Answers number counts left = (◌≡◌ {A = ℕ × (ℕ × ℕ)} (number, counts) (told (0, 0) (next_entry ds out))) × (left ≡ after (next_entry ds out) out)

  pub next_empty : length ds ≡ 0 → Answers 1 (0, 0) out
  next_empty e = refused (0, 0) (next_entry ds out) Refusal.Empty out (simp (eq-eqb (length ds) 0 e))

  pub next_long : (length ds ≡ 0 → ⊥) → 256 < length ds → Answers 2 (0, 0) out
  next_long e l = refused (0, 0) (next_entry ds out) Refusal.TooLong out (simp (ne_eqb (length ds) 0 e, lt-ltb 256 (length ds) l))

  pub next_catalogue_long : (length ds ≡ 0 → ⊥) → length ds ≤ 256 → 10 < length ds → Answers 12 (0, 0) out
  next_catalogue_long e l k =
      refused (0, 0) (next_entry ds out) Refusal.CatalogueTooLong out (simp (ne_eqb (length ds) 0 e, le-ltb 256 (length ds) l, lt-ltb 10 (length ds) k))

  pub next_not_realizable : (length ds ≡ 0 → ⊥) → length ds ≤ 256 → length ds ≤ 10 → realizable ds ≡ false → Answers 4 (0, 0) out
  next_not_realizable e l k r =
      refused (0, 0) (next_entry ds out) Refusal.NotRealizable out (simp (ne_eqb (length ds) 0 e, le-ltb 256 (length ds) l, le-ltb 10 (length ds) k, r))

  -- of a realizable list that is not too long only the room for the next list is asked
  module _ (h : 0 < length ds) (k : length ds ≤ 10) (r : realizable ds ≡ true) where
    room : (next : Option (List ℕ)) → next ≡ next_list ds → first_met (next_entry ds out).conditions ≡ cond (ltb (length out) (length (next_words next))) 10 0
    room next q =
        simp (ne_eqb (length ds) 0 (λ e. omega arith), le-ltb 256 (length ds) (omega arith), le-ltb 10 (length ds) k, r)
        (ap (λ (n : Option (List ℕ)). cond (ltb (length out) (length (next_words n))) 10 0) (sym q))

    pub next_last : None ≡ next_list ds → Answers 0 (1, 0) out
    next_last q =
        accepted (0, 0) (next_entry ds out) (1, 0) out out (room None q ∙ ap (λ (b : Bool). cond b 10 0) (le-ltb (length out) 0 (omega arith)))
        (ap next_counts q)
        (ap (λ (n : Option (List ℕ)). next_words n ++ drop (length (next_words n)) out) q)

    module _ (es : List ℕ) (q : Some es ≡ next_list ds) where
      equally_long : length es ≡ length ds
      equally_long = ((next_iff ds es).0 (sym q)).equally_long

      pub next_short : length out < length ds → Answers 10 (0, 0) out
      next_short a =
          refused (0, 0) (next_entry ds out) Refusal.ArrayTooShort out
          (room (Some es) q ∙ ap (λ (b : Bool). cond b 10 0) (lt-ltb (length out) (length es) (omega (arith, equally_long))))

      pub next_done : length ds ≤ length out → (left : List ℕ) → left ≡ es ++ drop (length ds) out → Answers 0 (0, length ds) left
      next_done a left l =
          accepted (0, 0) (next_entry ds out) (0, length ds) out left
          (room (Some es) q ∙ ap (λ (b : Bool). cond b 10 0) (le-ltb (length out) (length es) (omega (arith, equally_long))))
          (ap (λ (n : ℕ). (0, n)) (sym equally_long) ∙ ap next_counts q)
          (l ∙ ap (λ (n : ℕ). es ++ drop n out) (sym equally_long) ∙ ap (λ (n : Option (List ℕ)). next_words n ++ drop (length (next_words n)) out) q)

-- ---- what an accepted call tells of the next list

module _ (ds out : List ℕ) where
  pub told_last : told (0, 0) (next_entry ds out) ≡ (0, (1, 0)) → next_list ds ≡ None
  told_last t = go (next_list ds) (told_accepted (0, 0) (next_entry ds out) (1, 0) t).1
    where
      go : (next : Option (List ℕ)) → next_counts next ≡ (1, 0) → next ≡ None
      go None e = refl
      go (Some es) e = absurd (let z : ⊥ = omega (arith, ap (λ (w : ℕ × ℕ). w.0) e) in z)

  pub told_next : (es : List ℕ) → told (0, 0) (next_entry ds out) ≡ (0, (0, length es)) → take (length es) (after (next_entry ds out) out) ≡ es
      → next_list ds ≡ Some es
  told_next es t l =
      let p = told_accepted (0, 0) (next_entry ds out) (0, length es) t in
      go (next_list ds) p.1 (ap (take (length es)) (left_accepted (0, 0) (next_entry ds out) out p.0) ∙ l)
    where
      go : (next : Option (List ℕ)) → next_counts next ≡ (0, length es) → take (length es) (next_words next ++ drop (length (next_words next)) out) ≡ es
          → next ≡ Some es
      go None e q = absurd (let z : ⊥ = omega (arith, ap (λ (w : ℕ × ℕ). w.0) e) in z)
      go (Some fs) e q = ap Some (sym (take_at fs (drop (length fs) out) (length es) (ap (λ (w : ℕ × ℕ). w.1) e)) ∙ q)
