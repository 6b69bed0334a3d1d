-- An accepted call of the stream search takes the values that the reference takes, with its hits
-- and attempts: by induction on the values, one step after the other.
use Rattle.std.specs.Prelude.{◌≡◌, ◌⊎◌, ◌∷◌, ◌++◌, ◌+◌, ◌-◌, ◌*◌, ◌≤◌, ◌<◌}
use Rattle.lists.proofs.Prelude.{◌∙◌, ap, sym, refl, subst, ap₂, inl, inr, Bool, true, false, cond, List, [], map, append-nil}
use Rattle.lists.proofs.Prelude.{append_assoc, Memᴰ, Memᴰ-not-nil, Memᴰ-append_cases, flatten, ℕ, suc, ℤ, T, eqb, leb}
use Rattle.lists.proofs.Prelude.{ltb, leb→le, eqb-suc-suc, eqb-zero-suc, le→leb, length, take, length-map, take_all, take-append-le, arith, le-leb, lt-leb}
use Rattle.lists.proofs.Prelude.{ltb-true}
use Rattle.lists.proofs.Prelude.{ltb-false, tabulate, select}
use Rattle.lists.proofs.Select.{select_empty, select_all, select-append}
use Rattle.lists.proofs.Members.{mem-map}
use Rattle.lists.proofs.Tables.{tabulate_ext}
use Rattle.lists.proofs.Parts.{length_snoc}
use Rattle.lists.proofs.Rows.{flatten-tabulate}
use Rattle.pattern_set.specs.PatternSet.{PatternSet, good_set}
use Rattle.matching.specs.Matching.{last_hits, hits_at, hits}
use Rattle.matching.proofs.HitsIff.{hits_iff}
use Rattle.search_model.specs.Search.{Position, step, Called, feed, call, stop, and_then}
use Rattle.search_model.proofs.Feed.{feed_full, feed_more}
use Rattle.runs.specs.ReferenceRun.{attempts_on, taking, hits_on, longest_head}
use Rattle.runs.proofs.Attempts.{attempts_bound}
use Rattle.runs.proofs.Step.{Represents, step-hits, step-attempts, step-state}

-- ---- the hits of a text with one more value

hits_same : (ps : PatternSet) (text : List ℤ) (x : ℤ) (p : ℕ) → p < length text → hits_at ps (text ++ (x ∷ [])) p ≡ hits_at ps text p
unfolding hits_at
hits_same ps text x p h = ap (λ (l : List ℤ). map (λ j. (p, j)) (last_hits ps l)) (take-append-le (suc p) text (x ∷ []) h)

hits_new : (ps : PatternSet) (text : List ℤ) (x : ℤ) → hits_at ps (text ++ (x ∷ [])) (length text)
    ≡ map (λ j. (length text, j)) (last_hits ps (text ++ (x ∷ [])))
unfolding hits_at
hits_new ps text x =
    ap (λ (l : List ℤ). map (λ j. (length text, j)) (last_hits ps l))
    (take_all (suc (length text)) (text ++ (x ∷ [])) (let l : length (text ++ (x ∷ [])) ≤ suc (length text) = omega (arith, length_snoc text x) in l))

pub hits_more : (ps : PatternSet) (text : List ℤ) (x : ℤ)
    → hits ps (text ++ (x ∷ [])) ≡ hits ps text ++ map (λ j. (length text, j)) (last_hits ps (text ++ (x ∷ [])))
unfolding hits
hits_more ps text x =
    ap (λ (n : ℕ). flatten (tabulate n (hits_at ps (text ++ (x ∷ []))))) (length_snoc text x)
    ∙ flatten-tabulate (length text) (hits_at ps (text ++ (x ∷ [])))
    ∙ ap₂ (λ (a b : List (ℕ × ℕ)). a ++ b)
    (ap flatten (tabulate_ext (length text) (hits_at ps (text ++ (x ∷ []))) (hits_at ps text) (hits_same ps text x)))
    (hits_new ps text x)

-- those of a front come first
pub hits_front : (ps : PatternSet) (text xs : List ℤ) → (rest : List (ℕ × ℕ)) × (hits ps (text ++ xs) ≡ hits ps text ++ rest)
hits_front ps text [] = ([], ap (hits ps) (append-nil text) ∙ sym (append-nil (hits ps text)))
hits_front ps text (x ∷ xs) =
    let here : List (ℕ × ℕ) = map (λ j. (length text, j)) (last_hits ps (text ++ (x ∷ []))) in
    let r = hits_front ps (text ++ (x ∷ [])) xs in (
      here ++ r.0,
      ap (hits ps) (sym (append_assoc text (x ∷ []) xs))
          ∙ r.1
          ∙ ap (λ (hs : List (ℕ × ℕ)). hs ++ r.0) (hits_more ps text x)
          ∙ append_assoc (hits ps text) here r.0,
    )

-- ---- what the reference takes

module _ (ps : PatternSet) (text : List ℤ) (free : ℕ) (x : ℤ) (xs : List ℤ) where
  taking_full : free < 2 * length ps → taking ps text free (x ∷ xs) ≡ []
  unfolding taking
  taking_full h = rw (lt-leb (2 * length ps) free h) refl

  taking_more : 2 * length ps ≤ free
      → taking ps text free (x ∷ xs) ≡ x ∷ taking ps (text ++ (x ∷ [])) (free - 2 * length (last_hits ps (text ++ (x ∷ [])))) xs
  unfolding taking
  taking_more h = rw (le-leb (2 * length ps) free h) refl

-- ---- the law

-- an accepted call c, handed the values xs after the text, takes the values vs as the reference
-- does
pub record Agrees (ps : PatternSet) (text xs : List ℤ) (c : Called Position) (vs : List ℤ) : Type 0 where
  pub ended : c.ended ≡ cond (eqb (length vs) (length xs)) 1 0
  pub taken : c.taken ≡ length vs
  pub attempts : c.attempts ≡ attempts_on ps text vs
  pub state : Represents ps (text ++ vs) c.state
  pub within : length vs ≤ length xs
  pub front : vs ≡ take (length vs) xs
  -- attempts and the growth of the longest head are at most two a value
  pub bound : c.attempts + longest_head ps (text ++ vs) ≤ longest_head ps text + 2 * length vs
  -- its hits are those that the text has more, and end behind the text
  pub more : hits ps (text ++ vs) ≡ hits ps text ++ c.hits
  pub later : (h : ℕ × ℕ) → Memᴰ h c.hits → length text ≤ h.0

-- no hit of the text ends behind it
pub none_later : (ps : PatternSet) (text : List ℤ) → select (λ h. leb (length text) h.0) (hits ps text) ≡ []
none_later ps text =
    select_empty (λ h. leb (length text) h.0) (hits ps text)
    (λ h m t. before h ((hits_iff ps text h.0 h.1).0 m).0 (leb→le (length text) h.0 t))
  where
    before : (h : ℕ × ℕ) → h.0 < length text → length text ≤ h.0 → ⊥
    before h l m = omega arith

-- they are the hits that fall on the values
pub Agrees-hits : (ps : PatternSet) (text xs : List ℤ) (c : Called Position) (vs : List ℤ) → Agrees ps text xs c vs → c.hits ≡ hits_on ps text vs
unfolding hits_on
Agrees-hits ps text xs c vs a =
    let test : ℕ × ℕ → Bool = λ h. leb (length text) h.0 in
    sym (ap (select test) a.more
    ∙ select-append test (hits ps text) c.hits
    ∙ ap₂ (λ (l r : List (ℕ × ℕ)). l ++ r)
    (none_later ps text)
    (select_all test c.hits (λ h m. le→leb (length text) h.0 (a.later h m))))

module _ (ps : PatternSet) (g : T (good_set ps)) (z : 0 < length ps) where
  Agrees-stop : (text xs : List ℤ) (st : Position) (e : ℕ) → Represents ps text st → e ≡ cond (eqb 0 (length xs)) 1 0
      → Agrees ps text xs (stop st e) []
  unfolding attempts_on
  Agrees-stop text xs st e r f =
      let n : text ++ [] ≡ text = append-nil text in
      record {
        ended = f;
        taken = refl;
        attempts = refl;
        state = subst (λ (t : List ℤ). Represents ps t st) (sym n) r;
        within = omega arith;
        front = refl;
        bound = rw n (omega arith);
        more = ap (hits ps) n ∙ sym (append-nil (hits ps text));
        later = λ h m. absurd (Memᴰ-not-nil m);
      }

  Agrees-then : (text : List ℤ) (st : Position) (x : ℤ) (xs : List ℤ) (c : Called Position) (vs : List ℤ) → Represents ps text st
      → Agrees ps (text ++ (x ∷ [])) xs c vs → Agrees ps text (x ∷ xs) (and_then (step ps st x) c) (x ∷ vs)
  unfolding attempts_on
  Agrees-then text st x xs c vs s a =
      let n : (text ++ (x ∷ [])) ++ vs ≡ text ++ (x ∷ vs) = append_assoc text (x ∷ []) vs in
      let here : List (ℕ × ℕ) = map (λ j. (length text, j)) (last_hits ps (text ++ (x ∷ []))) in
      let t = step-attempts ps g z text st x s in
      record {
        ended = a.ended ∙ ap (λ (b : Bool). cond {A = ℕ} b 1 0) (sym (eqb-suc-suc (length vs) (length xs)));
        taken = ap suc a.taken;
        attempts = ap₂ (λ (m n : ℕ). m + n) t a.attempts;
        state = subst (λ (l : List ℤ). Represents ps l c.state) n a.state;
        within = omega (arith, a.within);
        front = ap (λ (l : List ℤ). x ∷ l) a.front;
        bound = rw (sym n) (omega (arith, a.bound, attempts_bound ps text x g z, t));
        more =
            ap (hits ps) (sym n)
            ∙ a.more
            ∙ ap (λ (h : List (ℕ × ℕ)). h ++ c.hits) (hits_more ps text x)
            ∙ append_assoc (hits ps text) here c.hits
            ∙ ap (λ (h : List (ℕ × ℕ)). hits ps text ++ (h ++ c.hits)) (sym (step-hits ps g z text st x s));
        later = λ h m. from h (Memᴰ-append_cases (step ps st x).hits m);
      }
    where
      from : (h : ℕ × ℕ) → Memᴰ h (step ps st x).hits ⊎ Memᴰ h c.hits → length text ≤ h.0
      from h (inl m) =
          let js = last_hits ps (text ++ (x ∷ [])) in
          let k : Memᴰ h (map (λ j. (length text, j)) js) = subst (λ (l : List (ℕ × ℕ)). Memᴰ h l) (step-hits ps g z text st x s) m in
          let e : h.0 ≡ length text = ap (λ (q : ℕ × ℕ). q.0) ((mem-map {B = ℕ × ℕ} (λ j. (length text, j)) js h).0 k).2 in
          omega arith
      from h (inr m) = omega (arith, a.later h m, length_snoc text x)

  -- AN ACCEPTED CALL takes what the reference takes
  pub call_takes : (xs : List ℤ) (text : List ℤ) (st : Position) (free : ℕ) → Represents ps text st
      → Agrees ps text xs (call ps st free xs) (taking ps text free xs)
  unfolding feed taking
  call_takes [] text st free r = Agrees-stop text [] st 1 r refl
  call_takes (x ∷ xs) text st free r = go (ltb free (2 * length ps)) refl (call_takes xs)
    where
      go : (b : Bool) → ltb free (2 * length ps) ≡ b
          → ((text : List ℤ) (st : Position) (free : ℕ) → Represents ps text st → Agrees ps text xs (call ps st free xs) (taking ps text free xs))
          → Agrees ps text (x ∷ xs) (call ps st free (x ∷ xs)) (taking ps text free (x ∷ xs))
      go true e ih =
          subst (λ (c : Called Position). Agrees ps text (x ∷ xs) c (taking ps text free (x ∷ xs)))
          (sym (feed_full (step ps) (2 * length ps) st free x xs e))
          (subst (λ (vs : List ℤ). Agrees ps text (x ∷ xs) (stop st 0) vs)
          (sym (taking_full ps text free x xs (ltb-true free (2 * length ps) e))) (Agrees-stop text (x ∷ xs) st 0 r
          (ap (λ (b : Bool). cond {A = ℕ} b 1 0) (sym (eqb-zero-suc (length xs))))))
      go false e ih =
          let s = step ps st x in
          let l : length s.hits ≡ length (last_hits ps (text ++ (x ∷ []))) =
          ap length (step-hits ps g z text st x r) ∙ length-map (last_hits ps (text ++ (x ∷ []))) (λ j. (length text, j)) in
          let rest = call ps s.state (free - 2 * length s.hits) xs in
          let a = ih (text ++ (x ∷ [])) s.state (free - 2 * length s.hits) (step-state ps g z text st x r) in
          let b : Agrees ps (text ++ (x ∷ [])) xs rest (taking ps (text ++ (x ∷ [])) (free - 2 * length (last_hits ps (text ++ (x ∷ [])))) xs) =
          subst (λ (n : ℕ). Agrees ps (text ++ (x ∷ [])) xs rest (taking ps (text ++ (x ∷ [])) (free - 2 * n) xs)) l a in
          subst (λ (c : Called Position). Agrees ps text (x ∷ xs) c (taking ps text free (x ∷ xs)))
          (sym (feed_more (step ps) (2 * length ps) st free x xs e))
          (subst (λ (vs : List ℤ). Agrees ps text (x ∷ xs) (and_then s rest) vs)
          (sym (taking_more ps text free x xs (ltb-false free (2 * length ps) e)))
          (Agrees-then text st x xs rest (taking ps (text ++ (x ∷ [])) (free - 2 * length (last_hits ps (text ++ (x ∷ [])))) xs) r b))
