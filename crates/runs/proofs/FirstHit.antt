-- THE FIRST HIT THEOREM: the hits of a front come first, and a hit at the last place of the front
-- is one of them; so the first hit of the text is the first of every text with that front.
use Rattle.std.specs.Prelude.{◌≡◌, ◌∷◌, ◌++◌}
use Rattle.lists.proofs.Prelude.{◌∙◌, ap, sym, refl, subst, List, [], Memᴰ, Memᴰ-not-nil, ℕ, suc, ℤ, ltb, length, take, drop}
use Rattle.lists.proofs.Prelude.{get_or, Memᴰ-head, length-take-le, take_all, take-append-drop, arith, le-ltb}
use Rattle.pattern_set.specs.PatternSet.{PatternSet, patterns_of}
use Rattle.matching.specs.Matching.{hits}
use Rattle.matching.specs.HitList.{EndsWith}
use Rattle.matching.proofs.HitsIff.{hits_iff}
use Rattle.entries.specs.Entries.{Conditions, first_met, search_conditions, first_of, first_entry}
use Rattle.entries.proofs.Refusals.{unmet_before, tells, told_accepted}
use Rattle.entries.proofs.Searchable.{search_accepted}
use Rattle.runs.specs.FirstHit.{FirstHitTheorem}
use Rattle.runs.proofs.Call.{hits_front}

module _ (p j n : ℕ) where
  -- a first hit that is told is in the list
  first_listed : (m : ℕ) (hs : List (ℕ × ℕ)) → first_of m hs ≡ (1, p, j, n) → Memᴰ (p, j) hs
  first_listed m [] e = absurd (let z : ◌≡◌ {A = ℕ} 0 1 = ap (λ (t : ℕ × ℕ × ℕ × ℕ). t.0) e in let y : ⊥ = omega arith in y)
  first_listed m (h ∷ hs) e =
      let place : h.0 ≡ p = ap (λ (t : ℕ × ℕ × ℕ × ℕ). t.1) e in
      let number : h.1 ≡ j = ap (λ (t : ℕ × ℕ × ℕ × ℕ). t.2) e in
      Memᴰ-head (λ i. (sym place i, sym number i))

  -- a list that is not empty decides, whatever follows it
  first_of_front : (m o : ℕ) (front rest others : List (ℕ × ℕ)) → Memᴰ (p, j) front → first_of m (front ++ rest) ≡ (1, p, j, n)
      → first_of o (front ++ others) ≡ (1, p, j, n)
  first_of_front m o [] rest others k e = absurd (Memᴰ-not-nil k)
  first_of_front m o (h ∷ front) rest others k e = e

-- a hit at p is one of the front up to and with p
in_front : (ps : PatternSet) (text : List ℤ) (p j : ℕ) → Memᴰ (p, j) (hits ps text) → Memᴰ (p, j) (hits ps (take (suc p) text))
in_front ps text p j m =
    let h = (hits_iff ps text p j).0 m in
    let l = length-take-le (suc p) text h.0 in
    let same = sym (take_all (suc p) (take (suc p) text) (omega (arith, l))) in
    (hits_iff ps (take (suc p) text) p j).1 (omega (arith, l), h.1, subst (λ (t : List ℤ). EndsWith t (get_or ps j [])) same h.2)

pub first_hit : FirstHitTheorem
first_hit ws automaton text other p j n t l e =
    let ps = patterns_of ws in
    let zeros : ℕ × ℕ × ℕ × ℕ = (0, 0, 0, 0) in
    let a = told_accepted zeros (first_entry ws automaton text) (1, p, j, n) t in
    let front = hits ps (take (suc p) text) in
    let f = hits_front ps (take (suc p) text) (drop (suc p) text) in
    let o = hits_front ps (take (suc p) other) (drop (suc p) other) in
    let whole : hits ps text ≡ front ++ f.0 = ap (hits ps) (sym (take-append-drop (suc p) text)) ∙ f.1 in
    let whole' : hits ps other ≡ front ++ o.0 =
    ap (hits ps) (sym (take-append-drop (suc p) other)) ∙ o.1 ∙ ap (λ (t : List ℤ). hits ps t ++ o.0) e in
    let m = in_front ps text p j (first_listed p j n (length text) (hits ps text) a.1) in
    let counts = ap (first_of (length other)) whole'
    ∙ first_of_front p j n (length text) (length other) front f.0 o.0 m (sym (ap (first_of (length text)) whole) ∙ a.1) in
    let nine : List ℤ → Conditions = λ xs. (9, ltb 1048576 (length xs)) ∷ [] in
    let met : first_met (first_entry ws automaton other).conditions ≡ 0 =
    search_accepted ws automaton (nine other) (unmet_before (search_conditions ws automaton) (nine text) a.0) ∙ (rw (le-ltb 1048576 (length other) l) refl) in
    sym (tells zeros (first_entry ws automaton other) (1, p, j, n) met (sym counts))
