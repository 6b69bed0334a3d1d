-- WHERE A CALL STOPS whose hit array has room for the hits of one value: it is full only if it has
-- a hit, and what it has are the hits of the front that it took. So its first hit is that of the
-- text, and where it has none the text has none.
use Rattle.std.specs.Prelude.{◌≡◌, ◌∷◌, ◌++◌, ◌+◌, ◌*◌, ◌<◌}
use Rattle.lists.proofs.Prelude.{◌∙◌, ap, sym, refl, subst, Memᴰ, Memᴰ-head, inl, inr, List, [], flatten, ℕ, suc, ℤ}
use Rattle.lists.proofs.Prelude.{T, length, get_or, take, drop}
use Rattle.lists.proofs.Prelude.{take-append-drop, take_all, arith, tabulate}
use Rattle.lists.proofs.Parts.{length_none}
use Rattle.answers.specs.Told.{new_search}
use Rattle.pattern_set.specs.PatternSet.{PatternSet, good_set}
use Rattle.matching.specs.Matching.{hits, hit_words}
use Rattle.matching.proofs.HitsIff.{hits_iff}
use Rattle.search_model.specs.Search.{Position, position_of, step, Called, call}
use Rattle.search_model.proofs.Feed.{EndedOrFull, feed_rule}
use Rattle.entries.specs.Entries.{first_of}
use Rattle.runs.specs.ReferenceRun.{taking}
use Rattle.runs.proofs.Step.{new-Represents}
use Rattle.runs.proofs.Call.{Agrees, call_takes, hits_front}

-- no values have no hit
hits-nil : (ps : PatternSet) → hits ps [] ≡ []
unfolding hits tabulate flatten
hits-nil ps = refl

module _ (ps : PatternSet) (g : T (good_set ps)) (z : 0 < length ps) (text : List ℤ) where
  -- the call
  abbrev pub called : Called Position
  called = call ps (position_of new_search) (2 * length ps) text

  agrees : Agrees ps [] text called (taking ps [] (2 * length ps) text)
  agrees = call_takes ps g z text [] (position_of new_search) (2 * length ps) (new-Represents ps g z)

  -- its hits come first among those of the text
  call_first : (rest : List (ℕ × ℕ)) × (hits ps text ≡ called.hits ++ rest)
  call_first =
      let vs = taking ps [] (2 * length ps) text in
      let n = length vs in
      let mine : hits ps (take n text) ≡ called.hits =
      ap (hits ps) (sym agrees.front) ∙ agrees.more ∙ ap (λ (hs : List (ℕ × ℕ)). hs ++ called.hits) (hits-nil ps) in
      let f = hits_front ps (take n text) (drop n text) in
      (f.0, ap (hits ps) (sym (take-append-drop n text)) ∙ f.1 ∙ ap (λ (hs : List (ℕ × ℕ)). hs ++ f.0) mine)

  -- where it has none, all values are taken, and the text has none
  pub none_found : (n : ℕ) → n ≡ called.taken → length called.hits ≡ 0 → (0, 0, 0, n) ≡ first_of (length text) (hits ps text)
  none_found n e h =
      let vs = taking ps [] (2 * length ps) text in
      let all = whole (feed_rule (step ps) (2 * length ps) (position_of new_search) (2 * length ps) text) in
      let mine : hits ps text ≡ [] =
      ap (hits ps) (sym (agrees.front ∙ take_all (length vs) text (omega (arith, agrees.taken))))
      ∙ agrees.more
      ∙ ap (λ (hs : List (ℕ × ℕ)). hs ++ called.hits) (hits-nil ps)
      ∙ length_none called.hits h in
      ap (λ (m : ℕ). (0, 0, 0, m)) (e ∙ all) ∙ sym (ap (first_of (length text)) mine)
    where
      whole : EndedOrFull (step ps) (2 * length ps) (2 * length ps) text called → called.taken ≡ length text
      whole (inl r) = r.1
      whole (inr r) = absurd (let y : ⊥ = omega (arith, r.2) in y)

  -- where it has some, the first two words of its list are the first hit
  pub first_found : (after behind : List ℕ) → after ≡ hit_words called.hits ++ behind → 0 < length called.hits
      → (1, get_or after 0 0, get_or after 1 0, get_or after 0 0 + 1) ≡ first_of (length text) (hits ps text)
  unfolding hit_words
  first_found after behind e h = go called.hits e h ∙ sym (ap (first_of (length text)) call_first.1)
    where
      go : (hs : List (ℕ × ℕ)) → after ≡ hit_words hs ++ behind → 0 < length hs
          → (1, get_or after 0 0, get_or after 1 0, get_or after 0 0 + 1) ≡ first_of (length text) (hs ++ call_first.0)
      go [] e h = absurd (let y : ⊥ = omega arith in y)
      go (f ∷ hs) e h =
          let a : get_or after 0 0 ≡ f.0 = ap (λ (l : List ℕ). get_or l 0 0) e in
          let b : get_or after 1 0 ≡ f.1 = ap (λ (l : List ℕ). get_or l 1 0) e in
          let c : get_or after 0 0 + 1 ≡ suc f.0 = omega arith in
          λ i. (1, a i, b i, c i)

  -- the first of them is a place of the text
  pub first_place : (after behind : List ℕ) → after ≡ hit_words called.hits ++ behind → 0 < length called.hits → get_or after 0 0 < length text
  unfolding hit_words
  first_place after behind e h = go called.hits e h call_first.1
    where
      go : (hs : List (ℕ × ℕ)) → after ≡ hit_words hs ++ behind → 0 < length hs → hits ps text ≡ hs ++ call_first.0 → get_or after 0 0 < length text
      go [] e h q = absurd (let y : ⊥ = omega arith in y)
      go (f ∷ hs) e h q =
          let a : get_or after 0 0 ≡ f.0 = ap (λ (l : List ℕ). get_or l 0 0) e in
          let m : Memᴰ f (hits ps text) = subst (λ (l : List (ℕ × ℕ)). Memᴰ f l) (sym q) (Memᴰ-head refl) in
          omega (arith, ((hits_iff ps text f.0 f.1).0 m).0)
