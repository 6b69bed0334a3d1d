-- THE RUN THEOREM (demand 3). Each call keeps the state that of a search over the text taken so
-- far, and is seen as the reference sees it; one induction over the list of calls gives the rest.
use Rattle.std.specs.Prelude.{◌≡◌, ◌&&◌, ◌||◌, ◌∷◌, ◌++◌, ◌+◌, ◌*◌, ◌≤◌, ◌<◌, ◌⊎◌}
use Rattle.lists.proofs.Prelude.{◌∙◌, ap, sym, refl, subst, ap₂, Bool, true, false, cond, not, None, Some, List, [], map}
use Rattle.lists.proofs.Prelude.{append-nil}
use Rattle.lists.proofs.Prelude.{append_assoc, flatten, ℕ, zero, suc, ℤ, T, eqb, leb, ltb, eqb-suc-zero, length, length-append, take, drop}
use Rattle.lists.proofs.Prelude.{length-map, take_at, arith, ne_eqb, le-ltb, ltb-false, begins, select, tabulate, Memᴰ, Memᴰ-not-nil}
use Rattle.lists.proofs.Prelude.{Memᴰ-cases_cons, inl}
use Rattle.lists.proofs.Prelude.{inr}
use Rattle.lists.proofs.Tests.{true-T, T-true}
use Rattle.lists.proofs.Parts.{map-append}
use Rattle.answers.specs.declared.SearchState.{SearchState}
use Rattle.answers.specs.Told.{new_search}
use Rattle.pattern_set.specs.PatternSet.{PatternSet, good_set, holds_one_value, set_words, patterns_of, IsSet}
use Rattle.pattern_set.proofs.IsSet.{begins_set, IsSet-words, patterns_of_words}
use Rattle.pattern_set.proofs.MaySearch.{may_search_parts}
use Rattle.matching.specs.Matching.{hits, hit_words, candidates}
use Rattle.matching.specs.Rise.{rise, rise_in}
use Rattle.entries.specs.Entries.{first_met, unless, told, after, Counts, stream_conditions, filter_entry, filter_rises}
use Rattle.automaton_model.specs.Automaton.{automaton_words}
use Rattle.search_model.specs.Recent.{found_at}
use Rattle.search_model.specs.Search.{Position, position_of, good_state, Called, call, state_after, rises_of}
use Rattle.entries.proofs.Refusals.{left_by}
use Rattle.matching.proofs.HitWords.{length-hit_words, hit_words-append}
use Rattle.matching.proofs.HitsOrder.{hits_list}
use Rattle.runs.specs.ReferenceRun.{Call, Seen, attempts_on, is_lent, refusal_of, taking, added, hits_on, seen_of, reference, taken, longest_head}
use Rattle.runs.specs.Demands.{observe_call, next_state, observe, last_state, Admitted, told_or0, written, risen, attempts_of, Run, RunTheorem}
use Rattle.runs.proofs.LongestHead.{longest_head-le}
use Rattle.runs.proofs.Step.{node-reached}
use Rattle.runs.proofs.Recent.{rises_found, rises_before}
use Rattle.runs.proofs.State.{Stands, Stands-new, Stands-good, Stands-after}
use Rattle.runs.proofs.Call.{Agrees, none_later, Agrees-hits, call_takes}

-- ---- no values have no hit

no_hits : (ps : PatternSet) → hits ps [] ≡ []
unfolding hits tabulate flatten
no_hits ps = refl

no_words : (v : List ℕ) → hit_words [] ++ v ≡ v
unfolding hit_words
no_words v = refl

-- ---- what a call does, by its refusal

abbrev called_of : SearchState → Call → Called Position
called_of st k = call (patterns_of k.set) (position_of st) (length k.hits) k.values

abbrev refusal_by : SearchState → Call → ℕ
refusal_by st k = first_met (stream_conditions k.set k.automaton st k.values k.hits k.rises)

-- what is told of a call that is refused with n, or, where n is 0, does this
abbrev tell_called : ℕ → Called Position → ℕ × Counts
tell_called n c = (n, unless n (c.ended, c.taken, length c.hits, c.attempts) (0, 0, 0, 0))

-- what is seen of it, with these rises over its hits
abbrev seen_by : PatternSet → ℕ → Called Position → List ℤ → Call → Seen
seen_by ps n c vs k = record {
  tells = cond (is_lent ps k) (Some (tell_called n c)) None;
  leaves = left_by n (hit_words c.hits) k.hits;
  rises = left_by n vs k.rises;
}

seen_lent : (ps : PatternSet) (n : ℕ) (c : Called Position) (vs : List ℤ) (k : Call) → is_lent ps k ≡ true
    → seen_by ps n c vs k ≡ record { tells = Some (tell_called n c); leaves = left_by n (hit_words c.hits) k.hits; rises = left_by n vs k.rises }
seen_lent ps n c vs k e = rw e refl

seen_other : (ps : PatternSet) (n : ℕ) (c : Called Position) (vs : List ℤ) (k : Call) → is_lent ps k ≡ false
    → seen_by ps (suc n) c vs k ≡ record { tells = None; leaves = k.hits; rises = k.rises }
seen_other ps n c vs k e = rw e refl

-- the rises over the hits of a call
abbrev rises_by : SearchState → Call → List ℤ
rises_by st k = rises_of (patterns_of k.set) st k.values (called_of st k)

-- ---- the same of the reference

-- what it sees of a call that is lent the set, is refused with n, or with 0 not at all, and adds
-- the values xs, on which the hits hs fall
abbrev told_of : PatternSet → List ℤ → Call → ℕ → List ℤ → List (ℕ × ℕ) → Seen
told_of ps text k n xs hs = record {
  tells = Some (n, (cond (eqb n 0 && eqb (length xs) (length k.values)) 1 0, length xs, length hs, attempts_on ps text xs));
  leaves = hit_words hs ++ drop (length (hit_words hs)) k.hits;
  rises = map (rise_in ps (text ++ xs)) hs ++ drop (length hs) k.rises;
}

module _ (ps : PatternSet) (text : List ℤ) (k : Call) where
  reference_lent : (n : ℕ) (xs : List ℤ) (hs : List (ℕ × ℕ)) → is_lent ps k ≡ true → refusal_of ps text k ≡ n → added ps text k ≡ xs → hits_on ps text xs ≡ hs
      → seen_of ps text k ≡ told_of ps text k n xs hs
  unfolding seen_of
  reference_lent n xs hs e f a h = rw (e, f, a, h) refl

  -- no hits fall on no values
  no_values : hits_on ps text [] ≡ []
  unfolding hits_on
  no_values =
      ap (λ (l : List ℤ). select (λ h. leb (length text) h.0) (hits ps l)) (append-nil text) ∙ none_later ps text

  added_other : is_lent ps k ≡ false → added ps text k ≡ []
  unfolding added
  added_other e = rw e refl

  added_refused : (n : ℕ) → is_lent ps k ≡ true → refusal_of ps text k ≡ suc n → added ps text k ≡ []
  unfolding added
  added_refused n e f = rw (e, f, eqb-suc-zero n) refl

  added_accepted : is_lent ps k ≡ true → refusal_of ps text k ≡ 0 → added ps text k ≡ taking ps text (length k.hits) k.values
  unfolding added
  added_accepted e f = rw (e, f) refl

  reference_refused : (n : ℕ) → is_lent ps k ≡ true → refusal_of ps text k ≡ suc n
      → seen_of ps text k ≡ record { tells = Some (suc n, (0, 0, 0, 0)); leaves = k.hits; rises = k.rises }
  unfolding attempts_on hit_words
  reference_refused n e f = reference_lent (suc n) [] [] e f (added_refused n e f) no_values ∙ (rw (eqb-suc-zero n) refl)

  reference_other : is_lent ps k ≡ false → seen_of ps text k ≡ record { tells = None; leaves = k.hits; rises = k.rises }
  unfolding seen_of hit_words
  reference_other e = rw (e, added_other e, no_values) refl

-- 8 is none of the reference's refusals
not_eight : (a b c : Bool) → ◌≡◌ {A = ℕ} (cond a 7 (cond b 9 (cond c 10 0))) 8 → ⊥
not_eight true b c e = omega arith
not_eight false true c e = omega arith
not_eight false false true e = omega arith
not_eight false false false e = omega arith

never_eight : (ps : PatternSet) (text : List ℤ) (k : Call) → refusal_of ps text k ≡ 8 → ⊥
unfolding refusal_of
never_eight ps text k e =
    not_eight (not (begins k.automaton (automaton_words ps))) (ltb 1048576 (length text + length k.values))
    (ltb (length k.hits) (2 * length ps) || ltb (2 * length k.rises) (length k.hits)) e

-- an accepted call does not go past the limit
within_limit : (ps : PatternSet) (text : List ℤ) (k : Call) → refusal_of ps text k ≡ 0 → length text + length k.values ≤ 1048576
unfolding refusal_of
within_limit ps text k e = go (not (begins k.automaton (automaton_words ps))) (ltb 1048576 (length text + length k.values)) refl e
  where
    go : (a b : Bool) → ltb 1048576 (length text + length k.values) ≡ b
        → ◌≡◌ {A = ℕ} (cond a 7 (cond b 9 (cond (ltb (length k.hits) (2 * length ps) || ltb (2 * length k.rises) (length k.hits)) 10 0))) 0
        → length text + length k.values ≤ 1048576
    go true b q f = absurd (let y : ⊥ = omega arith in y)
    go false true q f = absurd (let y : ⊥ = omega arith in y)
    go false false q f = ltb-false 1048576 (length text + length k.values) q

-- what never is told of the first nor of the rest is told of none
never_cons : (s : Seen) (ss : List Seen) → (told_or0 (λ t. t.0) s.tells ≡ 8 → ⊥) → ((q : Seen) → Memᴰ q ss → told_or0 (λ t. t.0) q.tells ≡ 8 → ⊥)
    → (q : Seen) → (q ≡ s) ⊎ Memᴰ q ss → told_or0 (λ t. t.0) q.tells ≡ 8 → ⊥
never_cons s ss f g q (inl e) h = f (ap (λ (r : Seen). told_or0 (λ t. t.0) r.tells) (sym e) ∙ h)
never_cons s ss f g q (inr m) h = g q m h

-- ---- one call

-- what one call is, from a state of a search over the text
record OneCall (ps : PatternSet) (text : List ℤ) (st : SearchState) (k : Call) : Type 0 where
  same : observe_call ps st k ≡ seen_of ps text k
  state : Stands ps (text ++ added ps text k) (next_state st k)
  limit : length (text ++ added ps text k) ≤ 1048576
  longer : length text ≤ length (text ++ added ps text k)
  never : told_or0 (λ t. t.0) (observe_call ps st k).tells ≡ 8 → ⊥
  bound : told_or0 (λ t. t.1.3) (observe_call ps st k).tells + longest_head ps (text ++ added ps text k) + 2 * length text
      ≤ longest_head ps text + 2 * length (text ++ added ps text k)
  list : hit_words (hits ps (text ++ added ps text k)) ≡ hit_words (hits ps text) ++ take (2 * told_or0 (λ t. t.1.2) (observe_call ps st k).tells)
      (observe_call ps st k).leaves
  rises : map (rise_in ps (text ++ added ps text k)) (hits ps (text ++ added ps text k))
      ≡ map (rise_in ps text) (hits ps text) ++ take (told_or0 (λ t. t.1.2) (observe_call ps st k).tells) (observe_call ps st k).rises

-- one call is told by what is seen of it and by the text after it
one_by : (ps : PatternSet) (text : List ℤ) (st : SearchState) (k : Call) (s : Seen) (more : List ℤ)
    → observe_call ps st k ≡ s → seen_of ps text k ≡ s → text ++ added ps text k ≡ more → Stands ps more (next_state st k)
    → length more ≤ 1048576 → length text ≤ length more → (told_or0 (λ t. t.0) s.tells ≡ 8 → ⊥)
    → told_or0 (λ t. t.1.3) s.tells + longest_head ps more + 2 * length text ≤ longest_head ps text + 2 * length more
    → hit_words (hits ps more) ≡ hit_words (hits ps text) ++ take (2 * told_or0 (λ t. t.1.2) s.tells) s.leaves
    → map (rise_in ps more) (hits ps more) ≡ map (rise_in ps text) (hits ps text) ++ take (told_or0 (λ t. t.1.2) s.tells) s.rises → OneCall ps text st k
one_by ps text st k s more o q e r l m v b w u =
    record {
      same = o ∙ sym q;
      state = subst (λ (t : List ℤ). Stands ps t (next_state st k)) (sym e) r;
      limit = rw e l;
      longer = rw e m;
      never = λ d. v (ap (λ (t : Seen). told_or0 (λ t. t.0) t.tells) (sym o) ∙ d);
      bound =
          subst (λ (t : Seen). told_or0 (λ t. t.1.3) t.tells + longest_head ps
          (text ++ added ps text k) + 2 * length text ≤ longest_head ps text + 2 * length (text ++ added ps text k)) (sym o) (rw e b);
      list =
          subst (λ (t : Seen). hit_words (hits ps (text ++ added ps text k)) ≡ hit_words (hits ps text) ++ take
          (2 * told_or0 (λ t. t.1.2) t.tells) t.leaves) (sym o) (rw e w);
      rises =
          subst (λ (t : Seen). map (rise_in ps (text ++ added ps text k)) (hits ps (text ++ added ps text k))
          ≡ map (rise_in ps text) (hits ps text) ++ take (told_or0 (λ t. t.1.2) t.tells) t.rises) (sym o) (rw e u);
    }

module _ (ps : PatternSet) (g : T (good_set ps)) (z : 0 < length ps) (many : holds_one_value ps ≡ false) where
  lent_set : (k : Call) → is_lent ps k ≡ true → IsSet k.set × (patterns_of k.set ≡ ps)
  lent_set k e = begins_set k.set ps g (T-true (is_lent ps k) e)

  -- under the set the refusals are the reference's: 1, 5, 15 and 8 never hold, and 9 is as counted
  -- from the text
  refusal_same : (text : List ℤ) (st : SearchState) (k : Call) → Stands ps text st → length text ≤ 1048576 → is_lent ps k ≡ true
      → refusal_by st k ≡ refusal_of ps text k
  unfolding stream_conditions refusal_of
  refusal_same text st k r l e =
      rw (
        (lent_set k e).0,
        (lent_set k e).1,
        ne_eqb (length ps) 0 (λ q. let w : ⊥ = omega arith in w),
        many,
        true-T (good_state ps st) (Stands-good ps g z text st r l),
        r.position.count,
      ) refl

  -- a call lent another set is refused and changes nothing
  one_other : (text : List ℤ) (st : SearchState) (k : Call) (n : ℕ) → Stands ps text st → length text ≤ 1048576 → is_lent ps k ≡ false
      → refusal_by st k ≡ suc n → OneCall ps text st k
  one_other text st k n r l e f =
      one_by ps text st k (record { tells = None; leaves = k.hits; rises = k.rises }) text
      (ap (λ (m : ℕ). seen_by ps m (called_of st k) (rises_by st k) k) f ∙ seen_other ps n (called_of st k) (rises_by st k) k e)
      (reference_other ps text k e)
      (ap (λ (xs : List ℤ). text ++ xs) (added_other ps text k e) ∙ append-nil text)
      (subst (Stands ps text) (sym (ap (λ (m : ℕ). unless m (state_after st k.values (called_of st k)) st) f)) r)
      l (omega arith) (λ d. let w : ⊥ = omega arith in w) (omega arith) (sym (append-nil (hit_words (hits ps text))))
      (sym (append-nil (map (rise_in ps text) (hits ps text))))

  -- a refused call under the set changes nothing
  one_refused : (text : List ℤ) (st : SearchState) (k : Call) (n : ℕ) → Stands ps text st → length text ≤ 1048576 → is_lent ps k ≡ true
      → refusal_of ps text k ≡ suc n → OneCall ps text st k
  one_refused text st k n r l e f =
      let m : refusal_by st k ≡ suc n = refusal_same text st k r l e ∙ f in
      one_by ps text st k (record { tells = Some (suc n, (0, 0, 0, 0)); leaves = k.hits; rises = k.rises }) text
      (ap (λ (i : ℕ). seen_by ps i (called_of st k) (rises_by st k) k) m ∙ seen_lent ps (suc n) (called_of st k) (rises_by st k) k e)
      (reference_refused ps text k n e f)
      (ap (λ (xs : List ℤ). text ++ xs) (added_refused ps text k n e f) ∙ append-nil text)
      (subst (Stands ps text) (sym (ap (λ (i : ℕ). unless i (state_after st k.values (called_of st k)) st) m)) r)
      l (omega arith) (λ d. never_eight ps text k (f ∙ d)) (omega arith) (sym (append-nil (hit_words (hits ps text))))
      (sym (append-nil (map (rise_in ps text) (hits ps text))))

  -- the rises over the hits of the text stay where values go to its end
  rises_more : (text vs : List ℤ) (hs : List (ℕ × ℕ)) → hits ps (text ++ vs) ≡ hits ps text ++ hs
      → map (rise_in ps (text ++ vs)) (hits ps (text ++ vs)) ≡ map (rise_in ps text) (hits ps text) ++ map (rise_in ps (text ++ vs)) hs
  rises_more text vs hs e =
      ap (map (rise_in ps (text ++ vs))) e
      ∙ map-append (rise_in ps (text ++ vs)) (hits ps text) hs
      ∙ ap (λ (l : List ℤ). l ++ map (rise_in ps (text ++ vs)) hs) (rises_before ps text vs)

  -- an accepted call under the set takes what the reference takes
  one_accepted : (text : List ℤ) (st : SearchState) (k : Call) → Stands ps text st → length text ≤ 1048576 → is_lent ps k ≡ true
      → refusal_of ps text k ≡ 0 → OneCall ps text st k
  one_accepted text st k r l e f =
      let C = call ps (position_of st) (length k.hits) k.values in
      let vs = taking ps text (length k.hits) k.values in
      let A : Agrees ps text k.values C vs = call_takes ps g z k.values text (position_of st) (length k.hits) r.position in
      let up = map (rise_in ps (text ++ vs)) C.hits in
      let q : patterns_of k.set ≡ ps = (lent_set k e).1 in
      let c : called_of st k ≡ C = ap (λ (qs : PatternSet). call qs (position_of st) (length k.hits) k.values) q in
      let n : refusal_by st k ≡ 0 = refusal_same text st k r l e ∙ f in
      let a = added_accepted ps text k e f in
      one_by ps text st k (seen_by ps 0 C up k) (text ++ vs)
      (ap (λ (i : ℕ). seen_by ps i (called_of st k) (rises_by st k) k) n
      ∙ ap (λ (qs : PatternSet). seen_on qs st k) q
      ∙ ap (λ (us : List ℤ). seen_by ps 0 C us k) (found text st k vs C r A))
      (reference_lent ps text k 0 vs C.hits e f a (sym (Agrees-hits ps text k.values C vs A)) ∙ sym (seen_lent ps 0 C up k e ∙ same_seen text C vs k A))
      (ap (λ (xs : List ℤ). text ++ xs) a)
      (subst (Stands ps (text ++ vs)) (sym (ap (λ (i : ℕ). unless i (state_after st k.values (called_of st k)) st) n
      ∙ ap (λ (d : Called Position). state_after st k.values d) c))
      (Stands-after ps g z text k.values vs st C r A.state (A.front ∙ ap (λ (m : ℕ). take m k.values) (sym A.taken))))
      (omega (arith, length-append text vs, A.within, within_limit ps text k f)) (omega (arith, length-append text vs))
      (subst (λ (b : Bool). told_or0 (λ t. t.0) (cond b (Some (tell_called 0 C)) None) ≡ 8 → ⊥) (sym e) (λ d. let w : ⊥ = omega arith in w))
      (subst (λ (b : Bool). told_or0 (λ t. t.1.3) (cond b (Some (tell_called 0 C)) None) + longest_head ps (text ++ vs) + 2 * length text
      ≤ longest_head ps text + 2 * length (text ++ vs)) (sym e) (omega (arith, A.bound, length-append text vs)))
      (subst (λ (b : Bool). hit_words (hits ps (text ++ vs)) ≡ hit_words (hits ps text)
      ++ take (2 * told_or0 (λ t. t.1.2) (cond b (Some (tell_called 0 C)) None)) (left_by 0 (hit_words C.hits) k.hits)) (sym e)
      (ap hit_words A.more ∙ hit_words-append (hits ps text) C.hits
      ∙ ap (λ (v : List ℕ). hit_words (hits ps text) ++ v)
      (sym (take_at (hit_words C.hits) (drop (length (hit_words C.hits)) k.hits) (2 * length C.hits) (length-hit_words C.hits)))))
      (subst (λ (b : Bool). map (rise_in ps (text ++ vs)) (hits ps (text ++ vs)) ≡ map (rise_in ps text) (hits ps text)
      ++ take (told_or0 (λ t. t.1.2) (cond b (Some (tell_called 0 C)) None)) (left_by 0 up k.rises)) (sym e)
      (rises_more text vs C.hits A.more
      ∙ ap (λ (v : List ℤ). map (rise_in ps text) (hits ps text) ++ v)
      (sym (take_at up (drop (length up) k.rises) (length C.hits) (length-map C.hits (rise_in ps (text ++ vs)))))))
    where
      -- what is seen of an accepted call under the patterns qs
      seen_on : PatternSet → SearchState → Call → Seen
      seen_on qs st k = let c = call qs (position_of st) (length k.hits) k.values in seen_by ps 0 c (rises_of qs st k.values c) k

      -- the rises are those in the text
      found : (text : List ℤ) (st : SearchState) (k : Call) (vs : List ℤ) (c : Called Position) → Stands ps text st → Agrees ps text k.values c vs
          → rises_of ps st k.values c ≡ map (rise_in ps (text ++ vs)) c.hits
      found text st k vs c r a =
          ap₂ (λ (n : ℕ) (recent : List ℤ). map (rise ps (found_at n recent k.values)) c.hits) r.position.count r.recent
          ∙ rises_found text k.values vs a.front ps g c.hits a.more a.later

      same_seen : (text : List ℤ) (c : Called Position) (vs : List ℤ) (k : Call) → Agrees ps text k.values c vs
          → ◌≡◌ {A = Seen} (record {
            tells = Some (0, (c.ended, c.taken, length c.hits, c.attempts));
            leaves = hit_words c.hits ++ drop (length (hit_words c.hits)) k.hits;
            rises = map (rise_in ps (text ++ vs)) c.hits ++ drop (length (map (rise_in ps (text ++ vs)) c.hits)) k.rises;
          })
          (told_of ps text k 0 vs c.hits)
      same_seen text c vs k a =
          λ i. record {
            tells = Some (0, (a.ended i, a.taken i, length c.hits, a.attempts i));
            leaves = hit_words c.hits ++ drop (length (hit_words c.hits)) k.hits;
            rises = map (rise_in ps (text ++ vs)) c.hits ++ drop (length-map c.hits (rise_in ps (text ++ vs)) i) k.rises;
          }

  one_call : (text : List ℤ) (st : SearchState) (k : Call) → Stands ps text st → length text ≤ 1048576
      → (is_lent ps k ≡ false → 0 < refusal_by st k) → OneCall ps text st k
  one_call text st k r l a = go (is_lent ps k) refl a (refusal_of ps text k) refl
    where
      other : (m : ℕ) → refusal_by st k ≡ m → 0 < m → is_lent ps k ≡ false → OneCall ps text st k
      other zero q p e = absurd (let w : ⊥ = omega arith in w)
      other (suc m) q p e = one_other text st k m r l e q

      go : (b : Bool) → is_lent ps k ≡ b → (is_lent ps k ≡ false → 0 < refusal_by st k) → (n : ℕ) → refusal_of ps text k ≡ n → OneCall ps text st k
      go true e p zero f = one_accepted text st k r l e f
      go true e p (suc n) f = one_refused text st k n r l e f
      go false e p n f = other (refusal_by st k) refl (p e) e

  -- ---- all calls

  record Calls (text : List ℤ) (st : SearchState) (cs : List Call) : Type 0 where
    same : observe ps st cs ≡ reference ps text cs
    state : Stands ps (taken ps text cs) (last_state st cs)
    limit : length (taken ps text cs) ≤ 1048576
    longer : length text ≤ length (taken ps text cs)
    never : (s : Seen) → Memᴰ s (observe ps st cs) → told_or0 (λ t. t.0) s.tells ≡ 8 → ⊥
    bound : attempts_of (observe ps st cs) + longest_head ps (taken ps text cs) + 2 * length text ≤ longest_head ps text + 2 * length (taken ps text cs)
    list : hit_words (hits ps (taken ps text cs)) ≡ hit_words (hits ps text) ++ written (observe ps st cs)
    rises : map (rise_in ps (taken ps text cs)) (hits ps (taken ps text cs)) ≡ map (rise_in ps text) (hits ps text) ++ risen (observe ps st cs)

  all-Calls : (cs : List Call) (text : List ℤ) (st : SearchState) → Stands ps text st → length text ≤ 1048576 → Admitted ps st cs → Calls text st cs
  unfolding observe reference taken last_state Admitted attempts_of written risen
  all-Calls [] text st r l a =
      record {
        same = refl;
        state = r;
        limit = l;
        longer = omega arith;
        never = λ s m. absurd (Memᴰ-not-nil m);
        bound = omega arith;
        list = sym (append-nil (hit_words (hits ps text)));
        rises = sym (append-nil (map (rise_in ps text) (hits ps text)));
      }
  all-Calls (k ∷ cs) text st r l a =
      let o = one_call text st k r l a.0 in
      let i = all-Calls cs (text ++ added ps text k) (next_state st k) o.state o.limit a.1 in
      record {
        same = ap₂ (λ (s : Seen) (ss : List Seen). s ∷ ss) o.same i.same;
        state = i.state;
        limit = i.limit;
        longer = omega (arith, o.longer, i.longer);
        never = λ s m. never_cons (observe_call ps st k) (observe ps (next_state st k) cs) o.never i.never s (Memᴰ-cases_cons m);
        bound = omega (arith, o.bound, i.bound);
        list =
            i.list
            ∙ ap (λ (v : List ℕ). v ++ written (observe ps (next_state st k) cs)) o.list
            ∙ append_assoc (hit_words (hits ps text)) (take (2 * told_or0 (λ t. t.1.2) (observe_call ps st k).tells) (observe_call ps st k).leaves)
            (written (observe ps (next_state st k) cs));
        rises =
            i.rises
            ∙ ap (λ (v : List ℤ). v ++ risen (observe ps (next_state st k) cs)) o.rises
            ∙ append_assoc (map (rise_in ps text) (hits ps text)) (take (told_or0 (λ t. t.1.2) (observe_call ps st k).tells) (observe_call ps st k).rises)
            (risen (observe ps (next_state st k) cs));
      }

  -- the list and the rises of a filter search over the same values
  filter_list : (text : List ℤ) → length text ≤ 1048576 → (ws out : List ℕ) (second : List ℤ) → length (hit_words (hits ps text)) ≤ length out
      → length out ≤ 2 * length second
      → (told (0, 0) (filter_entry (set_words ps ++ ws) text out second) ≡ (0, (length (hits ps text), candidates ps text)))
      × (after (filter_entry (set_words ps ++ ws) text out second) out ≡ hit_words (hits ps text) ++ drop (length (hit_words (hits ps text))) out)
      × (after (filter_rises (set_words ps ++ ws) text out second) second
      ≡ map (rise_in ps text) (hits ps text) ++ drop (length (map (rise_in ps text) (hits ps text))) second)
  filter_list text l ws out second f h =
      rw (
        IsSet-words ps ws g,
        patterns_of_words ps ws g,
        ne_eqb (length ps) 0 (λ q. let w : ⊥ = omega arith in w),
        many,
        le-ltb 1048576 (length text) l,
        le-ltb (2 * length second) (length out) h,
        le-ltb (length out) (2 * length (hits ps text))
            (let w : 2 * length (hits ps text) ≤ length out = omega (arith, length-hit_words (hits ps text)) in w),
      )
      (refl, refl, refl)

  Run-of : (cs : List Call) → Admitted ps new_search cs → Run ps cs (observe ps new_search cs) (taken ps [] cs) (last_state new_search cs)
  Run-of cs a =
      let c = all-Calls cs [] new_search (Stands-new ps g z) (omega arith) a in
      let R = taken ps [] cs in
      let seen = observe ps new_search cs in
      let w : written seen ≡ hit_words (hits ps R) =
      sym (c.list ∙ ap (λ (hs : List (ℕ × ℕ)). hit_words hs ++ written seen) (no_hits ps) ∙ no_words (written seen)) in
      let u : risen seen ≡ map (rise_in ps R) (hits ps R) = sym (c.rises ∙ ap (λ (hs : List (ℕ × ℕ)). map (rise_in ps []) hs ++ risen seen) (no_hits ps)) in
      let p = c.state.position in
      record {
        same = c.same;
        never = c.never;
        bound = omega (arith, c.bound, longest_head-le ps []);
        count = p.count;
        node = node-reached ps g z R (position_of (last_state new_search cs)) p;
        places = p.minima.places;
        values = p.minima.values;
        recent = c.state.recent;
        list = w;
        pairs = hits_list ps R;
        rises = u;
        filtered = λ ws out second f h. rw (w, u) (filter_list R c.limit ws out second f h);
      }

-- ---- a front of the calls is seen as in the whole list, and may stand alone

observe-take : (ps : PatternSet) (cs : List Call) (st : SearchState) (n : ℕ) → take n (observe ps st cs) ≡ observe ps st (take n cs)
unfolding observe
observe-take ps [] st zero = refl
observe-take ps [] st (suc n) = refl
observe-take ps (c ∷ cs) st zero = refl
observe-take ps (c ∷ cs) st (suc n) = ap (λ (l : List Seen). observe_call ps st c ∷ l) (observe-take ps cs (next_state st c) n)

Admitted-take : (ps : PatternSet) (cs : List Call) (st : SearchState) (n : ℕ) → Admitted ps st cs → Admitted ps st (take n cs)
unfolding Admitted
Admitted-take ps [] st zero a = tt
Admitted-take ps [] st (suc n) a = tt
Admitted-take ps (c ∷ cs) st zero a = tt
Admitted-take ps (c ∷ cs) st (suc n) a = (a.0, Admitted-take ps cs (next_state st c) n a.1)

pub run_theorem : RunTheorem
run_theorem ps t cs a n =
    let p = may_search_parts ps t in
    subst (λ (seen : List Seen). Run ps (take n cs) seen (taken ps [] (take n cs)) (last_state new_search (take n cs)))
    (sym (observe-take ps cs new_search n)) (Run-of ps p.0 p.1 p.2 (take n cs) (Admitted-take ps cs new_search n a))
