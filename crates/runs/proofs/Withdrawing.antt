-- THE WITHDRAWAL THEOREM: an accepted withdrawal leaves a set array of the other patterns, whose
-- hits are the old ones without those of the pattern withdrawn, with the same rises over them; what
-- the searches write follows.
use Rattle.std.specs.Prelude.{◌≡◌, ◌∷◌, ◌++◌, ◌≤◌, ◌<◌}
use Rattle.lists.proofs.Prelude.{◌∙◌, ap, sym, refl, subst, List, [], map, flatten, ℕ, suc, ℤ, T, length, take, drop}
use Rattle.lists.proofs.Prelude.{take-length, take_all, arith, begins}
use Rattle.lists.proofs.Parts.{length_snoc}
use Rattle.lists.proofs.Same.{same_eq}
use Rattle.answers.specs.declared.SearchState.{SearchState}
use Rattle.answers.specs.Told.{new_search}
use Rattle.cartesian.specs.Cartesian.{distances}
use Rattle.pattern_set.specs.PatternSet.{PatternSet, may_search, set_words, patterns_of, without}
use Rattle.pattern_set.proofs.IsSet.{set_begins}
use Rattle.pattern_set.proofs.MaySearch.{may_search-without}
use Rattle.pattern_set.proofs.Without.{without_last}
use Rattle.matching.specs.Matching.{hits, hit_words, candidates}
use Rattle.matching.specs.Rise.{rise_in}
use Rattle.matching.specs.Withdrawn.{hits_without}
use Rattle.matching.proofs.Withdrawn.{hits_without_lem, rises_without, hits-without-le}
use Rattle.entries.specs.Entries.{first_met, told, after, check_entry, add_entry, withdraw_entry, filter_conditions, filter_entry, filter_rises}
use Rattle.entries.proofs.Refusals.{tells, left_accepted}
use Rattle.entries.proofs.Filter.{filter_given, filter_accepted}
use Rattle.entries.proofs.Sets.{Holds, add_given, add-Holds, withdraw_given, withdraw_accepted, withdraw-Holds}
use Rattle.runs.specs.ReferenceRun.{Call, taken}
use Rattle.runs.specs.Demands.{Admitted, next_state, observe, written, risen}
use Rattle.runs.specs.Withdrawing.{rises_of_others, Withdrawn, GivenBack, WithdrawalTheorem}
use Rattle.runs.proofs.Run.{run_theorem}

length-observe : (ps : PatternSet) (st : SearchState) (cs : List Call) → length (observe ps st cs) ≡ length cs
unfolding observe
length-observe ps st [] = refl
length-observe ps st (c ∷ cs) = ap suc (length-observe ps (next_state st c) cs)

-- ---- an accepted withdrawal

module _ (ws : List ℕ) (j : ℕ) (e : first_met (withdraw_entry ws j).conditions ≡ 0) where
  abbrev left : List ℕ
  left = after (withdraw_entry ws j) ws

  held : Holds left (without j (patterns_of ws))
  held = withdraw-Holds ws j e

  list_left : (text : List ℤ) → hits (patterns_of left) text ≡ hits_without j (hits (patterns_of ws) text)
  list_left text = ap (λ (ps : PatternSet). hits ps text) held.patterns ∙ hits_without_lem (patterns_of ws) j (withdraw_given ws j e).1 text

  rises_left : (text : List ℤ) → map (rise_in (patterns_of left) text) (hits (patterns_of left) text) ≡ rises_of_others ws j text
  rises_left text =
      ap (λ (ps : PatternSet). map (rise_in ps text) (hits ps text)) held.patterns ∙ rises_without (patterns_of ws) j (withdraw_given ws j e).1 text

  list_le : (text : List ℤ) → length (hits (patterns_of left) text) ≤ length (hits (patterns_of ws) text)
  list_le text = rw held.patterns (hits-without-le (patterns_of ws) j (withdraw_given ws j e).1 text)

  -- what remains may be searched, where the set before might
  may_left : 0 < length (patterns_of left) → T (may_search (patterns_of ws)) → T (may_search (patterns_of left))
  may_left z t =
      let q = held.patterns in
      subst (λ (ps : PatternSet). T (may_search ps)) (sym q)
      (may_search-without (patterns_of ws) j (withdraw_given ws j e).1 (subst (λ (ps : PatternSet). 0 < length ps) q z) t)

  -- a filter search needs no more room than before
  filter_left : 0 < length (patterns_of left) → (text : List ℤ) (out : List ℕ) (second : List ℤ) → first_met (filter_conditions ws text out second) ≡ 0
      → let new = hits_without j (hits (patterns_of ws) text) in
      (told (0, 0) (filter_entry left text out second) ≡ (0, (length new, candidates (patterns_of left) text)))
      × (after (filter_entry left text out second) out ≡ hit_words new ++ drop (length (hit_words new)) out)
      × (after (filter_rises left text out second) second ≡ rises_of_others ws j text ++ drop (length (rises_of_others ws j text)) second)
  filter_left z text out second f =
      let g = filter_given ws text out second f in
      let a = filter_accepted left text out second held.good (may_left z g.0) g.1 g.2 (omega (arith, list_le text, g.3)) in
      let E = filter_entry left text out second in
      let n : ℕ = candidates (patterns_of left) text in
      let c : ◌≡◌ {A = ℕ × ℕ} (length (hits_without j (hits (patterns_of ws) text)), n) E.counts =
      ap (λ (hs : List (ℕ × ℕ)). (length hs, n)) (sym (list_left text)) in (
        sym (tells (0, 0) E (length (hits_without j (hits (patterns_of ws) text)), n) a c),
        sym (left_accepted (0, 0) E out a) ∙ ap (λ (hs : List (ℕ × ℕ)). hit_words hs ++ drop (length (hit_words hs)) out) (list_left text),
        sym (left_accepted (0, 0) (filter_rises left text out second) second a)
            ∙ ap (λ (rs : List ℤ). rs ++ drop (length rs) second) (rises_left text),
      )

  -- the calls of a stream search write the hits of the text that they take, and the rises over them
  stream_left : T (may_search (patterns_of left)) → (cs : List Call) → Admitted (patterns_of left) new_search cs
      → let text = taken (patterns_of left) [] cs in
      let seen = observe (patterns_of left) new_search cs in
      (written seen ≡ hit_words (hits_without j (hits (patterns_of ws) text))) × (risen seen ≡ rises_of_others ws j text)
  stream_left t cs a =
      let ps = patterns_of left in
      let seen = observe ps new_search cs in
      let r = run_theorem ps t cs a (length cs) in
      let all : seen ≡ take (length cs) seen = sym (take_all (length cs) seen (omega (arith, length-observe ps new_search cs))) in
      let text : taken ps [] (take (length cs) cs) ≡ taken ps [] cs = ap (taken ps []) (take-length cs) in (
        ap written all ∙ r.list ∙ ap (λ (l : List ℤ). hit_words (hits ps l)) text ∙ ap hit_words (list_left (taken ps [] cs)),
        ap risen all ∙ r.rises ∙ ap (λ (l : List ℤ). map (rise_in ps l) (hits ps l)) text ∙ rises_left (taken ps [] cs),
      )

  withdrawn : Withdrawn ws j left
  withdrawn = record {
    good = held.good;
    patterns = held.patterns;
    list = list_left;
    rises = rises_left;
    searched = may_left;
    filtered = filter_left;
    streamed = stream_left;
  }

-- ---- an accepted add, taken back

module _ (ws : List ℕ) (xs : List ℤ) (e : first_met (add_entry ws xs).conditions ≡ 0) where
  abbrev more : List ℕ
  more = after (add_entry ws xs) ws

  abbrev last : ℕ
  last = length (patterns_of ws)

  larger : Holds more (patterns_of ws ++ (distances xs ∷ []))
  larger = add-Holds ws xs e

  -- the last pattern can be withdrawn, and the others are those before
  accepted : first_met (withdraw_entry more last).conditions ≡ 0
  accepted = withdraw_accepted more last larger.good (omega (arith, ap length larger.patterns, length_snoc (patterns_of ws) (distances xs)))

  before : without last (patterns_of more) ≡ patterns_of ws
  before = ap (without last) larger.patterns ∙ without_last (patterns_of ws) (distances xs)

  told_back : told (0, 0) (withdraw_entry more last) ≡ told (0, 0) (check_entry ws)
  told_back =
      let counts = (check_entry ws).counts in
      sym (tells (0, 0) (withdraw_entry more last) counts accepted (ap (λ (ps : PatternSet). (length ps, length (flatten ps))) (sym before)))
      ∙ tells (0, 0) (check_entry ws) counts (rw (add_given ws xs e).set refl) refl

  -- both arrays begin with the words of that set
  given_back : GivenBack ws (after (withdraw_entry more last) more)
  given_back =
      let vs = after (withdraw_entry more last) more in
      let words = set_words (patterns_of ws) in
      let b : T (begins vs words) = subst (λ (ps : PatternSet). T (begins vs (set_words ps))) before (withdraw-Holds more last accepted).front in
      same_eq (take (length words) vs) words b ∙ sym (same_eq (take (length words) ws) words (set_begins ws (add_given ws xs e).set))

-- THE THEOREM
pub withdrawal_theorem : WithdrawalTheorem
withdrawal_theorem = record { withdrawn = withdrawn; added = λ ws xs e. (told_back ws xs e, given_back ws xs e) }
