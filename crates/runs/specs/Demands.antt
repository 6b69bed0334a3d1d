-- The three demands, as they follow from the entries' promises: each promise equals definitions of
-- `entries`, and these are statements about them. docs/DEMANDS.md leads from each sentence of a
-- demand to the field that states it. The proofs are in proofs/Demands.antt and proofs/Run.antt.
use Rattle.std.specs.Prelude.{◌≡◌, ◌⊎◌, ◌↔◌, ◌∷◌, ◌++◌, ◌+◌, ◌*◌, ◌≤◌, ◌<◌}
use Rattle.lists.specs.Prelude.{false, cond, Option, None, Some, List, [], Memᴰ, map, ℕ, T, ℤ, pos, length}
use Rattle.lists.specs.Prelude.{get_or, take, drop, tabulate, last_of, begins}
use Rattle.answers.specs.declared.SearchState.{SearchState}
use Rattle.answers.specs.Told.{new_search}
use Rattle.cartesian.specs.Cartesian.{tree, distances, tree_of}
use Rattle.realization.specs.Realization.{Realizable, realizable, IsLeast, least_realization}
use Rattle.ranking.specs.Rank.{rank, is_rank}
use Rattle.pattern_set.specs.PatternSet.{PatternSet, good_set, may_search, set_words, IsSet, patterns_of}
use Rattle.matching.specs.Matching.{hits, hit_words, candidates}
use Rattle.matching.specs.HitList.{IsHitList}
use Rattle.matching.specs.Rise.{rise_in}
use Rattle.automaton_model.specs.Automaton.{head_of}
use Rattle.search_model.specs.Ring.{place_at, value_at}
use Rattle.search_model.specs.Search.{position_of}
use Rattle.entries.specs.Entries.{Entry, first_met, told, after, Counts, set_conditions, stream_conditions, stream_entry, stream_rises}
use Rattle.entries.specs.Entries.{stream_state, filter_entry, filter_rises}
use Rattle.runs.specs.ReferenceRun.{Call, Seen, is_lent, reference, taken, longest_head, open_places, recent_of}

-- Demand 1. The entries ask nothing of their callers, and each refuses on the conditions that
-- `entries` lists for it. A refused call
pub record Demand1 : Type 1 where
  -- tells the number and no count
  pub tells : {C A : Type 0} (zeros : C) (e : Entry C A) → 0 < first_met e.conditions → told zeros e ≡ (first_met e.conditions, zeros)
  -- leaves every word as it was, and hands the state back as given
  pub leaves : {C A : Type 0} (e : Entry C A) (array : List A) → 0 < first_met e.conditions → after e array ≡ array
  pub hands_back : (ws am out : List ℕ) (st : SearchState) (xs rises : List ℤ)
      → 0 < first_met (stream_conditions ws am st xs out rises) → stream_state ws am st xs out rises ≡ st
  -- The tests in the conditions decide what document 01 says. A list of distances passes exactly if
  -- some values have it; a code exactly if a realizable list of that length has it; a set array
  -- exactly if it begins with the words of a good set; and it passes as one to be searched exactly
  -- if that set may be searched
  pub lists : (ds : List ℕ) → T (realizable ds) ↔ Realizable ds
  pub codes : (n code : ℕ) → T (is_rank n code) ↔ ((ds : List ℕ) × Realizable ds × (length ds ≡ n) × (rank ds ≡ code))
  pub sets : (ws : List ℕ) → IsSet ws ↔ ((ps : PatternSet) × T (good_set ps) × T (begins ws (set_words ps)))
  pub searched : (ws : List ℕ) → (first_met (set_conditions ws) ≡ 0) ↔ (IsSet ws × T (may_search (patterns_of ws)))

-- Demand 2
pub record Demand2 : Type 0 where
  -- distances are those of the Cartesian tree, and the tree that a stored list stands for is that
  -- of any values that have it
  pub trees : (xs ys : List ℤ) → (tree xs ≡ tree ys) ↔ (distances xs ≡ distances ys)
  pub stored : (xs : List ℤ) → tree_of (distances xs) ≡ tree xs
  -- of a list that is accepted, values that have it are written: the least
  pub least : (ds : List ℕ) → Realizable ds → IsLeast ds (least_realization ds)
  -- what a filter search lists is every pair of pattern and window with equal trees and no other,
  -- each once and in order
  pub listed : (ps : PatternSet) (text : List ℤ) → IsHitList ps text (hits ps text)

-- ---- Demand 3, as one statement about any list of stream search calls from a new state, under a
-- set that may be searched

-- ---- what the entry's promise says of each call, given the state that the one before handed back

abbrev pub entry_of : SearchState → Call → Entry Counts ℕ
entry_of st c = stream_entry c.set c.automaton st c.values c.hits c.rises

abbrev pub second_of : SearchState → Call → Entry Counts ℤ
second_of st c = stream_rises c.set c.automaton st c.values c.hits c.rises

-- of a call that is lent another set only that it is refused is seen
abbrev pub observe_call : PatternSet → SearchState → Call → Seen
observe_call ps st c =
    let tells : Option (ℕ × Counts) = cond (is_lent ps c) (Some (told (0, 0, 0, 0) (entry_of st c))) None in
    record { tells = tells; leaves = after (entry_of st c) c.hits; rises = after (second_of st c) c.rises }

abbrev pub next_state : SearchState → Call → SearchState
next_state st c = stream_state c.set c.automaton st c.values c.hits c.rises

unfoldable pub observe : PatternSet → SearchState → List Call → List Seen
observe ps st [] = []
observe ps st (c ∷ cs) = observe_call ps st c ∷ observe ps (next_state st c) cs

-- the state that the last call hands back
unfoldable pub last_state : SearchState → List Call → SearchState
last_state st [] = st
last_state st (c ∷ cs) = last_state (next_state st c) cs

-- a call that is lent another set stands in the list only if it is refused
unfoldable pub Admitted : PatternSet → SearchState → List Call → Type 0
Admitted ps st [] = Unit {0}
Admitted ps st (c ∷ cs) = (is_lent ps c ≡ false → 0 < first_met (entry_of st c).conditions) × Admitted ps (next_state st c) cs

-- ---- sums over all calls

-- a number that was told; 0 where nothing was
abbrev pub told_or0 : (ℕ × Counts → ℕ) → Option (ℕ × Counts) → ℕ
told_or0 f None = 0
told_or0 f (Some t) = f t

-- the words that the calls wrote, one after the other
unfoldable pub written : List Seen → List ℕ
written [] = []
written (s ∷ ss) = take (2 * told_or0 (λ t. t.1.2) s.tells) s.leaves ++ written ss

-- the rises
unfoldable pub risen : List Seen → List ℤ
risen [] = []
risen (s ∷ ss) = take (told_or0 (λ t. t.1.2) s.tells) s.rises ++ risen ss

-- the attempts of all calls
unfoldable pub attempts_of : List Seen → ℕ
attempts_of [] = 0
attempts_of (s ∷ ss) = told_or0 (λ t. t.1.3) s.tells + attempts_of ss

-- what holds of the calls under the set that were seen so, took the values R and handed back the
-- state st
pub record Run (ps : PatternSet) (cs : List Call) (seen : List Seen) (R : List ℤ) (st : SearchState) : Type 0 where
  -- hits, order, rises, ended or full, values taken and attempts are the reference run's, call by
  -- call
  pub same : seen ≡ reference ps [] cs
  -- no call that is lent the set is refused under 8
  pub never : (s : Seen) → Memᴰ s seen → told_or0 (λ t. t.0) s.tells ≡ 8 → ⊥
  -- the attempts of all calls are at most twice the values taken
  pub bound : attempts_of seen ≤ 2 * length R
  -- the state handed back, from the text alone
  pub count : st.taken ≡ length R
  pub node : head_of ps st.node ≡ distances (last_of (longest_head ps R) R)
  pub places : tabulate st.minima (place_at (position_of st).ring) ≡ open_places R
  pub values : tabulate st.minima (value_at (position_of st).ring) ≡ map (λ i. get_or R i (pos 0)) (open_places R)
  pub recent : st.recent ≡ recent_of R
  -- what the calls wrote, one after the other, are the hits of the text: one for each pair of
  -- pattern and window with equal trees, by last place, longer pattern first, then lower number
  pub list : written seen ≡ hit_words (hits ps R)
  pub pairs : IsHitList ps R (hits ps R)
  -- and the rises over them
  pub rises : risen seen ≡ map (rise_in ps R) (hits ps R)
  -- and a filter search of the set over the same values, with an array that holds its list and a
  -- second one as long as 10 asks, writes the same list and the same rises
  pub filtered : (ws out : List ℕ) (second : List ℤ) → length (hit_words (hits ps R)) ≤ length out → length out ≤ 2 * length second
      → (told (0, 0) (filter_entry (set_words ps ++ ws) R out second) ≡ (0, (length (hits ps R), candidates ps R)))
      × (after (filter_entry (set_words ps ++ ws) R out second) out ≡ written seen ++ drop (length (written seen)) out)
      × (after (filter_rises (set_words ps ++ ws) R out second) second ≡ risen seen ++ drop (length (risen seen)) second)

-- THE RUN THEOREM, of every set that may be searched: it holds after each call, the nth among
-- them, and so at every front of the list
abbrev pub RunTheorem : Type 0
RunTheorem = (ps : PatternSet) → T (may_search ps) → (cs : List Call) → Admitted ps new_search cs → (n : ℕ)
    → Run ps (take n cs) (take n (observe ps new_search cs)) (taken ps [] (take n cs)) (last_state new_search (take n cs))

-- what a call that was handed the values and an array of so many words counts, under k patterns
pub record Taking (k room : ℕ) (xs : List ℤ) (c : Counts) : Type 0 where
  -- it takes a value, if it is handed one
  pub some : 0 < length xs → 0 < c.1
  -- it is ended and takes all; or it is full, takes not all, and behind its hits fewer than two
  -- words a pattern are free
  pub rule : ((c.0 ≡ 1) × (c.1 ≡ length xs)) ⊎ ((c.0 ≡ 0) × (c.1 < length xs) × (room < 2 * k + 2 * c.2))

pub record Demand3 : Type 0 where
  pub run : RunTheorem
  -- the rule of ended and full, of every accepted call, whatever state it is given
  pub taking : (ws am out : List ℕ) (st : SearchState) (xs rises : List ℤ) → first_met (stream_conditions ws am st xs out rises) ≡ 0
      → Taking (length (patterns_of ws)) (length out) xs (stream_entry ws am st xs out rises).counts
