-- The entries: when each refuses, what it counts and what it writes.
use Rattle.std.specs.Prelude.{◌&&◌, ◌||◌, ◌∷◌, ◌++◌, ◌+◌, ◌-◌, ◌*◌}
use Rattle.lists.specs.Prelude.{Bool, cond, not, List, [], map, flatten, ℕ, zero, suc, eqb, leb, ltb, ℤ, length, drop}
use Rattle.lists.specs.Prelude.{begins}
use Rattle.lists.specs.Prelude.{replicate, Option, None, Some}
use Rattle.gaps.specs.Gaps.{holds_gap}
use Rattle.cartesian.specs.Cartesian.{distances}
use Rattle.realization.specs.Realization.{realizable}
use Rattle.catalogue.specs.Catalogue.{next_list}
use Rattle.ranking.specs.Rank.{rank, unrank, is_rank}
use Rattle.pattern_set.specs.PatternSet.{set_words, has_one_value, holds_one_value, is_set, patterns_of, without}
use Rattle.matching.specs.Matching.{hits, hit_words, candidates}
use Rattle.matching.specs.Rise.{rise_in}
use Rattle.automaton_model.specs.Automaton.{nodes, automaton_words}
use Rattle.answers.specs.declared.SearchState.{SearchState}
use Rattle.search_model.specs.Search.{Position, position_of, good_state, Called, call, state_after, rises_of}

-- ---- What entries have in common. Document 01: Of the conditions that concern a call, the first
-- met gives its number.
-- Counts are then 0, lent arrays keep every word.

-- the conditions under which an entry refuses, each with its number, in the order in which they
-- concern a call
abbrev pub Conditions : Type 0
Conditions = List (ℕ × Bool)

-- an entry: the conditions under which it refuses, each with its number; what it counts; what it
-- writes to the front of the lent array
pub record Entry (C A : Type 0) : Type 0 where
  pub conditions : Conditions
  pub counts : C
  pub result : List A

-- the number of the first condition met; 0 where none is
abbrev pub first_met : Conditions → ℕ
first_met [] = 0
first_met (c ∷ cs) = cond c.1 c.0 (first_met cs)

-- by the number of a refusal: `done` where the call is accepted, `kept` where it is refused
abbrev pub unless : {A : Type 0} → ℕ → A → A → A
unless zero done kept = done
unless (suc r) done kept = kept

-- what the call tells: refusal and counts; `zeros` are those of a refused one
abbrev pub told : {C A : Type 0} → C → Entry C A → ℕ × C
told zeros e = (first_met e.conditions, unless (first_met e.conditions) e.counts zeros)

-- the lent array after the call
abbrev pub after : {C A : Type 0} → Entry C A → List A → List A
after e array = unless (first_met e.conditions) (e.result ++ drop (length e.result) array) array

-- ---- The entries on one pattern.

-- distances of values
abbrev pub distances_entry : List ℤ → List ℕ → Entry ℕ ℕ
distances_entry xs out =
    let cs : Conditions = (1, eqb (length xs) 0) ∷ (2, ltb 256 (length xs)) ∷ (13, holds_gap xs)
    ∷ (10, ltb (length out) (length xs)) ∷ [] in
    record { conditions = cs; counts = length xs; result = distances xs }

-- a list of distances, of which something as long goes into an array of the given room
abbrev pub list_conditions : List ℕ → ℕ → Conditions
list_conditions ds room = (1, eqb (length ds) 0) ∷ (2, ltb 256 (length ds)) ∷ (4, not (realizable ds)) ∷ (10, ltb room (length ds)) ∷ []

-- least realization, global parents or failure lengths of a list of distances
abbrev pub list_entry : {A : Type 0} → (List ℕ → List A) → List ℕ → List A → Entry ℕ A
list_entry make ds out = record { conditions = list_conditions ds (length out); counts = length ds; result = make ds }

-- what is counted of a next list: 1 where there is none, and its words
abbrev pub next_counts : Option (List ℕ) → ℕ × ℕ
next_counts None = (1, 0)
next_counts (Some es) = (0, length es)

-- what is written: nothing where there is none, so that no array is too short for it
abbrev pub next_words : Option (List ℕ) → List ℕ
next_words None = []
next_words (Some es) = es

-- the next list of the catalogue. Document 02, 2.1
abbrev pub next_entry : List ℕ → List ℕ → Entry (ℕ × ℕ) ℕ
next_entry ds out =
    let next = next_list ds in
    let cs : Conditions = (1, eqb (length ds) 0) ∷ (2, ltb 256 (length ds)) ∷ (12, ltb 10 (length ds)) ∷ (4, not (realizable ds))
    ∷ (10, ltb (length out) (length (next_words next))) ∷ [] in
    record { conditions = cs; counts = next_counts next; result = next_words next }

-- code of a list of distances
abbrev pub encode_entry : List ℕ → Entry ℕ ℕ
encode_entry ds =
    let cs : Conditions = (1, eqb (length ds) 0) ∷ (2, ltb 256 (length ds)) ∷ (3, ltb 20 (length ds)) ∷ (4, not (realizable ds)) ∷ [] in
    record { conditions = cs; counts = rank ds; result = [] }

-- distances of a length and a code
abbrev pub decode_entry : ℕ → ℕ → List ℕ → Entry ℕ ℕ
decode_entry n code out =
    record { conditions = (1, eqb n 0) ∷ (3, ltb 20 n) ∷ (4, not (is_rank n code)) ∷ (10, ltb (length out) n) ∷ []; counts = n; result = unrank n code }

-- ---- The entries on sets of patterns.

-- the empty set
abbrev pub empty_set_entry : List ℕ → Entry ℕ ℕ
empty_set_entry out = record { conditions = (10, ltb (length out) 3) ∷ []; counts = 3; result = set_words [] }

-- check of a set array: patterns and distances
abbrev pub check_entry : List ℕ → Entry (ℕ × ℕ) ℕ
check_entry ws = record { conditions = (5, not (is_set ws)) ∷ []; counts = (length (patterns_of ws), length (flatten (patterns_of ws))); result = [] }

-- adding a pattern, given as values: it becomes the last one
abbrev pub add_entry : List ℕ → List ℤ → Entry (ℕ × ℕ) ℕ
add_entry ws xs =
    let ps = patterns_of ws in
    let n = length (flatten ps) + length xs in
    let cs : Conditions = (1, eqb (length xs) 0) ∷ (2, ltb 256 (length xs)) ∷ (13, holds_gap xs) ∷ (5, not (is_set ws))
    ∷ (6, leb 64 (length ps) || ltb 4096 n) ∷ (15, has_one_value xs) ∷ (10, ltb (length ws) (4 + length ps + n)) ∷ [] in
    record { conditions = cs; counts = (length ps + 1, n); result = set_words (ps ++ (distances xs ∷ [])) }

-- withdrawing pattern j: higher numbers move down by one, and the words that the set no longer uses
-- become 0. Document 02, 2.3
abbrev pub withdraw_entry : List ℕ → ℕ → Entry (ℕ × ℕ) ℕ
withdraw_entry ws j =
    let ps = patterns_of ws in
    let qs = without j ps in
    let unused = length (set_words ps) - length (set_words qs) in
    let cs : Conditions = (5, not (is_set ws)) ∷ (14, leb (length ps) j) ∷ [] in
    record { conditions = cs; counts = (length qs, length (flatten qs)); result = set_words qs ++ replicate unused 0 }

-- ---- Building the automaton, the stream search, the first hit and the filter search.

-- the conditions of an entry over a set that is to be searched, with which its others begin: the
-- set in the array ws is empty, it is no set, or it holds a pattern of one value. None is met
-- exactly if the set may be searched (law `searched_iff`). Document 02, 2.6
abbrev pub set_conditions : List ℕ → Conditions
set_conditions ws = (1, is_set ws && eqb (length (patterns_of ws)) 0) ∷ (5, not (is_set ws)) ∷ (15, holds_one_value (patterns_of ws)) ∷ []

-- building the automaton of the set in the array ws: nodes and words
abbrev pub build_entry : List ℕ → List ℕ → Entry (ℕ × ℕ) ℕ
build_entry ws out =
    let ps = patterns_of ws in
    let cs : Conditions = set_conditions ws ++ ((10, ltb (length out) (16 * (1 + length (flatten ps)))) ∷ []) in
    record { conditions = cs; counts = (length (nodes ps), length (automaton_words ps)); result = automaton_words ps }

-- the conditions of a search over the set in the array ws and the array of its automaton
abbrev pub search_conditions : List ℕ → List ℕ → Conditions
search_conditions ws automaton = set_conditions ws ++ ((7, not (begins automaton (automaton_words (patterns_of ws)))) ∷ [])

-- ---- a call of the stream search: set, automaton, state, values, hit array and second array.
-- Document 02, 2.7

-- the second array has less than one word for two of the hit array
abbrev pub is_short : List ℕ → List ℤ → Bool
is_short out rises = ltb (2 * length rises) (length out)

-- 1 for ended and 0 for full; values taken, hits and attempts
abbrev pub Counts : Type 0
Counts = ℕ × ℕ × ℕ × ℕ

unfoldable pub stream_conditions : List ℕ → List ℕ → SearchState → List ℤ → List ℕ → List ℤ → Conditions
stream_conditions ws automaton st xs out rises =
    let ps = patterns_of ws in
    search_conditions ws automaton ++
    ((8, not (good_state ps st)) ∷ (9, ltb 1048576 (st.taken + length xs)) ∷ (10, ltb (length out) (2 * length ps) || is_short out rises) ∷ [])

-- what an accepted one does
abbrev pub stream_call : List ℕ → SearchState → List ℤ → List ℕ → Called Position
stream_call ws st xs out = call (patterns_of ws) (position_of st) (length out) xs

-- what a call writes, by what an accepted one does: the hits to the hit array, the rises to the
-- second array
abbrev pub stream_writes : {A : Type 0} → (Called Position → List A) → List ℕ → List ℕ → SearchState → List ℤ → List ℕ → List ℤ → Entry Counts A
stream_writes written ws automaton st xs out rises =
    let c = stream_call ws st xs out in
    let cs = stream_conditions ws automaton st xs out rises in
    record { conditions = cs; counts = (c.ended, c.taken, length c.hits, c.attempts); result = written c }

abbrev pub stream_entry : List ℕ → List ℕ → SearchState → List ℤ → List ℕ → List ℤ → Entry Counts ℕ
stream_entry ws automaton st xs out rises = stream_writes (λ c. hit_words c.hits) ws automaton st xs out rises

abbrev pub stream_rises : List ℕ → List ℕ → SearchState → List ℤ → List ℕ → List ℤ → Entry Counts ℤ
stream_rises ws automaton st xs out rises = stream_writes (rises_of (patterns_of ws) st xs) ws automaton st xs out rises

-- the state handed back
abbrev pub stream_state : List ℕ → List ℕ → SearchState → List ℤ → List ℕ → List ℤ → SearchState
stream_state ws automaton st xs out rises = unless (first_met (stream_conditions ws automaton st xs out rises))
    (state_after st xs (stream_call ws st xs out)) st

-- ---- the first hit of a text: set, automaton and text. Document 02, 2.5

-- of n values and their hits: 1, the last place and the pattern number of the first, and the values
-- up to and with that place; where there is none, 0 and all values
abbrev pub first_of : ℕ → List (ℕ × ℕ) → ℕ × ℕ × ℕ × ℕ
first_of n [] = (0, 0, 0, n)
first_of n (h ∷ hs) = (1, h.0, h.1, suc h.0)

abbrev pub first_entry : List ℕ → List ℕ → List ℤ → Entry (ℕ × ℕ × ℕ × ℕ) ℕ
first_entry ws automaton text =
    let cs : Conditions = search_conditions ws automaton ++ ((9, ltb 1048576 (length text)) ∷ []) in
    record { conditions = cs; counts = first_of (length text) (hits (patterns_of ws) text); result = [] }

-- ---- a filter search: set, text, hit array and second array

abbrev pub filter_conditions : List ℕ → List ℤ → List ℕ → List ℤ → Conditions
filter_conditions ws text out rises =
    set_conditions ws ++
    ((9, ltb 1048576 (length text)) ∷ (10, is_short out rises) ∷ (11, ltb (length out) (2 * length (hits (patterns_of ws) text))) ∷ [])

-- what it writes, by the hits; hits and candidates are counted
abbrev pub filter_writes : {A : Type 0} → (List (ℕ × ℕ) → List A) → List ℕ → List ℤ → List ℕ → List ℤ → Entry (ℕ × ℕ) A
filter_writes written ws text out rises =
    let hs = hits (patterns_of ws) text in
    record { conditions = filter_conditions ws text out rises; counts = (length hs, candidates (patterns_of ws) text); result = written hs }

abbrev pub filter_entry : List ℕ → List ℤ → List ℕ → List ℤ → Entry (ℕ × ℕ) ℕ
filter_entry ws text out rises = filter_writes hit_words ws text out rises

abbrev pub filter_rises : List ℕ → List ℤ → List ℕ → List ℤ → Entry (ℕ × ℕ) ℤ
filter_rises ws text out rises = filter_writes (map (rise_in (patterns_of ws) text)) ws text out rises
