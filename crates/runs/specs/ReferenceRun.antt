-- The reference run of a list of stream search calls: what document 01's run book says of them,
-- from the text alone and by trees of windows. It shares no rule with the search. The automaton's
-- words stand in refusal 7 and nowhere else. Document 01: A run of ladder searches; Run book;
-- Trials. Document 02, 2.2 and 2.7.
use Rattle.std.specs.Prelude.{◌&&◌, ◌||◌, ◌∷◌, ◌++◌, ◌+◌, ◌-◌, ◌*◌, ◌%◌}
use Rattle.lists.specs.Prelude.{Bool, cond, not, Option, None, Some, List, [], map, ℕ, suc, pred, eqb, leb, ltb}
use Rattle.lists.specs.Prelude.{ℤ, pos, le_z}
use Rattle.lists.specs.Prelude.{length, get_or, drop, tabulate, last_below, last_of, all, select, begins}
use Rattle.gaps.specs.Gaps.{is_gap, holds_gap}
use Rattle.pattern_set.specs.PatternSet.{PatternSet, set_words}
use Rattle.matching.specs.Matching.{last_hits, hits, hit_words, head_tree}
use Rattle.matching.specs.Rise.{rise_in}
use Rattle.automaton_model.specs.Automaton.{automaton_words}

-- what a caller lends
pub record Call : Type 0 where
  pub set : List ℕ
  pub automaton : List ℕ
  pub values : List ℤ
  pub hits : List ℕ
  pub rises : List ℤ

-- what is seen of a call
pub record Seen : Type 0 where
  -- what it tells: its refusal, or 0; and 1 where it ended and 0 where it is full, values taken,
  -- hits and attempts. Where it is lent another set, only that it is refused
  pub tells : Option (ℕ × (ℕ × ℕ × ℕ × ℕ))
  -- its hit array and its second array afterwards
  pub leaves : List ℕ
  pub rises : List ℤ

-- ---- attempts

-- of the value x after the text: the longest suffix of the text that has the tree of some head, and
-- has so with the value added behind it
unfoldable pub longest_extended : PatternSet → List ℤ → ℤ → ℕ
longest_extended ps text x = pred (last_below (λ n. head_tree ps (last_of n text) && head_tree ps (last_of n text ++ (x ∷ []))) (suc (length text)))

-- one for it and for every longer suffix that has the tree of some head; a gap makes none
unfoldable pub attempts : PatternSet → List ℤ → ℤ → ℕ
attempts ps text x =
    cond (is_gap x) 0
    (length (select (λ n. leb (longest_extended ps text x) n && head_tree ps (last_of n text)) (tabulate (suc (length text)) (λ n. n))))

-- of values that go to the end of the text one after the other
unfoldable pub attempts_on : PatternSet → List ℤ → List ℤ → ℕ
attempts_on ps text [] = 0
attempts_on ps text (x ∷ xs) = attempts ps text x + attempts_on ps (text ++ (x ∷ [])) xs

-- ---- one call, after the text

-- it is lent the set
abbrev pub is_lent : PatternSet → Call → Bool
is_lent ps c = begins c.set (set_words ps)

-- its refusal, where it is lent the set; 0 where it is accepted. 9 counts from the text. 8 never
-- holds, and 1, 5 and 15 do not of a set that may be searched
unfoldable pub refusal_of : PatternSet → List ℤ → Call → ℕ
refusal_of ps text c =
    cond (not (begins c.automaton (automaton_words ps))) 7
    (cond (ltb 1048576 (length text + length c.values)) 9
    (cond (ltb (length c.hits) (2 * length ps) || ltb (2 * length c.rises) (length c.hits)) 10 0))

-- the values that an accepted call takes: while it has values left and two words a pattern are
-- free, the next value goes to the end of the text, and each hit that ends there uses two words
unfoldable pub taking : PatternSet → List ℤ → ℕ → List ℤ → List ℤ
taking ps text free [] = []
taking ps text free (x ∷ xs) =
    let next = text ++ (x ∷ []) in
    cond (leb (2 * length ps) free) (x ∷ taking ps next (free - 2 * length (last_hits ps next)) xs) []

-- the values that a call adds to the text: a refused one adds none, an accepted one has its whole
-- hit array free
unfoldable pub added : PatternSet → List ℤ → Call → List ℤ
added ps text c = cond (is_lent ps c && eqb (refusal_of ps text c) 0) (taking ps text (length c.hits) c.values) []

-- the hits that fall on values that go to the end of the text, in the order of all hits
unfoldable pub hits_on : PatternSet → List ℤ → List ℤ → List (ℕ × ℕ)
hits_on ps text xs = select (λ h. leb (length text) h.0) (hits ps (text ++ xs))

-- what is seen of it: with no values left it is ended, else full; it tells how many values it added
-- and how many hits and attempts fall on them, and writes those hits and the rises over them
unfoldable pub seen_of : PatternSet → List ℤ → Call → Seen
seen_of ps text c =
    let n = refusal_of ps text c in
    let xs = added ps text c in
    let hs = hits_on ps text xs in
    let ended : ℕ = cond (eqb n 0 && eqb (length xs) (length c.values)) 1 0 in
    let told : Option (ℕ × (ℕ × ℕ × ℕ × ℕ)) = cond (is_lent ps c) (Some (n, (ended, length xs, length hs, attempts_on ps text xs))) None in
    let array = hit_words hs ++ drop (length (hit_words hs)) c.hits in
    record { tells = told; leaves = array; rises = map (rise_in ps (text ++ xs)) hs ++ drop (length hs) c.rises }

-- ---- all calls

-- what is seen of each call, from a text on
unfoldable pub reference : PatternSet → List ℤ → List Call → List Seen
reference ps text [] = []
reference ps text (c ∷ cs) = seen_of ps text c ∷ reference ps (text ++ added ps text c) cs

-- the text after all calls
unfoldable pub taken : PatternSet → List ℤ → List Call → List ℤ
taken ps text [] = text
taken ps text (c ∷ cs) = taken ps (text ++ added ps text c) cs

-- ---- what the state of a search over a text holds, from the text alone

-- the length of the longest suffix of the text that has the tree of some head
unfoldable pub longest_head : PatternSet → List ℤ → ℕ
longest_head ps text = pred (last_below (λ m. head_tree ps (last_of m text)) (suc (length text)))

-- no value from place i on is a gap, and no later one is smaller
unfoldable pub is_open : List ℤ → ℕ → Bool
is_open text i = not (holds_gap (drop i text)) && all (λ j. leb j i || le_z (get_or text i (pos 0)) (get_or text j (pos 0))) (tabulate (length text) (λ j. j))

-- the open minima among the last 256
unfoldable pub open_places : List ℤ → List ℕ
open_places text = select (λ i. leb (length text) (i + 256) && is_open text i) (tabulate (length text) (λ i. i))

-- the values kept: in slot s that of the last place that is s modulo 256; 0 where there is none
unfoldable pub recent_of : List ℤ → List ℤ
recent_of text = tabulate 256 (λ s. get_or (pos 0 ∷ text) (last_below (λ p. eqb (p % 256) s) (length text)) (pos 0))
