-- What withdrawing a pattern does, through the entries' definitions. Document 02, 2.3: Withdrawing
-- the shape just added must give back every used word of the set before, and, if shapes remain, the
-- list from a search over a whole recording afterwards must be the old one without that shape's
-- hits, higher numbers one lower.
use Rattle.std.specs.Prelude.{◌≡◌, ◌++◌, ◌<◌}
use Rattle.lists.specs.Prelude.{List, [], map, ℕ, ℤ, T, length, take, drop}
use Rattle.answers.specs.Told.{new_search}
use Rattle.pattern_set.specs.PatternSet.{may_search, set_words, IsSet, patterns_of, without}
use Rattle.matching.specs.Matching.{hits, hit_words, candidates}
use Rattle.matching.specs.Rise.{rise_in}
use Rattle.matching.specs.Withdrawn.{hits_of_others, hits_without}
use Rattle.entries.specs.Entries.{first_met, told, after, check_entry, add_entry, withdraw_entry, filter_conditions, filter_entry, filter_rises}
use Rattle.runs.specs.ReferenceRun.{Call, taken}
use Rattle.runs.specs.Demands.{Admitted, observe, written, risen}

-- the rises over the hits in the text that are not of pattern j
abbrev pub rises_of_others : List ℕ → ℕ → List ℤ → List ℤ
rises_of_others ws j text = map (rise_in (patterns_of ws) text) (hits_of_others j (hits (patterns_of ws) text))

-- what holds where the array was ws and, pattern j withdrawn, is vs
pub record Withdrawn (ws : List ℕ) (j : ℕ) (vs : List ℕ) : Type 0 where
  -- it is a set array, of the other patterns
  pub good : IsSet vs
  pub patterns : patterns_of vs ≡ without j (patterns_of ws)
  -- the hits of every text are the old ones without those of pattern j, higher numbers one lower
  pub list : (text : List ℤ) → hits (patterns_of vs) text ≡ hits_without j (hits (patterns_of ws) text)
  -- and the rises over them are what they were
  pub rises : (text : List ℤ) → map (rise_in (patterns_of vs) text) (hits (patterns_of vs) text) ≡ rises_of_others ws j text
  -- if patterns remain and the set before may be searched, so may this one
  pub searched : 0 < length (patterns_of vs) → T (may_search (patterns_of ws)) → T (may_search (patterns_of vs))
  -- and a filter search that was accepted still is; it tells how many hits these are, and writes
  -- them and these rises
  pub filtered : 0 < length (patterns_of vs) → (text : List ℤ) (out : List ℕ) (second : List ℤ) → first_met (filter_conditions ws text out second) ≡ 0
      → let new = hits_without j (hits (patterns_of ws) text) in
      (told (0, 0) (filter_entry vs text out second) ≡ (0, (length new, candidates (patterns_of vs) text)))
      × (after (filter_entry vs text out second) out ≡ hit_words new ++ drop (length (hit_words new)) out)
      × (after (filter_rises vs text out second) second ≡ rises_of_others ws j text ++ drop (length (rises_of_others ws j text)) second)
  -- where it may be searched, the calls of a stream search write them, whatever text they take
  pub streamed : T (may_search (patterns_of vs)) → (cs : List Call) → Admitted (patterns_of vs) new_search cs
      → let text = taken (patterns_of vs) [] cs in
      let seen = observe (patterns_of vs) new_search cs in
      (written seen ≡ hit_words (hits_without j (hits (patterns_of ws) text))) × (risen seen ≡ rises_of_others ws j text)

-- what holds where the array was ws and is vs once a pattern was added and withdrawn again
abbrev pub GivenBack : List ℕ → List ℕ → Type 0
GivenBack ws vs = let used = length (set_words (patterns_of ws)) in take used vs ≡ take used ws

-- THE WITHDRAWAL THEOREM
pub record WithdrawalTheorem : Type 0 where
  -- of every accepted withdrawal
  pub withdrawn : (ws : List ℕ) (j : ℕ) → first_met (withdraw_entry ws j).conditions ≡ 0 → Withdrawn ws j (after (withdraw_entry ws j) ws)
  -- every accepted add can be taken back: withdrawing the last pattern is accepted, tells the size
  -- of the set before and gives back every word that it used
  pub added : (ws : List ℕ) (xs : List ℤ) → first_met (add_entry ws xs).conditions ≡ 0
      → let more = after (add_entry ws xs) ws in
      let e = withdraw_entry more (length (patterns_of ws)) in
      (told (0, 0) e ≡ told (0, 0) (check_entry ws)) × GivenBack ws (after e more)
