-- What the passes of a filter search find, and what they leave behind.
use Rattle.std.specs.Prelude.{◌≡◌, ◌+◌, ◌-◌, ◌/◌, ◌%◌, ◌≤◌, ◌<◌}
use Rattle.lists.specs.Prelude.{Bool, List, map, flatten, ℕ, suc, T, ℤ, length, get_or, take, tabulate, select}
use Rattle.bit_sets.specs.BitSets.{bit_at}
use Rattle.pattern_set.specs.PatternSet.{PatternSet}
use Rattle.matching.specs.Matching.{hits_at, shortest, is_candidate}
use Rattle.filter_plan.specs.Plan.{text_fingerprint, is_hit}
use Rattle.filter_tables.specs.Tables.{ranked}
use Rattle.filter_windows.specs.Looks.{Since, SetOf}

-- ---- marks: a bit for each block of 64 places

abbrev pub is_marked : List ℕ → ℕ → Bool
is_marked marks block = bit_at (get_or marks (block / 64) 0) (block % 64)

-- the block of each of the first n places at which a pattern has a hit is marked
abbrev pub HitsMarked : PatternSet → List ℤ → List ℕ → ℕ → Type 0
HitsMarked ps text marks n = (p : ℕ) → p < n → (r : ℕ) → r < length ps → T (is_hit (take (suc p) text) (ranked ps r)) → T (is_marked marks (p / 64))

-- the marks after a look at place p that found a set: no mark is lost, and the block of p is marked
-- if the set is not empty
pub record MarkedIf (before after : List ℕ) (p found : ℕ) : Type 0 where
  pub size : length after ≡ length before
  pub none_lost : (block : ℕ) → T (is_marked before block) → T (is_marked after block)
  pub marked : (r : ℕ) → r < 64 → T (bit_at found r) → T (is_marked after (p / 64))

-- ---- places

-- a pass stands before place p: own is the fingerprint of the last 17 values up to p, where the
-- text has it, and the samples before p begin at the place begin
abbrev pub Stands : List ℤ → ℕ → ℕ → ℕ → Type 0
Stands text p own begin = (p ≤ length text) × (p < length text → own ≡ text_fingerprint 17 (take (suc p) text)) × Since text p begin

-- the places from p on to before q have no candidates
abbrev pub NoneFrom : PatternSet → List ℤ → ℕ → ℕ → Type 0
NoneFrom ps text p q = (i : ℕ) → p ≤ i → i < q → SetOf ps (is_candidate (shortest 17 ps) (take (suc i) text)) 0

-- ---- counts and lists

-- the candidates with last place below n
abbrev pub candidates_below : PatternSet → List ℤ → ℕ → ℕ
candidates_below ps text n = length (flatten (tabulate n (λ p. select (is_candidate (shortest 17 ps) (take (suc p) text)) ps)))

-- the hits with one of the n last places from a on
unfoldable pub hits_from : PatternSet → List ℤ → ℕ → ℕ → List (ℕ × ℕ)
hits_from ps text a n = flatten (tabulate n (λ i. hits_at ps text (a + i)))

-- the hits with last place a or later
abbrev pub rest_hits : PatternSet → List ℤ → ℕ → List (ℕ × ℕ)
rest_hits ps text a = hits_from ps text a (length text - a)

-- the hits of the patterns of these ranks at place p
unfoldable pub rank_hits : List ℕ → ℕ → List ℕ → List (ℕ × ℕ)
rank_hits numbers p ranks = map (λ r. (p, get_or numbers r 0)) ranks

-- the hits of the patterns with these numbers at place p
unfoldable pub place_hits : ℕ → List ℕ → List (ℕ × ℕ)
place_hits p numbers = map (λ j. (p, j)) numbers
