-- The walk through the catalogue of a length: calls of the entry `next_list`, the first over zeros,
-- each later one over the list that the one before wrote, until one answers "last". Document 02,
-- 2.1: The walk must meet each possible list of that length once and then say "last".
use Rattle.std.specs.Prelude.{◌≡◌, ◌∷◌, ◌≤◌, ◌<◌}
use Rattle.lists.specs.Prelude.{List, [], ℕ, length, take, replicate}
use Rattle.catalogue.specs.Catalogue.{IsCatalogue}
use Rattle.entries.specs.Entries.{told, after, next_entry}

-- the calls from ds on meet the lists ls: ds, and unless it is the last those from the list on that
-- the call writes; `lent` is the array of the call over each list
pub data Meets (lent : List ℕ → List ℕ) : List ℕ → List (List ℕ) → Type 0 where
  last : {ds : List ℕ} → told (0, 0) (next_entry ds (lent ds)) ≡ (0, (1, 0)) → Meets lent ds (ds ∷ [])
  more : {ds es : List ℕ} {ls : List (List ℕ)} → told (0, 0) (next_entry ds (lent ds)) ≡ (0, (0, length es))
      → take (length es) (after (next_entry ds (lent ds)) (lent ds)) ≡ es → Meets lent es ls → Meets lent ds (ds ∷ ls)

-- THE WALK, with whatever arrays
pub record Walk (n : ℕ) (lent : List ℕ → List ℕ) : Type 0 where
  -- it comes to an end, if each array has n words
  pub ends : ((ds : List ℕ) → n ≤ length (lent ds)) → (ls : List (List ℕ)) × Meets lent (replicate n 0) ls
  -- and has then met the realizable lists of that length, each once and rising
  pub meets : (ls : List (List ℕ)) → Meets lent (replicate n 0) ls → IsCatalogue n ls

abbrev pub WalkTheorem : Type 0
WalkTheorem = (n : ℕ) → 0 < n → n ≤ 10 → (lent : List ℕ → List ℕ) → Walk n lent
