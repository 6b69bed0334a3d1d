-- The catalogue of a length: its realizable lists in the order of `before`, each with the next one.
-- Document 02, 2.1: Order is by the first differing distance, smaller first.
use Rattle.std.specs.Prelude.{◌↔◌, ◌&&◌, ◌∷◌, ◌<◌, ◌≡◌}
use Rattle.lists.specs.Prelude.{cond, Option, None, Some, List, [], Memᴰ, map, flatten, foldr, ℕ, zero, suc, T, length, get_or}
use Rattle.lists.specs.Prelude.{tabulate, select, before}
use Rattle.realization.specs.Realization.{Realizable, realizable}

-- all lists of n numbers below m
unfoldable pub lists_below : ℕ → ℕ → List (List ℕ)
lists_below m zero = [] ∷ []
lists_below m (suc n) = flatten (tabulate m (λ d. map (λ ds. d ∷ ds) (lists_below m n)))

-- the realizable lists of its length that come after ds; a distance is at most its place, and so
-- below the length
unfoldable pub later : List ℕ → List (List ℕ)
later ds = select (λ es. realizable es && before ds es) (lists_below (length ds) (length ds))

-- the lesser of two lists
unfoldable pub lesser : List ℕ → List ℕ → List ℕ
lesser ds es = cond (before ds es) ds es

-- the least of some lists, if there are any
unfoldable pub least : List (List ℕ) → Option (List ℕ)
least [] = None
least (x ∷ xs) = Some (foldr lesser x xs)

-- the next list: the least of those that come after it; none after the last one
unfoldable pub next_list : List ℕ → Option (List ℕ)
next_list ds = least (later ds)

-- ls are the realizable lists of n distances: exactly these, and each before all that follow, so
-- that none is there twice
pub record IsCatalogue (n : ℕ) (ls : List (List ℕ)) : Type 0 where
  pub exactly : (ds : List ℕ) → Memᴰ ds ls ↔ (Realizable ds × (length ds ≡ n))
  pub rising : (i k : ℕ) → i < k → k < length ls → T (before (get_or ls i []) (get_or ls k []))
