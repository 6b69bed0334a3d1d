-- The starred worked cases of document 01 ('Readings worked through'), as one table: what a
-- definition gives, and what document 01 says that it is.
use Rattle.std.specs.Prelude.{◌≡◌, ◌∷◌}
use Rattle.lists.specs.Prelude.{List, [], map, ℕ, ℤ, pos}
use Rattle.cartesian.specs.Cartesian.{distances}
use Rattle.realization.specs.Realization.{least_realization, failure_lengths}
use Rattle.global_parents.specs.GlobalParents.{global_parents}
use Rattle.ranking.specs.Rank.{rank, unrank}
use Rattle.matching.specs.Matching.{hits, hit_words}
use Rattle.entries.specs.Entries.{told, list_entry, encode_entry, decode_entry}

-- numbers as values
abbrev pub values : List ℕ → List ℤ
values = map pos

-- refusal and count, as a list
abbrev pub both : ℕ × ℕ → List ℕ
both t = t.0 ∷ t.1 ∷ []

-- distances of values given as numbers
abbrev pub of : List ℕ → List ℕ
of xs = distances (values xs)

-- what a definition gives, and what it is
pub record Case : Type 0 where
  pub given : List ℤ
  pub expected : List ℤ

-- a case over words
abbrev pub is : List ℕ → List ℕ → Case
is ws vs = record { given = values ws; expected = values vs }

-- every case of a list holds
abbrev pub AllHold : List Case → Type 0
AllHold [] = Unit {0}
AllHold (c ∷ cs) = (c.given ≡ c.expected) × AllHold cs

unfoldable pub table : List Case
table =
    -- distances; code
    is (of (2 ∷ 7 ∷ 5 ∷ 6 ∷ 4 ∷ 3 ∷ 1 ∷ [])) (0 ∷ 1 ∷ 2 ∷ 1 ∷ 4 ∷ 5 ∷ 0 ∷ [])
    ∷ is (of (11 ∷ 14 ∷ 13 ∷ 15 ∷ 12 ∷ [])) (0 ∷ 1 ∷ 2 ∷ 1 ∷ 4 ∷ [])
    ∷ is (rank (of (11 ∷ 14 ∷ 13 ∷ 15 ∷ 12 ∷ [])) ∷ []) (107 ∷ [])
    ∷ is (both (told 0 (encode_entry (of (11 ∷ 14 ∷ 13 ∷ 15 ∷ 12 ∷ []))))) (0 ∷ 107 ∷ [])
    ∷ is (of (4 ∷ 22 ∷ 3 ∷ 5 ∷ 2 ∷ 23 ∷ 15 ∷ 1 ∷ [])) (0 ∷ 1 ∷ 0 ∷ 1 ∷ 0 ∷ 1 ∷ 2 ∷ 0 ∷ [])
    -- distances, global parents, least values
    ∷ is (of (3 ∷ 1 ∷ 6 ∷ 4 ∷ 8 ∷ 6 ∷ 7 ∷ 5 ∷ 9 ∷ [])) (0 ∷ 0 ∷ 1 ∷ 2 ∷ 1 ∷ 2 ∷ 1 ∷ 4 ∷ 1 ∷ [])
    ∷ is (global_parents (of (3 ∷ 1 ∷ 6 ∷ 4 ∷ 8 ∷ 6 ∷ 7 ∷ 5 ∷ 9 ∷ []))) (1 ∷ 1 ∷ 3 ∷ 1 ∷ 5 ∷ 7 ∷ 5 ∷ 3 ∷ 7 ∷ [])
    ∷ record { given = least_realization (of (3 ∷ 1 ∷ 6 ∷ 4 ∷ 8 ∷ 6 ∷ 7 ∷ 5 ∷ 9 ∷ [])); expected = values (1 ∷ 0 ∷ 1 ∷ 0 ∷ 2 ∷ 1 ∷ 1 ∷ 0 ∷ 0 ∷ []) }
    -- ties
    ∷ is (of (5 ∷ 5 ∷ [])) (0 ∷ 1 ∷ [])
    ∷ is (of (5 ∷ 4 ∷ [])) (0 ∷ 0 ∷ [])
    -- a list that no values have, and one that some have
    ∷ is (both (told 0 (list_entry least_realization (0 ∷ 1 ∷ 2 ∷ 2 ∷ []) (values (7 ∷ 7 ∷ 7 ∷ 7 ∷ []))))) (4 ∷ 0 ∷ [])
    ∷ is (both (told 0 (encode_entry (0 ∷ 1 ∷ 2 ∷ 2 ∷ [])))) (4 ∷ 0 ∷ [])
    ∷ record { given = least_realization (0 ∷ 1 ∷ 2 ∷ 3 ∷ []); expected = values (0 ∷ 2 ∷ 1 ∷ 0 ∷ []) }
    -- codes of length 4
    ∷ is (unrank 4 23) (0 ∷ 1 ∷ 2 ∷ 3 ∷ [])
    ∷ is (both (told 0 (decode_entry 4 23 (7 ∷ 7 ∷ 7 ∷ 7 ∷ [])))) (0 ∷ 4 ∷ [])
    ∷ is (both (told 0 (decode_entry 4 17 (7 ∷ 7 ∷ 7 ∷ 7 ∷ [])))) (4 ∷ 0 ∷ [])
    ∷ is (both (told 0 (decode_entry 4 24 (7 ∷ 7 ∷ 7 ∷ 7 ∷ [])))) (4 ∷ 0 ∷ [])
    -- failure lengths
    ∷ is (failure_lengths (of (5 ∷ 7 ∷ 4 ∷ 6 ∷ 1 ∷ 3 ∷ 2 ∷ []))) (0 ∷ 1 ∷ 1 ∷ 2 ∷ 3 ∷ 4 ∷ 1 ∷ [])
    -- hits: last place and pattern number
    ∷ is (hit_words (hits (of (1 ∷ 4 ∷ 3 ∷ 4 ∷ 1 ∷ []) ∷ []) (values (6 ∷ 1 ∷ 5 ∷ 3 ∷ 6 ∷ 5 ∷ 7 ∷ 4 ∷ 2 ∷ 3 ∷ 1 ∷ [])))) (7 ∷ 0 ∷ [])
    ∷ is
    (hit_words (hits (of (6 ∷ 2 ∷ 5 ∷ 1 ∷ 4 ∷ 3 ∷ 7 ∷ []) ∷ []) (values (41 ∷ 36 ∷ 15 ∷ 8 ∷ 41 ∷ 23 ∷ 28 ∷ 16 ∷ 26 ∷ 22 ∷ 56 ∷ 29 ∷ 12 ∷ 61 ∷ []))))
    (10 ∷ 0 ∷ [])
    ∷ []
