-- What the program `hits` prints of hits and numbers. Document 01: Program `hits`.
use Rattle.std.specs.Prelude.{◌∷◌, ◌++◌, ◌+◌, ◌/◌, ◌%◌}
use Rattle.lists.specs.Prelude.{cond, List, [], map, flatten, ℕ, zero, suc, ltb, length, get_or}
use Rattle.pattern_set.specs.PatternSet.{PatternSet}

-- a number in decimal, of at most n + 1 digits
unfoldable pub digits_within : ℕ → ℕ → List ℕ
digits_within zero v = (48 + v % 10) ∷ []
digits_within (suc n) v = cond (ltb v 10) ((48 + v) ∷ []) (digits_within n (v / 10) ++ ((48 + v % 10) ∷ []))

-- a number in decimal
abbrev pub digits : ℕ → List ℕ
digits v = digits_within 19 v

-- a line of three numbers
abbrev pub line : ℕ → ℕ → ℕ → List ℕ
line place number size = digits place ++ (32 ∷ digits number) ++ (32 ∷ digits size) ++ (10 ∷ [])

-- the line of a hit: last place, pattern number, pattern length
unfoldable pub hit_line : PatternSet → ℕ × ℕ → List ℕ
hit_line ps h = line h.0 h.1 (length (get_or ps h.1 []))

-- the lines of a batch of hits
unfoldable pub hit_lines : PatternSet → List (ℕ × ℕ) → List ℕ
hit_lines ps hs = flatten (map (hit_line ps) hs)

-- ---- the other lines

-- `end shape length`
abbrev pub header : List ℕ
header = 101 ∷ 110 ∷ 100 ∷ 32 ∷ 115 ∷ 104 ∷ 97 ∷ 112 ∷ 101 ∷ 32 ∷ 108 ∷ 101 ∷ 110 ∷ 103 ∷ 116 ∷ 104 ∷ 10 ∷ []

-- `trials` and the number of attempts
unfoldable pub closing_line : ℕ → List ℕ
closing_line n = (116 ∷ 114 ∷ 105 ∷ 97 ∷ 108 ∷ 115 ∷ 32 ∷ []) ++ (digits n ++ (10 ∷ []))

-- `refused` and the number of the refusal
unfoldable pub refused_line : ℕ → List ℕ
refused_line n = (114 ∷ 101 ∷ 102 ∷ 117 ∷ 115 ∷ 101 ∷ 100 ∷ 32 ∷ []) ++ (digits n ++ (10 ∷ []))

-- `bad input`
abbrev pub bad_line : List ℕ
bad_line = 98 ∷ 97 ∷ 100 ∷ 32 ∷ 105 ∷ 110 ∷ 112 ∷ 117 ∷ 116 ∷ 10 ∷ []
