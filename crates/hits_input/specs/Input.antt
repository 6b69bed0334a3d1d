-- What the program `hits` reads: a line per pattern, an empty line, one line of the text. Document
-- 01: Program `hits`. The bytes are 10 for the newline, 32 for the space, 45 for the minus sign and
-- 48 to 57 for the digits.
use Rattle.std.specs.Prelude.{◌&&◌, ◌∷◌, ◌+◌, ◌-◌, ◌*◌}
use Rattle.std.specs.List.{slice_split}
use Rattle.lists.specs.Prelude.{Bool, cond, Option, None, Some, List, [], map, flatten, ℕ, zero, suc, eqb, leb, ℤ, pos, length, get_or}
use Rattle.lists.specs.Prelude.{negsuc, all}

-- what is made of it, if it is there
abbrev pub and_then : {A B : Type 0} → Option A → (A → Option B) → Option B
and_then None f = None
and_then (Some a) f = f a

-- it, if the test holds
abbrev pub when : {A : Type 0} → Bool → Option A → Option A
when b o = cond b o None

-- bytes cut at each separator: one part more than there are separators
unfoldable pub parts : ℕ → List ℕ → List (List ℕ)
parts sep bs = slice_split (λ b. eqb b sep) bs

-- the number that digits tell, behind those that tell n
unfoldable pub decimal : ℕ → List ℕ → ℕ
decimal n [] = n
decimal n (d ∷ ds) = decimal (n * 10 + (d - 48)) ds

-- some digits that tell at most the limit
unfoldable pub are_digits : ℕ → List ℕ → Bool
are_digits limit ds = leb 1 (length ds) && all (λ d. leb 48 d && leb d 57) ds && leb (decimal 0 ds) limit

abbrev pub negative : ℕ → ℤ
negative zero = pos 0
negative (suc n) = negsuc n

-- a number: digits with at most one minus sign before them, in the signed 32-bit range
unfoldable pub read_number : List ℕ → Option ℤ
read_number [] = None
read_number (b ∷ bs) =
    cond (eqb b 45) (when (are_digits 2147483648 bs) (Some (negative (decimal 0 bs)))) (when (are_digits 2147483647 (b ∷ bs)) (Some (pos (decimal 0 (b ∷ bs)))))

-- all of them, if none is missing
unfoldable pub gather : {A : Type 0} → List (Option A) → Option (List A)
gather [] = Some []
gather (o ∷ os) = and_then o (λ a. and_then (gather os) (λ rest. Some (a ∷ rest)))

-- a line: numbers with one space between; the empty line has none
unfoldable pub read_line : List ℕ → Option (List ℤ)
read_line [] = Some []
read_line (b ∷ bs) = gather (map read_number (parts 32 (b ∷ bs)))

-- the patterns' values, and the text
pub record Input : Type 0 where
  pub patterns : List (List ℤ)
  pub text : List ℤ

-- lines up to an empty one are patterns, the one behind it is the text, and behind that line's end
-- there is nothing
unfoldable pub read_lines : List (List ℕ) → Option Input
read_lines [] = None
read_lines ([] ∷ ls) =
    when (eqb (length ls) 2 && eqb (length (get_or ls 1 [])) 0) (and_then (read_line (get_or ls 0 [])) (λ xs. Some (record { patterns = []; text = xs })))
read_lines ((b ∷ bs) ∷ ls) =
    and_then (read_line (b ∷ bs)) (λ p. and_then (read_lines ls) (λ i. Some (record { patterns = p ∷ i.patterns; text = i.text })))

-- at most 65,536 bytes, and patterns of at most 1,023 values in all
unfoldable pub read_input : List ℕ → Option Input
read_input bytes =
    when (leb (length bytes) 65536) (and_then (read_lines (parts 10 bytes)) (λ i. when (leb (length (flatten i.patterns)) 1023) (Some i)))
