-- What all definitions are written with: the library's symbols, under their own names and with
-- their own meaning, and a few functions on lists. Operators come from the kit's own prelude.
pub use mathlib.Core.Bool.{Bool, true, false, cond, not}
pub use mathlib.Core.List.{List, [], map, flatten, foldr, Memᴰ}
pub use Rattle.std.specs.Prelude.{ℕ, zero, suc, pred, min, Option, None, Some}
pub use lib.{Dec.{T, eqb, leb, ltb}, IntN.{ℤ, pos, negsuc}, Signed.{le_z, lt_z}, ListN.{length, get_or, take, drop, set, replicate}}
use Rattle.std.specs.Prelude.{◌∷◌, ◌++◌, ◌-◌, ◌&&◌, ◌||◌}

-- are two integers the same; `negsuc n` is -(n + 1)
abbrev pub eq_z : ℤ → ℤ → Bool
eq_z (pos a) (pos b) = eqb a b
eq_z (pos a) (negsuc b) = false
eq_z (negsuc a) (pos b) = false
eq_z (negsuc a) (negsuc b) = eqb a b

-- f 0, f 1, .., f (n - 1)
unfoldable pub tabulate : {A : Type 0} → ℕ → (ℕ → A) → List A
tabulate zero f = []
tabulate (suc n) f = tabulate n f ++ (f n ∷ [])

-- one more than the last place below n that passes the test; 0 where none does
unfoldable pub last_below : (ℕ → Bool) → ℕ → ℕ
last_below test zero = 0
last_below test (suc n) = cond (test n) (suc n) (last_below test n)

-- the last n elements; all of them where there are fewer
abbrev pub last_of : {A : Type 0} → ℕ → List A → List A
last_of n xs = drop (length xs - n) xs

unfoldable pub any : {A : Type 0} → (A → Bool) → List A → Bool
any test [] = false
any test (x ∷ xs) = test x || any test xs

unfoldable pub all : {A : Type 0} → (A → Bool) → List A → Bool
all test [] = true
all test (x ∷ xs) = test x && all test xs

-- the elements that pass the test, in their order
unfoldable pub select : {A : Type 0} → (A → Bool) → List A → List A
select test [] = []
select test (x ∷ xs) = cond (test x) (x ∷ select test xs) (select test xs)

-- are two lists of numbers the same list
unfoldable pub same : List ℕ → List ℕ → Bool
same [] [] = true
same [] (y ∷ ys) = false
same (x ∷ xs) [] = false
same (x ∷ xs) (y ∷ ys) = eqb x y && same xs ys

-- does xs begin with ys
abbrev pub begins : List ℕ → List ℕ → Bool
begins xs ys = same (take (length ys) xs) ys

-- does xs come before ys: by the first differing number, smaller first; a list comes before its
-- continuations
unfoldable pub before : List ℕ → List ℕ → Bool
before [] [] = false
before [] (y ∷ ys) = true
before (x ∷ xs) [] = false
before (x ∷ xs) (y ∷ ys) = ltb x y || (eqb x y && before xs ys)
