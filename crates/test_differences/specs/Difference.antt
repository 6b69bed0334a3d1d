-- What is told of a case: the first thing that differs from what is expected.
use Rattle.std.specs.Prelude.{◌∷◌, ◌&&◌}
use Rattle.std.specs.Option.{option_or}
use Rattle.lists.specs.Prelude.{Bool, true, false, cond, List, [], ℕ, suc, ℤ, pos, eq_z, all, Option, None, Some}
use Rattle.test_differences.specs.declared.difference.Part.{Part}
use Rattle.test_differences.specs.declared.difference.Difference.{Difference}

-- does nothing differ
abbrev pub is_nothing : Option Difference → Bool
is_nothing None = true
is_nothing (Some d) = false

-- a number at a place differs
abbrev pub differs : Part → ℕ → ℤ → ℤ → Option Difference
differs part place expected got = Some (record { part = part; place = place; expected = expected; got = got })

-- a number at a place, against the one expected
unfoldable pub compared : Part → ℕ → ℤ → ℤ → Option Difference
compared part place expected got = cond (eq_z expected got) None (differs part place expected got)

-- a truth as a number
abbrev pub bit : Bool → ℕ
bit true = 1
bit false = 0

-- ---- arrays, from a place on, by the value of their numbers; behind the end of an array it is 0

-- an array, against one that is expected to begin with its numbers
unfoldable pub compared_items : {A : Type 0} → (A → ℤ) → Part → ℕ → List A → List A → Option Difference
compared_items value part i es [] = None
compared_items value part i [] (g ∷ gs) = differs part i (pos 0) (value g)
compared_items value part i (e ∷ es) (g ∷ gs) =
    option_or (compared part i (value e) (value g)) (compared_items value part (suc i) es gs)

-- an array, each number of which is expected to be v
unfoldable pub compared_held : {A : Type 0} → (A → ℤ) → Part → ℕ → A → List A → Option Difference
compared_held value part i v [] = None
compared_held value part i v (g ∷ gs) = option_or (compared part i (value v) (value g)) (compared_held value part (suc i) v gs)

-- an array that is expected to begin with these numbers, and to hold v behind them
unfoldable pub compared_front : {A : Type 0} → (A → ℤ) → Part → ℕ → A → List A → List A → Option Difference
compared_front value part i v [] gs = compared_held value part i v gs
compared_front value part i v (e ∷ es) [] = differs part i (value e) (pos 0)
compared_front value part i v (e ∷ es) (g ∷ gs) =
    option_or (compared part i (value e) (value g)) (compared_front value part (suc i) v es gs)

-- does xs begin with ys, by the value of their numbers
unfoldable pub begins_by : {A : Type 0} → (A → ℤ) → List A → List A → Bool
begins_by value xs [] = true
begins_by value [] (y ∷ ys) = false
begins_by value (x ∷ xs) (y ∷ ys) = eq_z (value x) (value y) && begins_by value xs ys

-- has every number of xs the value of v
abbrev pub all_hold : {A : Type 0} → (A → ℤ) → A → List A → Bool
all_hold value v xs = all (λ x. eq_z (value v) (value x)) xs

-- words
abbrev pub compared_words : List ℕ → List ℕ → Option Difference
compared_words expected got = compared_items pos Part.Word 0 expected got
