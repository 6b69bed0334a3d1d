-- What reading leaves in the lent arrays: the patterns' values one after the other, where each
-- pattern ends among them, and the text; behind each of these, what the array held before.
use Rattle.std.specs.Prelude.{◌≡◌, ◌∷◌, ◌++◌, ◌+◌}
use Rattle.lists.specs.Prelude.{Option, None, Some, List, [], flatten, ℕ, ℤ, length, drop}
use Rattle.hits_input.specs.declared.InputSize.{InputSize}
use Rattle.hits_input.specs.Input.{Input, read_input}

-- where each pattern ends, counted from n
unfoldable pub ends_of : ℕ → List (List ℤ) → List ℕ
ends_of n [] = []
ends_of n (p ∷ ps) = (n + length p) ∷ ends_of (n + length p) ps

-- the arrays hold this input at their front, and behind it what they held before
pub record HasInput (i : Input) (values₀ : List ℤ) (ends₀ : List ℕ) (text₀ values : List ℤ) (ends : List ℕ) (text : List ℤ) (k n : ℕ) : Type 0 where
  -- so many patterns and values of the text
  pub patterns : k ≡ length i.patterns
  pub size : n ≡ length i.text
  -- the values of the patterns, where each pattern ends, and the text
  pub all_values : values ≡ flatten i.patterns ++ drop (length (flatten i.patterns)) values₀
  pub all_ends : ends ≡ ends_of 0 i.patterns ++ drop k ends₀
  pub all_text : text ≡ i.text ++ drop n text₀

-- the bytes, what the arrays held before, what they hold now, and the answer; where there is no
-- input, the arrays are left free
abbrev pub IsRead : List ℕ → List ℤ → List ℕ → List ℤ → List ℤ → List ℕ → List ℤ → Option InputSize → Type 0
IsRead bytes values₀ ends₀ text₀ values ends text None = read_input bytes ≡ None
IsRead bytes values₀ ends₀ text₀ values ends text (Some size) =
    (i : Input) × ((read_input bytes ≡ Some i) × HasInput i values₀ ends₀ text₀ values ends text size.patterns size.text)
