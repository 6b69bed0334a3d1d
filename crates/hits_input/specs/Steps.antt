-- What each step of reading finds and leaves, said in the words of Input.antt.
use Rattle.std.specs.Prelude.{◌≡◌, ◌&&◌, ◌∷◌, ◌++◌, ◌≤◌, ◌<◌}
use Rattle.std.specs.Borrow.{Bor}
use Rattle.lists.specs.Prelude.{Option, None, Some, List, [], flatten, ℕ, eqb, leb, ℤ, length, get_or, drop}
use Rattle.hits_input.specs.declared.Parts.{Parts}
use Rattle.hits_input.specs.Input.{and_then, when, parts, read_line, Input, read_lines}
use Rattle.hits_input.specs.Read.{ends_of}

-- the parts of what is left, if anything is
abbrev pub parts_of_rest : ℕ → Option (Bor (List ℕ)) → List (List ℕ)
parts_of_rest sep None = []
parts_of_rest sep (Some rest) = parts sep rest.now

-- the parts that the iterator has still to give
abbrev pub parts_left : Parts → List (List ℕ)
parts_left it = parts_of_rest it.separator it.rest

-- the numbers o are so many and lie at the front of the array, and the rest is as before; or there
-- are none, or more than the array holds
abbrev pub IsPut : Option (List ℤ) → List ℤ → List ℤ → Option ℕ → Type 0
IsPut o before after None = (xs : List ℤ) → o ≡ Some xs → length before < length xs
IsPut o before after (Some n) = (xs : List ℤ) × (o ≡ Some xs) × (n ≡ length xs) × (after ≡ xs ++ drop n before)

-- the input with patterns before its own
abbrev pub behind : List (List ℤ) → Option Input → Option Input
behind ps o = and_then o (λ i. Some (record { patterns = ps ++ i.patterns; text = i.text }))

-- the input, if its patterns have at most 1,023 values in all
abbrev pub limited : Option Input → Option Input
limited o = and_then o (λ i. when (leb (length (flatten i.patterns)) 1023) (Some i))

-- these patterns lie at the front of the arrays, and behind them is what was there before
pub record Lie (ps : List (List ℤ)) (values₀ : List ℤ) (ends₀ : List ℕ) (values : List ℤ) (ends : List ℕ) (count : ℕ) : Type 0 where
  pub counted : count ≡ length ps
  pub fit : length (flatten ps) ≤ 1023
  pub lie_values : values ≡ flatten ps ++ drop (length (flatten ps)) values₀
  pub lie_ends : ends ≡ ends_of 0 ps ++ drop count ends₀

-- the pattern lines are read, up to the empty line; or there is no input
abbrev pub PatternsRead : List (List ℕ) → List ℤ → List ℕ → List ℤ → List ℕ → List (List ℕ) → Option ℕ → Type 0
PatternsRead lines values₀ ends₀ values ends rest None = limited (read_lines lines) ≡ None
PatternsRead lines values₀ ends₀ values ends rest (Some count) =
    (ps : List (List ℤ)) × Lie ps values₀ ends₀ values ends count × (read_lines lines ≡ behind ps (read_lines ([] ∷ rest)))

-- the text's line, which is the last and ends
abbrev pub text_line : List (List ℕ) → Option (List ℤ)
text_line ls = when (eqb (length ls) 2 && eqb (length (get_or ls 1 [])) 0) (read_line (get_or ls 0 []))
