-- FITS: how much an input can hold, and the front of the arrays that hold it. A caller of
-- `read_input` cites these.
use Rattle.std.specs.Prelude.{◌≡◌, ◌≤◌}
use Rattle.lists.proofs.Prelude.{none-some, ◌∙◌, ap, sym, refl, subst, Bool, true, false, Option, None, Some, same_Some}
use Rattle.lists.proofs.Prelude.{List, flatten, ℕ, ℤ, leb, length, take, drop, take_at}
use Rattle.lists.proofs.Prelude.{take-append_seam, arith, leb-true}
use Rattle.hits_input.specs.declared.InputSize.{InputSize}
use Rattle.hits_input.specs.Input.{when, parts, Input, read_lines, read_input}
use Rattle.hits_input.specs.Read.{ends_of, HasInput, IsRead}
use Rattle.hits_input.specs.Steps.{limited}
use Rattle.hits_input.proofs.Cutting.{weight-parts}
use Rattle.hits_input.proofs.Lines.{lines-Bounds}
use Rattle.hits_input.proofs.Inputs.{length-ends_of}

-- ---- what an input can hold

-- these bytes are an input
record Taken (bytes : List ℕ) (i : Input) : Type 0 where
  few : length bytes ≤ 65536
  lines : read_lines (parts 10 bytes) ≡ Some i
  limit : length (flatten i.patterns) ≤ 1023

taken : (bytes : List ℕ) (i : Input) → read_input bytes ≡ Some i → Taken bytes i
unfolding read_input
taken bytes i e = go (leb (length bytes) 65536) refl (read_lines (parts 10 bytes)) refl e
  where
    last : (j : Input) → length bytes ≤ 65536 → read_lines (parts 10 bytes) ≡ Some j → (t : Bool) → leb (length (flatten j.patterns)) 1023 ≡ t
        → when t (Some j) ≡ Some i → Taken bytes i
    last j h q false p s = absurd (none-some _ s)
    last j h q true p s =
        subst (Taken bytes) (same_Some _ _ s) (record { few = h; lines = q; limit = leb-true (length (flatten j.patterns)) 1023 p })

    go : (t : Bool) → leb (length bytes) 65536 ≡ t → (o : Option Input) → read_lines (parts 10 bytes) ≡ o → when t (limited o) ≡ Some i → Taken bytes i
    go false p o q s = absurd (none-some _ s)
    go true p None q s = absurd (none-some _ s)
    go true p (Some j) q s = last j (leb-true (length bytes) 65536 p) q (leb (length (flatten j.patterns)) 1023) refl s

-- the patterns have at most 1,023 values in all
pub values_fit : (bytes : List ℕ) (i : Input) → read_input bytes ≡ Some i → length (flatten i.patterns) ≤ 1023
values_fit bytes i e = (taken bytes i e).limit

-- there are no more patterns than values
pub patterns_few : (bytes : List ℕ) (i : Input) → read_input bytes ≡ Some i → length i.patterns ≤ length (flatten i.patterns)
patterns_few bytes i e = (lines-Bounds (parts 10 bytes) i (taken bytes i e).lines).few

-- so there are at most 1,023 patterns
pub patterns_fit : (bytes : List ℕ) (i : Input) → read_input bytes ≡ Some i → length i.patterns ≤ 1023
patterns_fit bytes i e = omega (arith, patterns_few bytes i e, values_fit bytes i e)

-- the text has at most 32,768 values
pub text_fits : (bytes : List ℕ) (i : Input) → read_input bytes ≡ Some i → length i.text ≤ 32768
text_fits bytes i e =
    let t = taken bytes i e in
    omega (arith, (lines-Bounds (parts 10 bytes) i t.lines).short, weight-parts 10 bytes, t.few)

-- ---- the arrays that hold an input

-- what a good answer says
pub good_read : (bytes : List ℕ) (values₀ : List ℤ) (ends₀ : List ℕ) (text₀ values : List ℤ) (ends : List ℕ) (text : List ℤ) {parsed : Option InputSize}
    (size : InputSize)
    → parsed ≡ Some size → IsRead bytes values₀ ends₀ text₀ values ends text parsed
    → (i : Input) × ((read_input bytes ≡ Some i) × HasInput i values₀ ends₀ text₀ values ends text size.patterns size.text)
good_read bytes values₀ ends₀ text₀ values ends text size e r = subst (IsRead bytes values₀ ends₀ text₀ values ends text) e r

module _ {i : Input} {values₀ : List ℤ} {ends₀ : List ℕ} {text₀ values : List ℤ} {ends : List ℕ} {text : List ℤ} {k n : ℕ}
    (h : HasInput i values₀ ends₀ text₀ values ends text k n) where
  -- the arrays begin with the patterns' values, where each pattern ends, and the text
  pub front_values : take (length (flatten i.patterns)) values ≡ flatten i.patterns
  front_values = ap (take (length (flatten i.patterns))) h.all_values ∙ take-append_seam (flatten i.patterns) _

  pub front_ends : take k ends ≡ ends_of 0 i.patterns
  front_ends = ap (take k) h.all_ends ∙ take_at (ends_of 0 i.patterns) (drop k ends₀) k (length-ends_of 0 i.patterns ∙ sym h.patterns)

  pub front_text : take n text ≡ i.text
  front_text = ap (take n) h.all_text ∙ take_at i.text (drop n text₀) n (sym h.size)

  -- how many patterns, and values of the text, there can be
  pub count_fits : (bytes : List ℕ) → read_input bytes ≡ Some i → k ≤ 1023
  count_fits bytes e = omega (arith, h.patterns, patterns_fit bytes i e)

  pub size_fits : (bytes : List ℕ) → read_input bytes ≡ Some i → n ≤ 32768
  size_fits bytes e = omega (arith, h.size, text_fits bytes i e)
