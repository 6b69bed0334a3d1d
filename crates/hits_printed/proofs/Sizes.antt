-- How much an input holds: at most 1,023 values of patterns, and a text that any search takes.
use Rattle.std.specs.Prelude.{◌≡◌, ◌&&◌, ◌∷◌, ◌+◌, ◌≤◌}
use Rattle.lists.proofs.Prelude.{ap, refl, subst, Bool, true, false, Option, None, Some, none-some, same_Some, List, []}
use Rattle.lists.proofs.Prelude.{flatten, ℕ, suc, ℤ, eqb, leb, leb-true, length, get_or, arith}
use Rattle.hits_input.specs.Input.{and_then, when, parts, read_line, Input, read_lines, read_input}
use Rattle.hits_input.proofs.Cutting.{weight, weight-parts}
use Rattle.hits_input.proofs.Lines.{line_short}

-- a line is no longer than all of them
first_weight : (ls : List (List ℕ)) → length (get_or ls 0 []) ≤ weight ls
unfolding weight
first_weight [] = omega arith
first_weight (l ∷ ls) = omega arith

text_short : (ls : List (List ℕ)) (i : Input) → read_lines ls ≡ Some i → length i.text ≤ weight ls
unfolding read_lines weight
text_short [] i e = absurd (none-some _ e)
text_short ([] ∷ ls) i e = go (eqb (length ls) 2 && eqb (length (get_or ls 1 [])) 0) (read_line (get_or ls 0 [])) refl e
  where
    go : (b : Bool) (o : Option (List ℤ)) → read_line (get_or ls 0 []) ≡ o → when b (and_then o (λ xs. Some (record { patterns = []; text = xs }))) ≡ Some i
        → length i.text ≤ 1 + weight ls
    go false o q s = absurd (none-some _ s)
    go true None q s = absurd (none-some _ s)
    go true (Some xs) q s =
        let n : length xs ≡ length i.text = ap (λ (j : Input). length j.text) (same_Some _ _ s) in
        omega (arith, line_short (get_or ls 0 []) xs q, first_weight ls)
text_short ((b ∷ bs) ∷ ls) i e = go (read_line (b ∷ bs)) (read_lines ls) (text_short ls) e
  where
    go : (o : Option (List ℤ)) (r : Option Input) → ((j : Input) → r ≡ Some j → length j.text ≤ weight ls)
        → and_then o (λ p. and_then r (λ j. Some (record { patterns = p ∷ j.patterns; text = j.text }))) ≡ Some i
        → length i.text ≤ suc (length (b ∷ bs)) + weight ls
    go None r ih s = absurd (none-some _ s)
    go (Some p) None ih s = absurd (none-some _ s)
    go (Some p) (Some j) ih s =
        let n : length j.text ≡ length i.text = ap (λ (k : Input). length k.text) (same_Some _ _ s) in
        omega (arith, ih j refl)

pub record Sized (i : Input) : Type 0 where
  pub patterns : length (flatten i.patterns) ≤ 1023
  pub text : length i.text ≤ 65537

pub input-Sized : (bytes : List ℕ) (i : Input) → read_input bytes ≡ Some i → Sized i
unfolding read_input
input-Sized bytes i e = go (leb (length bytes) 65536) refl (read_lines (parts 10 bytes)) refl e
  where
    last : (j : Input) (b : Bool) → read_lines (parts 10 bytes) ≡ Some j → leb (length (flatten j.patterns)) 1023 ≡ b → length bytes ≤ 65536
        → when b (Some j) ≡ Some i → Sized i
    last j false q f l s = absurd (none-some _ s)
    last j true q f l s =
        subst Sized (same_Some _ _ s)
        (record {
          patterns = leb-true (length (flatten j.patterns)) 1023 f;
          text = omega (arith, text_short (parts 10 bytes) j q, weight-parts 10 bytes);
        })

    go : (b : Bool) → leb (length bytes) 65536 ≡ b → (o : Option Input) → read_lines (parts 10 bytes) ≡ o
        → when b (and_then o (λ i. when (leb (length (flatten i.patterns)) 1023) (Some i))) ≡ Some i → Sized i
    go false f o q s = absurd (none-some _ s)
    go true f None q s = absurd (none-some _ s)
    go true f (Some j) q s = last j (leb (length (flatten j.patterns)) 1023) q refl (leb-true (length bytes) 65536 f) s
