-- LINES: the numbers of a line are put behind each other, one part after the other; and what lines
-- can hold.
use Rattle.std.specs.Prelude.{◌≡◌, ◌&&◌, ◌∷◌, ◌++◌, ◌+◌, ◌*◌, ◌≤◌, ◌<◌}
use Rattle.lists.proofs.Prelude.{none-some, ◌∙◌, ap, sym, refl, subst, Bool, true, false, Option, None, Some, same_Some, List, [], map}
use Rattle.lists.proofs.Prelude.{append-nil, flatten, ℕ, suc, zero-le, ℤ, pos, eqb, length, get_or, drop, set, length-append, append_snoc, arith}
use Rattle.lists.proofs.Parts.{length_snoc, store_behind}
use Rattle.hits_input.specs.Input.{and_then, when, parts, read_number, gather, read_line, Input, read_lines}
use Rattle.hits_input.specs.Steps.{IsPut, behind}
use Rattle.hits_input.proofs.Cutting.{parts_some, weight, weight-parts}
use Rattle.hits_input.proofs.Numbers.{number_not_empty}

-- ---- the loop over the parts of a line

-- the numbers of these parts
abbrev pub numbers : List (List ℕ) → Option (List ℤ)
numbers ps = gather (map read_number ps)

-- n numbers lie at the front of the array, and the line has these and those of the parts left
pub record Filling (line : List ℕ) (left : List (List ℕ)) (before out : List ℤ) (n : ℕ) : Type 0 where
  pub done : List ℤ
  pub count : n ≡ length done
  pub room : n ≤ length before
  pub lies : out ≡ done ++ drop n before
  pub rest : read_line line ≡ and_then (numbers left) (λ xs. Some (done ++ xs))

pub fill_start : (line : List ℕ) (out : List ℤ) → (length line ≡ 0 → ⊥) → Filling line (parts 32 line) out out 0
unfolding read_line
fill_start [] out f = absurd (f refl)
fill_start (b ∷ bs) out f =
    record { done = []; count = refl; room = zero-le; lies = refl; rest = keep (numbers (parts 32 (b ∷ bs))) }
  where
    keep : (o : Option (List ℤ)) → o ≡ and_then o (λ xs. Some ([] ++ xs))
    keep None = refl
    keep (Some xs) = refl

module _ {line part : List ℕ} {left more : List (List ℕ)} {before out : List ℤ} {n : ℕ}
    (w : Filling line left before out n) (e : left ≡ part ∷ more) where
  -- the part is taken off those that are left
  step : read_line line ≡ and_then (and_then (read_number part) (λ z. and_then (numbers more) (λ zs. Some (z ∷ zs)))) (λ xs. Some (w.done ++ xs))
  unfolding gather
  step = w.rest ∙ ap (λ (ps : List (List ℕ)). and_then (numbers ps) (λ xs. Some (w.done ++ xs))) e

  -- it is no number
  pub fill_bad : (after : List ℤ) → None ≡ read_number part → IsPut (read_line line) before after None
  fill_bad after q xs s = absurd (none-some _ (rw (sym q) refl ∙ sym step ∙ s))

  -- there is no room for it
  pub fill_full : (after : List ℤ) → n ≡ length before → IsPut (read_line line) before after None
  fill_full after q xs s = go (read_number part) (numbers more) (sym step ∙ s)
    where
      go : (o : Option ℤ) (r : Option (List ℤ))
          → and_then (and_then o (λ z. and_then r (λ zs. Some (z ∷ zs)))) (λ ys. Some (w.done ++ ys)) ≡ Some xs
          → length before < length xs
      go None r t = absurd (none-some _ t)
      go (Some z) None t = absurd (none-some _ t)
      go (Some z) (Some zs) t =
          let m : length w.done + suc (length zs) ≡ length xs = sym (length-append w.done (z ∷ zs)) ∙ ap length (same_Some _ _ t) in
          omega (arith, w.count)

  -- it is put behind the others
  pub fill_more : (z : ℤ) → Some z ≡ read_number part → n < length out → length out ≡ length before → Filling line more before (set out n z) (n + 1)
  fill_more z q h l =
      record {
        done = w.done ++ (z ∷ []);
        count = omega (arith, length_snoc w.done z, w.count);
        room = omega arith;
        lies =
            ap (λ (x : List ℤ). set x n z) w.lies
            ∙ store_behind (pos 0) w.done before n z (sym w.count) (omega arith);
        rest = step ∙ (rw (sym q) (put (numbers more)));
      }
    where
      put : (r : Option (List ℤ))
          → and_then (and_then r (λ zs. Some (z ∷ zs))) (λ xs. Some (w.done ++ xs)) ≡ and_then r (λ xs. Some ((w.done ++ (z ∷ [])) ++ xs))
      put None = refl
      put (Some ys) = ap Some (sym (append_snoc w.done z ys))

-- no part is left
pub fill_end : {line : List ℕ} {left : List (List ℕ)} {before out : List ℤ} {n : ℕ} → Filling line left before out n → left ≡ []
    → IsPut (read_line line) before out (Some n)
unfolding gather
fill_end w e =
    (w.done, w.rest ∙ (rw e (ap Some (append-nil w.done))), w.count, w.lies)

-- the empty line
pub line_empty : (line : List ℕ) (out : List ℤ) → length line ≡ 0 → IsPut (read_line line) out out (Some 0)
unfolding read_line
line_empty [] out e = ([], refl, refl, refl)
line_empty (b ∷ bs) out e = absurd (omega arith)

-- ---- how many numbers a line can have

gather_short : (ps : List (List ℕ)) (xs : List ℤ) → numbers ps ≡ Some xs → 2 * length xs ≤ weight ps
unfolding gather weight
gather_short [] xs e = let n : 0 ≡ length xs = ap length (same_Some _ _ e) in omega arith
gather_short (p ∷ ps) xs e = go (read_number p) refl (numbers ps) (gather_short ps) e
  where
    go : (o : Option ℤ) → read_number p ≡ o → (r : Option (List ℤ)) → ((ys : List ℤ) → r ≡ Some ys → 2 * length ys ≤ weight ps)
        → and_then o (λ a. and_then r (λ rest. Some (a ∷ rest))) ≡ Some xs → 2 * length xs ≤ suc (length p) + weight ps
    go None q r ih s = absurd (none-some _ s)
    go (Some a) q None ih s = absurd (none-some _ s)
    go (Some a) q (Some ys) ih s =
        let n : suc (length ys) ≡ length xs = ap length (same_Some _ _ s) in
        omega (arith, ih ys refl, number_not_empty p a q)

pub line_short : (line : List ℕ) (xs : List ℤ) → read_line line ≡ Some xs → 2 * length xs ≤ suc (length line)
unfolding read_line
line_short [] xs e = let n : 0 ≡ length xs = ap length (same_Some _ _ e) in omega arith
line_short (b ∷ bs) xs e = omega (arith, gather_short (parts 32 (b ∷ bs)) xs e, weight-parts 32 (b ∷ bs))

gather-some : (ps : List (List ℕ)) (xs : List ℤ) → 1 ≤ length ps → numbers ps ≡ Some xs → 1 ≤ length xs
unfolding gather
gather-some [] xs h e = absurd (omega arith)
gather-some (p ∷ ps) xs h e = go (read_number p) (numbers ps) e
  where
    go : (o : Option ℤ) (r : Option (List ℤ)) → and_then o (λ a. and_then r (λ rest. Some (a ∷ rest))) ≡ Some xs → 1 ≤ length xs
    go None r s = absurd (none-some _ s)
    go (Some a) None s = absurd (none-some _ s)
    go (Some a) (Some ys) s = let n : suc (length ys) ≡ length xs = ap length (same_Some _ _ s) in omega arith

-- a line that is not empty has a number
pub line_some : (line : List ℕ) (xs : List ℤ) → 1 ≤ length line → read_line line ≡ Some xs → 1 ≤ length xs
unfolding read_line
line_some [] xs h e = absurd (omega arith)
line_some (b ∷ bs) xs h e = gather-some (parts 32 (b ∷ bs)) xs (parts_some 32 (b ∷ bs)) e

-- ---- what lines can hold

-- an input that was read from so many bytes
pub record Bounds (size : ℕ) (i : Input) : Type 0 where
  -- each pattern has a value
  pub few : length i.patterns ≤ length (flatten i.patterns)
  -- each value of the text takes two of the bytes
  pub short : 2 * length i.text ≤ size

pub lines-Bounds : (ls : List (List ℕ)) (i : Input) → read_lines ls ≡ Some i → Bounds (weight ls) i
unfolding read_lines weight flatten
lines-Bounds [] i e = absurd (none-some _ e)
lines-Bounds ([] ∷ ls) i e = go (eqb (length ls) 2 && eqb (length (get_or ls 1 [])) 0) (read_line (get_or ls 0 [])) refl e
  where
    first : (ls : List (List ℕ)) → suc (length (get_or ls 0 [])) ≤ 1 + weight ls
    first [] = omega arith
    first (l ∷ ls) = omega arith

    go : (t : Bool) (o : Option (List ℤ)) → read_line (get_or ls 0 []) ≡ o
        → when t (and_then {B = Input} o (λ xs. Some (record { patterns = []; text = xs }))) ≡ Some i → Bounds (1 + weight ls) i
    go false o q s = absurd (none-some _ s)
    go true None q s = absurd (none-some _ s)
    go true (Some xs) q s =
        subst (Bounds (1 + weight ls)) (same_Some _ _ s)
        (record { few = zero-le; short = omega (arith, line_short (get_or ls 0 []) xs q, first ls) })
lines-Bounds ((b ∷ bs) ∷ ls) i e = go (read_line (b ∷ bs)) refl (read_lines ls) (lines-Bounds ls) e
  where
    go : (o : Option (List ℤ)) → read_line (b ∷ bs) ≡ o → (r : Option Input) → ((j : Input) → r ≡ Some j → Bounds (weight ls) j)
        → and_then o (λ p. behind (p ∷ []) r) ≡ Some i → Bounds (suc (suc (length bs)) + weight ls) i
    go None q r ih s = absurd (none-some _ s)
    go (Some p) q None ih s = absurd (none-some _ s)
    go (Some p) q (Some j) ih s =
        let w = ih j refl in
        let n : length (p ++ flatten j.patterns) ≡ length p + length (flatten j.patterns) = length-append p (flatten j.patterns) in
        subst (Bounds (suc (suc (length bs)) + weight ls)) (same_Some _ _ s)
        (record { few = omega (arith, n, w.few, line_some (b ∷ bs) p (omega arith) q); short = omega (arith, w.short) })
