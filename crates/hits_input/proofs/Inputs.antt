-- INPUTS: the lines are read one after the other: patterns up to an empty line, then the text,
-- which is the last line and ends.
use Rattle.std.specs.Prelude.{◌≡◌, ◌∷◌, ◌++◌, ◌+◌, ◌-◌, ◌≤◌, ◌<◌, ◌&&◌}
use Rattle.lists.proofs.Prelude.{◌∙◌, ap, sym, refl, ap₂, Bool, true, false, Option, None, Some, List, [], append-nil, flatten, ℕ, suc}
use Rattle.lists.proofs.Prelude.{ℤ, eqb, length, get_or, take, drop, set, length-append, length-drop, length-set, length-take, append_snoc, append_assoc, arith}
use Rattle.lists.proofs.Prelude.{drop_of_length-le, drop-drop, take_all, take-append_seam, drop-append_seam, le-leb, lt-leb}
use borrow.Rule.Slice.PartMut.{same_len_mid}
use Rattle.lists.proofs.Parts.{length_snoc, store_behind}
use Rattle.lists.proofs.Rows.{flatten-append}
use Rattle.hits_input.specs.Input.{and_then, when, parts, read_line, Input, read_lines, read_input}
use Rattle.hits_input.specs.Read.{ends_of, IsRead}
use Rattle.hits_input.specs.Steps.{IsPut, behind, limited, Lie, PatternsRead, text_line}
use Rattle.hits_input.proofs.Cutting.{weight-parts}
use Rattle.hits_input.proofs.Lines.{line_some, lines-Bounds}

-- ---- lines of the definition

line_step : (p : List ℕ) (ls : List (List ℕ)) → 1 ≤ length p → read_lines (p ∷ ls) ≡ and_then (read_line p) (λ x. behind (x ∷ []) (read_lines ls))
unfolding read_lines
line_step [] ls h = absurd (omega arith)
line_step (b ∷ bs) ls h = refl

line_none : (p : List ℕ) (ls : List (List ℕ)) → length p ≡ 0 → p ∷ ls ≡ [] ∷ ls
line_none [] ls e = refl
line_none (b ∷ bs) ls e = absurd (omega arith)

behind_none : (o : Option Input) → o ≡ behind [] o
behind_none None = refl
behind_none (Some i) = refl

behind_snoc : (ps : List (List ℤ)) (x : List ℤ) (o : Option Input) → behind ps (behind (x ∷ []) o) ≡ behind (ps ++ (x ∷ [])) o
behind_snoc ps x None = refl
behind_snoc ps x (Some i) = ap (λ (l : List (List ℤ)). Some (record { patterns = l; text = i.text })) (sym (append_snoc ps x i.patterns))

-- ---- where patterns end

pub length-ends_of : (n : ℕ) (ps : List (List ℤ)) → length (ends_of n ps) ≡ length ps
unfolding ends_of
length-ends_of n [] = refl
length-ends_of n (p ∷ ps) = ap suc (length-ends_of (n + length p) ps)

ends_of_snoc : (n : ℕ) (ps : List (List ℤ)) (x : List ℤ) → ends_of n (ps ++ (x ∷ [])) ≡ ends_of n ps ++ ((n + length (flatten ps) + length x) ∷ [])
unfolding ends_of flatten
ends_of_snoc n [] x = ap (λ (k : ℕ). (k + length x) ∷ []) (let z : n ≡ n + 0 = omega arith in z)
ends_of_snoc n (p ∷ ps) x =
    let k : n + length p + length (flatten ps) + length x ≡ n + length (p ++ flatten ps) + length x = rw length-append (omega arith) in
    ap (λ (l : List ℕ). (n + length p) ∷ l) (ends_of_snoc (n + length p) ps x ∙ ap (λ (m : ℕ). ends_of (n + length p) ps ++ (m ∷ [])) k)

-- ---- an array

-- a list x is put at the front of the part behind f, which fills the array d
written_behind : {A : Type 0} (f x d w y : List A) (a n k : ℕ) → a ≡ length f → n ≡ length x → k ≡ length w - a → w ≡ f ++ drop (length f) d
    → y ≡ x ++ drop n (take k (drop a w)) → take a w ++ (y ++ drop k (drop a w)) ≡ (f ++ x) ++ drop (length (f ++ x)) d
written_behind {A} f x d w y a n k p q t e h =
    let front : take a w ≡ f = ap₂ take p e ∙ take-append_seam f (drop (length f) d) in
    let rest : drop a w ≡ drop (length f) d = ap₂ drop p e ∙ drop-append_seam f (drop (length f) d) in
    let l : length (drop a w) ≤ k = simp length-drop (omega arith) in
    let m : length f + n ≡ length (f ++ x) = omega (arith, length-append f x) in
    rw (drop_of_length-le (drop a w) {i = k} l, append-nil, h, take_all k (drop a w) l, front, rest, drop-drop n (length f) d, m)
    (sym (append_assoc f x (drop (length (f ++ x)) d)))

-- ---- the loop over the pattern lines

-- the lines are the patterns that are read, and the lines left
pub record Reading (lines left : List (List ℕ)) (values₀ : List ℤ) (ends₀ : List ℕ) (values : List ℤ) (ends : List ℕ) (count filled : ℕ) : Type 0 where
  -- the arrays have their lengths
  pub sized_values : length values ≡ 1023
  pub sized_ends : length ends ≡ 1023
  -- the patterns that are read, and that they lie in the arrays
  pub ps : List (List ℤ)
  pub lie : Lie ps values₀ ends₀ values ends count
  -- `filled` is where their values end
  pub filled_by : filled ≡ length (flatten ps)
  -- each of them has a value
  pub few : count ≤ filled
  -- the input is these patterns and what the lines left hold
  pub rest : read_lines lines ≡ behind ps (read_lines left)

pub lines_start : (lines : List (List ℕ)) (values : List ℤ) (ends : List ℕ) → length values ≡ 1023 → length ends ≡ 1023
    → Reading lines lines values ends values ends 0 0
unfolding flatten ends_of
lines_start lines values ends h k =
    record {
      sized_values = h;
      sized_ends = k;
      ps = [];
      lie = record { counted = refl; fit = omega arith; lie_values = refl; lie_ends = refl };
      filled_by = refl;
      few = omega arith;
      rest = behind_none (read_lines lines);
    }

-- no line is left
pub lines_over : {lines left : List (List ℕ)} {values₀ values : List ℤ} {ends₀ ends : List ℕ} {count filled : ℕ}
    → Reading lines left values₀ ends₀ values ends count filled → left ≡ [] → limited (read_lines lines) ≡ None
unfolding read_lines
lines_over w e = ap limited (w.rest ∙ ap (λ (ls : List (List ℕ)). behind w.ps (read_lines ls)) e)

module _ {lines left more : List (List ℕ)} {values₀ values : List ℤ} {ends₀ ends : List ℕ} {count filled : ℕ} {line : List ℕ}
    (w : Reading lines left values₀ ends₀ values ends count filled) (e : left ≡ line ∷ more) where
  -- the line is empty
  pub lines_empty : length line ≡ 0 → PatternsRead lines values₀ ends₀ values ends more (Some count)
  lines_empty h = (w.ps, w.lie, w.rest ∙ ap (λ (ls : List (List ℕ)). behind w.ps (read_lines ls)) (e ∙ line_none line more h))

  module _ (h : 0 < length line) where
    -- it is taken off the lines left
    line_off : read_lines lines ≡ behind w.ps (and_then (read_line line) (λ x. behind (x ∷ []) (read_lines more)))
    line_off = w.rest ∙ ap (λ (ls : List (List ℕ)). behind w.ps (read_lines ls)) e ∙ ap (behind w.ps) (line_step line more h)

    module _ (after : List ℤ) where
      -- it is bad or has no room
      pub lines_bad : IsPut (read_line line) (take (1023 - filled) (drop filled values)) after None → limited (read_lines lines) ≡ None
      unfolding flatten
      lines_bad p = ap limited line_off ∙ go (read_line line) p (read_lines more)
        where
          room : length (take (1023 - filled) (drop filled values)) ≡ 1023 - filled
          room = rw (length-take, length-drop) (omega (arith, w.sized_values))

          go : (o : Option (List ℤ)) → ((xs : List ℤ) → o ≡ Some xs → length (take (1023 - filled) (drop filled values)) < length xs) → (i : Option Input)
              → limited (behind w.ps (and_then o (λ x. behind (x ∷ []) i))) ≡ None
          go None q i = refl
          go (Some x) q None = refl
          go (Some x) q (Some i) =
              let m : length (flatten (w.ps ++ (x ∷ i.patterns))) ≡ length (flatten w.ps) + (length x + length (flatten i.patterns)) =
              rw (flatten-append, length-append, length-append) refl in
              rw (lt-leb (length (flatten (w.ps ++ (x ∷ i.patterns)))) 1023 (omega (arith, m, q x refl, room, w.filled_by))) refl

      module _ (n : ℕ) (l : length after ≡ length (take (1023 - filled) (drop filled values)))
          (p : IsPut (read_line line) (take (1023 - filled) (drop filled values)) after (Some n)) where
        -- there is room for its values, and for where it ends
        pub lines_room : (filled + n ≤ 1023) × (count < filled + n)
        lines_room =
            let some = line_some line p.0 h p.1 in
            let m = ap length p.3 ∙ length-append p.0 (drop n (take (1023 - filled) (drop filled values))) in
            let k : length (take (1023 - filled) (drop filled values)) ≡ 1023 - filled = rw (length-take, length-drop) (omega (arith, w.sized_values)) in
            (omega (arith, w.filled_by, w.lie.fit, p.2, l, m, k), omega (arith, w.few, p.2, some))

        -- it is read
        pub lines_more :
            Reading lines more values₀ ends₀ (take filled values ++ (after ++ drop (1023 - filled) (drop filled values)))
            (set ends count (filled + n)) (count + 1) (filled + n)
        unfolding flatten
        lines_more =
            let x = p.0 in
            let fl : flatten (w.ps ++ (x ∷ [])) ≡ flatten w.ps ++ x =
            flatten-append w.ps (x ∷ []) ∙ ap (λ (m : List ℤ). flatten w.ps ++ m) (append-nil x) in
            let ff : filled + n ≡ length (flatten (w.ps ++ (x ∷ []))) = omega (arith, w.filled_by, p.2, ap length fl, length-append (flatten w.ps) x) in
            let counted : length (ends_of 0 w.ps) ≡ count = length-ends_of 0 w.ps ∙ sym w.lie.counted in
            let room : length ends ≡ length (ends_of 0 w.ps) + length (drop count ends₀) =
            ap length w.lie.lie_ends ∙ length-append (ends_of 0 w.ps) (drop count ends₀) in
            record {
              sized_values = same_len_mid filled (1023 - filled) values after l ∙ w.sized_values;
              sized_ends = length-set ends count (filled + n) ∙ w.sized_ends;
              ps = w.ps ++ (x ∷ []);
              lie = record {
                counted = omega (arith, w.lie.counted, length_snoc w.ps x);
                fit = omega (arith, ff, lines_room.0);
                lie_values =
                    written_behind (flatten w.ps) x values₀ values after filled n (1023 - filled) w.filled_by p.2 (omega (arith, w.sized_values))
                    w.lie.lie_values p.3
                    ∙ ap (λ (m : List ℤ). m ++ drop (length m) values₀) (sym fl);
                lie_ends =
                    ap (λ (m : List ℕ). set m count (filled + n)) w.lie.lie_ends
                    ∙ store_behind 0 (ends_of 0 w.ps) ends₀ count (filled + n) counted
                    (omega (arith, room, counted, w.sized_ends, lines_room, length-drop count ends₀))
                    ∙ ap (λ (m : List ℕ). m ++ drop (count + 1) ends₀)
                    (ap (λ (k : ℕ). ends_of 0 w.ps ++ (k ∷ [])) (omega (arith, w.filled_by, p.2)) ∙ sym (ends_of_snoc 0 w.ps x));
              };
              filled_by = ff;
              few = omega (arith, lines_room.1);
              rest = line_off ∙ (rw p.1 (behind_snoc w.ps x (read_lines more)));
            }

-- ---- the whole

pub too_long : (bytes : List ℕ) → 65536 < length bytes → read_input bytes ≡ None
unfolding read_input
too_long bytes h = rw (lt-leb (length bytes) 65536 h) refl

short : (bytes : List ℕ) → length bytes ≤ 65536 → read_input bytes ≡ limited (read_lines (parts 10 bytes))
unfolding read_input
short bytes h = rw (le-leb (length bytes) 65536 h) refl

-- what the lines behind the empty one hold
behind_text : (ps : List (List ℤ)) (ls : List (List ℕ))
    → behind ps (read_lines ([] ∷ ls)) ≡ and_then (text_line ls) (λ xs. Some (record { patterns = ps; text = xs }))
unfolding read_lines
behind_text ps ls = go (eqb (length ls) 2 && eqb (length (get_or ls 1 [])) 0) (read_line (get_or ls 0 []))
  where
    go : (t : Bool) (o : Option (List ℤ))
        → behind ps (when t (and_then o (λ xs. Some (record { patterns = []; text = xs }))))
        ≡ and_then (when t o) (λ xs. Some (record { patterns = ps; text = xs }))
    go false o = refl
    go true None = refl
    go true (Some xs) = ap (λ (l : List (List ℤ)). Some (record { patterns = l; text = xs })) (append-nil ps)

module _ (bytes : List ℕ) {lines : List (List ℕ)} (h : length bytes ≤ 65536) (e : lines ≡ parts 10 bytes) where
  pub no_patterns : limited (read_lines lines) ≡ None → read_input bytes ≡ None
  no_patterns q = short bytes h ∙ ap (λ (ls : List (List ℕ)). limited (read_lines ls)) (sym e) ∙ q

  module _ {values₀ values : List ℤ} {ends₀ ends : List ℕ} (left : List (List ℕ)) {count : ℕ}
      (p : PatternsRead lines values₀ ends₀ values ends left (Some count)) where
    whole : read_lines (parts 10 bytes) ≡ and_then (text_line left) (λ xs. Some (record { patterns = p.0; text = xs }))
    whole = ap read_lines (sym e) ∙ p.2 ∙ behind_text p.0 left

    pub no_text : (text₀ text : List ℤ) → length text₀ ≡ 32768 → IsPut (text_line left) text₀ text None → read_input bytes ≡ None
    no_text text₀ text l t = short bytes h ∙ (rw whole (go (text_line left) refl))
      where
        go : (o : Option (List ℤ)) → text_line left ≡ o → limited (and_then o (λ xs. Some (record { patterns = p.0; text = xs }))) ≡ None
        go None q = refl
        go (Some xs) q =
            let b = lines-Bounds (parts 10 bytes) (record { patterns = p.0; text = xs }) (whole ∙ (rw q refl)) in
            absurd (omega (arith, b.short, weight-parts 10 bytes, t xs q))

    pub all_read : {n : ℕ} (text₀ text : List ℤ) → IsPut (text_line left) text₀ text (Some n)
        → IsRead bytes values₀ ends₀ text₀ values ends text (Some (record { patterns = count; text = n }))
    all_read text₀ text t = (
      record { patterns = p.0; text = t.0 },
      (
        short bytes h ∙ (rw (whole, t.1, le-leb (length (flatten p.0)) 1023 p.1.fit) refl),
        record { patterns = p.1.counted; size = t.2; all_values = p.1.lie_values; all_ends = p.1.lie_ends; all_text = t.3 },
      ),
    )
