-- Words replaced at a place of an array, at once or one after the other, from the front on: after
-- some turns the array is the new one up to a place and the old one from there on, so that what
-- lies behind can still be read. And an array over whose front words are written.
use Rattle.std.specs.Prelude.{◌≡◌, ◌++◌, ◌+◌, ◌-◌, ◌≤◌, ◌<◌}
use Rattle.std.specs.List.{copy_within}
use Rattle.lists.proofs.Prelude.{◌∙◌, ap, ap₂, refl, sym, List, append_assoc, ℕ, length, get_or, take, drop, set, length-append, length-drop}
use Rattle.lists.proofs.Prelude.{take-append-drop, length-take-le, take_at, drop_at, get_or-append-add, get_or-append, drop-append-add, drop-drop, arith}
use Rattle.lists.proofs.Parts.{fill_more, put_at, write_behind}
use Rattle.withdraw_pattern.specs.Replaced.{replaced}

-- words are copied to a place further down
pub copied : (ws : List ℕ) (at by n : ℕ) → at + by + n ≤ length ws
    → copy_within ws (at + by) (at + by + n) at ≡ replaced at (take n (drop (at + by) ws)) ws
unfolding replaced
copied ws at by n h =
    let e : at + by + n - (at + by) ≡ n = omega arith in
    let l : length (take n (drop (at + by) ws)) ≡ n = length-take-le n (drop (at + by) ws) (omega (arith, length-drop (at + by) ws)) in
    ap (λ (i : ℕ). take at ws ++ take i (drop (at + by) ws) ++ drop (at + i) ws) e
    ∙ ap (λ (i : ℕ). take at ws ++ take n (drop (at + by) ws) ++ drop (at + i) ws) (sym l)

-- the part of n words from `at` on was lent, and is `new` now
pub put : (at n k : ℕ) (ws new part : List ℕ) → k ≡ n → length new ≡ n → part ≡ new → take at ws ++ (part ++ drop k (drop at ws)) ≡ replaced at new ws
unfolding replaced
put at n k ws new part e l p =
    ap₂ (λ (i : ℕ) (y : List ℕ). take at ws ++ (y ++ drop i (drop at ws))) e p
    ∙ ap (λ (r : List ℕ). take at ws ++ (new ++ r)) (drop-drop n at ws)
    ∙ sym (append_assoc (take at ws) new (drop (at + n) ws))
    ∙ ap (λ (i : ℕ). take at ws ++ new ++ drop (at + i) ws) (sym l)

-- words that are replaced twice
pub replaced_twice : (at : ℕ) (new newer ws : List ℕ) → at + length new ≤ length ws → length newer ≡ length new
    → replaced at newer (replaced at new ws) ≡ replaced at newer ws
unfolding replaced
replaced_twice at new newer ws h e =
    let front : take at (take at ws ++ new ++ drop (at + length new) ws) ≡ take at ws =
    ap (take at) (append_assoc (take at ws) new (drop (at + length new) ws))
    ∙ take_at (take at ws) (new ++ drop (at + length new) ws) at (length-take-le at ws (omega arith)) in
    let l : length (take at ws ++ new) ≡ at + length newer = length-append (take at ws) new ∙ (omega (arith, length-take-le at ws (omega arith), e)) in
    let rest : drop (at + length newer) (take at ws ++ new ++ drop (at + length new) ws) ≡ drop (at + length newer) ws =
    drop_at (take at ws ++ new) (drop (at + length new) ws) (at + length newer) l ∙ ap (λ (i : ℕ). drop (at + i) ws) (sym e) in
    ap₂ (λ (l r : List ℕ). l ++ newer ++ r) front rest

-- and read back
pub replaced_part : (at : ℕ) (new ws : List ℕ) → at ≤ length ws → take (length new) (drop at (replaced at new ws)) ≡ new
unfolding replaced
replaced_part at new ws h =
    ap (λ (l : List ℕ). take (length new) (drop at l)) (append_assoc (take at ws) new (drop (at + length new) ws))
    ∙ ap (take (length new)) (drop_at (take at ws) (new ++ drop (at + length new) ws) at (length-take-le at ws h))
    ∙ take_at new (drop (at + length new) ws) (length new) refl

-- the first i of the words are replaced
abbrev pub turned : ℕ → List ℕ → List ℕ → ℕ → List ℕ
turned at new old i = take (at + i) (replaced at new old) ++ drop (at + i) old

module _ (at : ℕ) (new old : List ℕ) (h : at + length new ≤ length old) where
  abbrev whole : List ℕ
  whole = replaced at new old

  length_front : length (take at old ++ new) ≡ at + length new
  length_front = length-append (take at old) new ∙ ap (λ (n : ℕ). n + length new) (length-take-le at old (omega arith))

  length-whole : length whole ≡ length old
  unfolding replaced
  length-whole = length-append (take at old ++ new) (drop (at + length new) old) ∙ (omega (arith, length_front, length-drop (at + length new) old))

  pub turned_none : old ≡ turned at new old 0
  unfolding replaced
  turned_none =
      let e : at + 0 ≡ at = omega arith in
      let rest = drop (at + length new) old in
      let t : take at (take at old ++ new ++ rest) ≡ take at old =
      ap (take at) (append_assoc (take at old) new rest) ∙ take_at (take at old) (new ++ rest) at (length-take-le at old (omega arith)) in
      sym (rw (e, t) (take-append-drop at old))

  whole_at : (i : ℕ) → i < length new → get_or whole (at + i) 0 ≡ get_or new i 0
  unfolding replaced
  whole_at i l =
      let e : at + i ≡ length (take at old) + i = omega (arith, length-take-le at old (omega arith)) in
      get_or-append (take at old ++ new) (drop (at + length new) old) 0 (at + i) (omega (arith, length_front))
      ∙ ap (λ (n : ℕ). get_or (take at old ++ new) n 0) e
      ∙ get_or-append-add (take at old) new i 0

  pub turned_more : (i x : ℕ) → i < length new → x ≡ get_or new i 0 → set (turned at new old i) (at + i) x ≡ turned at new old (i + 1)
  turned_more i x l e =
      let q : at + i + 1 ≡ at + (i + 1) = omega arith in
      fill_more 0 whole old (at + i) x (omega (arith, length-whole)) (omega arith) (e ∙ sym (whole_at i l))
      ∙ ap (λ (n : ℕ). take n whole ++ drop n old) q

  pub turned_read : (i q : ℕ) → i ≤ length new → at + i ≤ q → get_or (turned at new old i) q 0 ≡ get_or old q 0
  turned_read i q l g = put_at 0 whole old (at + i) q (omega (arith, length-whole)) g

  pub turned_all : (i : ℕ) → i ≡ length new → turned at new old i ≡ whole
  unfolding replaced
  turned_all i e =
      let q : length (take at old ++ new) ≡ at + i = omega (arith, length_front) in
      ap (λ (l : List ℕ). l ++ drop (at + i) old) (take_at (take at old ++ new) (drop (at + length new) old) (at + i) q)
      ∙ ap (λ (n : ℕ). take at old ++ new ++ drop (at + n) old) e

-- ws is the array old with f over its front
abbrev pub Over : List ℕ → List ℕ → List ℕ → Type 0
Over f old ws = ws ≡ f ++ drop (length f) old

pub length-Over : (f old ws : List ℕ) → length f ≤ length old → Over f old ws → length ws ≡ length old
length-Over f old ws h e = ap length e ∙ length-append f (drop (length f) old) ∙ (omega (arith, length-drop (length f) old))

-- what lies behind is as it was
pub drop-Over : (f old ws : List ℕ) (n : ℕ) → Over f old ws → length f ≤ n → drop n ws ≡ drop n old
drop-Over f old ws n e h =
    let q : n ≡ length f + (n - length f) = omega arith in
    ap (drop n) e
    ∙ ap (λ (i : ℕ). drop i (f ++ drop (length f) old)) q
    ∙ drop-append-add f (drop (length f) old) (n - length f)
    ∙ drop-drop (n - length f) (length f) old
    ∙ ap (λ (i : ℕ). drop i old) (sym q)

-- words put behind f
pub replaced_behind : (f new old ws : List ℕ) (at : ℕ) → at ≡ length f → Over f old ws → Over (f ++ new) old (replaced at new ws)
unfolding replaced
replaced_behind f new old ws at e q =
    let s : at + length new ≡ length (f ++ new) = omega (arith, length-append f new) in
    write_behind f new old ws at (at + length new) e (omega arith) q ∙ ap (λ (n : ℕ). f ++ new ++ drop n old) s
