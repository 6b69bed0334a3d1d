-- EIGHT WORDS SIDE BY SIDE, those of a row or of a record, stored and compared; and sixteen, those
-- of a row and of a record.
use Rattle.std.specs.Prelude.{◌≡◌, ◌&&◌, ◌∷◌, ◌++◌, ◌+◌, ◌≤◌, ◌<◌}
use lib.Pointwise.{pointwise}
use Rattle.lists.proofs.Prelude.{◌∙◌, ap, sym, refl, ap₂, Bool, true, false, eqb, List, [], ℕ, length, get_or, take, drop}
use Rattle.lists.proofs.Prelude.{length-drop}
use Rattle.lists.proofs.Prelude.{length-append, length-take-le, get_or-take, get_or-drop, ext_get_or, take-add, take_at, drop-drop, drop-append-add}
use Rattle.lists.proofs.Prelude.{append_assoc, arith, same}
use Rattle.lists.proofs.Prelude.{dec_lt}
use Rattle.lists.proofs.Same.{same-true, same-false, same-append}

-- ---- stores

-- a row and behind it a record
pub store_both : (xs row rec : List ℕ) (at : ℕ) → length row ≡ 8 → at + 16 ≤ length xs
    → take (at + 8) (take at xs ++ row ++ drop (at + 8) xs) ++ rec ++ drop (at + 8 + 8) (take at xs ++ row ++ drop (at + 8) xs)
    ≡ take at xs ++ (row ++ rec) ++ drop (at + 16) xs
store_both xs row rec at e h =
    let f = take at xs ++ row in
    let l : length f ≡ at + 8 = length-append (take at xs) row ∙ (omega (arith, length-take-le at xs (omega arith))) in
    let p : at + 8 + 8 ≡ length f + 8 = omega arith in
    let q : at + 8 + 8 ≡ at + 16 = omega arith in
    let y : drop (at + 8 + 8) (f ++ drop (at + 8) xs) ≡ drop (at + 16) xs =
    ap (λ (j : ℕ). drop j (f ++ drop (at + 8) xs)) p ∙ drop-append-add f (drop (at + 8) xs) 8 ∙ drop-drop 8 (at + 8) xs ∙ ap (λ (j : ℕ). drop j xs) q in
    ap₂ (λ (u z : List ℕ). u ++ rec ++ z) (take_at f (drop (at + 8) xs) (at + 8) l) y
    ∙ ap (λ (u : List ℕ). u ++ drop (at + 16) xs) (append_assoc (take at xs) row rec)

-- ---- eight elements side by side

module _ (xs ys : List ℕ) (at : ℕ) where
  pub eight_same : at + 8 ≤ length xs → length ys ≡ 8 → ((i : ℕ) → i < 8 → get_or xs (at + i) 0 ≡ get_or ys i 0) → same (take 8 (drop at xs)) ys ≡ true
  eight_same l e f =
      let m : length (take 8 (drop at xs)) ≡ 8 = length-take-le 8 (drop at xs) (rw length-drop (omega arith)) in
      same-true (take 8 (drop at xs)) ys
      (ext_get_or 0 (take 8 (drop at xs)) ys (m ∙ sym e) (λ i h. get_or-take 8 (drop at xs) i 0 (omega arith) ∙ get_or-drop at xs i 0 ∙ f i (omega arith)))

  pub eight_differ : (i : ℕ) → i < 8 → (get_or xs (at + i) 0 ≡ get_or ys i 0 → ⊥) → same (take 8 (drop at xs)) ys ≡ false
  eight_differ i h f =
      same-false (take 8 (drop at xs)) ys (λ e. f (sym (get_or-take 8 (drop at xs) i 0 h ∙ get_or-drop at xs i 0) ∙ ap (λ (l : List ℕ). get_or l i 0) e))

-- the first i words are the same
abbrev pub Alike : List ℕ → List ℕ → ℕ → ℕ → Type 0
Alike xs ys at i = (a : ℕ) → a < i → get_or xs (at + a) 0 ≡ get_or ys a 0

-- one more
pub Alike-more : (xs ys : List ℕ) (at i : ℕ) → Alike xs ys at i → get_or xs (at + i) 0 ≡ get_or ys i 0 → Alike xs ys at (i + 1)
Alike-more xs ys at i f h a l = go (dec_lt a i)
  where
    go : Dec (a < i) → get_or xs (at + a) 0 ≡ get_or ys a 0
    go (yes d) = f a d
    go (no d) = let q : a ≡ i = omega arith in ap (λ (j : ℕ). get_or xs (at + j) 0) q ∙ h ∙ ap (λ (j : ℕ). get_or ys j 0) (sym q)

-- element by element, as `==` on slices says it
pub compared : (xs ys : List ℕ) → pointwise eqb xs ys ≡ same xs ys
unfolding same
compared [] [] = refl
compared [] (y ∷ ys) = refl
compared (x ∷ xs) [] = refl
compared (x ∷ xs) (y ∷ ys) = ap (λ (b : Bool). eqb x y && b) (compared xs ys)

-- ---- a row and behind it a record

pub both_same : (xs row rec : List ℕ) (at : ℕ) → length row ≡ 8 → at + 16 ≤ length xs
    → same (take 16 (drop at xs)) (row ++ rec) ≡ same (take 8 (drop at xs)) row && same (take 8 (drop (at + 8) xs)) rec
both_same xs row rec at e h =
    let l : length (take 8 (drop at xs)) ≡ 8 = length-take-le 8 (drop at xs) (rw length-drop (omega arith)) in
    ap (λ (l : List ℕ). same l (row ++ rec)) (take-add 8 8 (drop at xs) ∙ ap (λ (z : List ℕ). take 8 (drop at xs) ++ take 8 z) (drop-drop 8 at xs))
    ∙ same-append (take 8 (drop at xs)) row (take 8 (drop (at + 8) xs)) rec (l ∙ sym e)
