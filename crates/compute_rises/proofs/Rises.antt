-- The rises over hits: of one hit, from the values at the two ends of its window, and one rise at
-- every place. And when an array is too short for them.
use Rattle.std.specs.Prelude.{◌≡◌, ◌∷◌, ◌++◌, ◌+◌, ◌-◌, ◌*◌, ◌/◌, ◌≤◌, ◌<◌, ◌-ℤ◌}
use Rattle.lists.proofs.Prelude.{◌∙◌, ap, ap₂, refl, List, ℕ, zero, suc, ltb, ltb→lt, lt→ltb, ℤ, pos}
use Rattle.lists.proofs.Prelude.{length, get_or, drop, set, replicate, length-set, lt-ltb, le-ltb, arith, tabulate}
use Rattle.lists.proofs.Tests.{test_ext}
use Rattle.lists.proofs.Tables.{tabulate-cons, tabulate_more}
use Rattle.matching.specs.Rise.{clamp, rise_over}
use Rattle.search_model.specs.Recent.{kept_for, found_at}

-- ---- the value at a place

module _ (taken : ℕ) (recent xs : List ℤ) (p : ℕ) where
  pub found_before : p < taken → kept_for recent p ≡ found_at taken recent xs p
  found_before h = simp (lt-ltb p taken h)

  pub found_behind : taken ≤ p → get_or xs (p - taken) (pos 0) ≡ found_at taken recent xs p
  found_behind h = simp (le-ltb p taken h)

-- ---- one rise

-- from the values at the two ends of its window
pub rise_is : (at : ℕ → ℤ) (last n : ℕ) (a b : ℤ) → a ≡ at last → b ≡ at (last + 1 - n) → clamp (a -ℤ b) ≡ rise_over at last n
unfolding rise_over
rise_is at last n a b p q =
    let f : last + 1 - n ≡ suc last - n = omega arith in
    ap₂ (λ (y z : ℤ). clamp (y -ℤ z)) p (q ∙ ap at f)

-- ---- one rise at every place

-- after i turns: the first i of the rises f are written
pub record Written (f : ℕ → ℤ) (n : ℕ) (before out : List ℤ) (i : ℕ) : Type 0 where
  -- there are rises left, or all have been written
  pub within : i ≤ n
  -- the array is as long as it was
  pub sized : length out ≡ length before
  -- it begins with i rises, and the rest is as it was
  pub values : out ≡ tabulate i f ++ drop i before

pub Written-none : (f : ℕ → ℤ) (n : ℕ) (before : List ℤ) → Written f n before before 0
unfolding tabulate
Written-none f n before = record { within = omega arith; sized = refl; values = refl }

-- one more
pub Written-next : (f : ℕ → ℤ) (n : ℕ) (before out : List ℤ) (i : ℕ) (v : ℤ) → n ≤ length before → i < n → v ≡ f i
    → Written f n before out i → Written f n before (set out i v) (i + 1)
Written-next f n before out i v room h e w =
    record {
      within = omega arith;
      sized = length-set out i v ∙ w.sized;
      values = ap (λ (l : List ℤ). set l i v) w.values ∙ tabulate_more f (pos 0) before i _ (omega arith) e;
    }

-- all of them
pub Written-end : (f : ℕ → ℤ) (n : ℕ) (before out : List ℤ) (i : ℕ) → n ≤ i → Written f n before out i → out ≡ tabulate n f ++ drop n before
Written-end f n before out i h w =
    let e : i ≡ n = omega (arith, w.within) in
    rw e at w.values

-- a table of one value
tabulate_one : (n : ℕ) (v : ℤ) → tabulate n (λ _. v) ≡ replicate n v
unfolding tabulate
tabulate_one zero v = refl
tabulate_one (suc n) v = tabulate-cons n (λ _. v) ∙ ap (λ (l : List ℤ). v ∷ l) (tabulate_one n v)

-- all of them, each the one value z
pub Written-one : (v z : ℤ) (n : ℕ) (before out : List ℤ) (i : ℕ) → v ≡ z → n ≤ i → Written (λ _. v) n before out i
    → out ≡ replicate n z ++ drop n before
Written-one v z n before out i e h w =
    Written-end (λ _. v) n before out i h w ∙ ap (λ (l : List ℤ). l ++ drop n before) (tabulate_one n v ∙ ap (replicate n) e)

-- ---- a second array too short

-- a number is below the half rounded up exactly if its double is below the whole
pub below_half : (r half h : ℕ) → half ≡ h - h / 2 → ltb r half ≡ ltb (2 * r) h
below_half r half h e =
    test_ext (ltb r half) (ltb (2 * r) h)
    (λ t. let l = ltb→lt r half t in lt→ltb (2 * r) h (omega arith))
    (λ t. let l = ltb→lt (2 * r) h t in lt→ltb r half (omega arith))
