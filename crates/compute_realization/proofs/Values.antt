-- What the least values come to in an array that is written from its end to its front: what is
-- before place i is as it was, what is from i on is as it will be.
use Rattle.std.specs.Prelude.{◌≡◌, ◌++◌, ◌-◌, ◌^◌, ◌≤◌, ◌<◌, ◌+ℤ◌, ◌≤ℤ◌}
use Rattle.lists.proofs.Parts.{put_none, put_more, put_at}
use Rattle.lists.proofs.Prelude.{◌∙◌, sym, Bool, true, false, cond, List, ℕ, suc, ℤ, pos, negsuc, mag, ltb, leb→le}
use Rattle.lists.proofs.Prelude.{length, get_or, take, drop, set, length-append, length-drop, get_or-append, get_or-set_same, get_or-set_other}
use Rattle.lists.proofs.Prelude.{dec_lt, arith, w32}
use Rattle.lists.proofs.Prelude.{SFits}
use Rattle.lists.proofs.Tests.{T-true}
use Rattle.realization.specs.Realization.{realizable, least_realization}
use Rattle.realization.proofs.LeastRealization.{length-least_realization, least_bound}
use Rattle.compute_realization.specs.NextLower.{IsNext}

-- ---- numbers

-- one more than an i32 that is at most 255 is an i32
pub more_fits : (x : ℤ) → SFits w32 x → x ≤ℤ pos 255 → SFits w32 (x +ℤ pos 1)
more_fits (pos a) f h = record { sfits = omega (arith, leb→le a 255 h.le) }
more_fits (negsuc a) f h = record { sfits = go (ltb 1 (suc a)) }
  where
    go : (b : Bool) → mag (cond b (negsuc (suc a - 2)) (pos (1 - suc a))) < 2 ^ 31
    go true = omega (arith, f.sfits)
    go false = omega arith

-- ---- the least values

-- the values at the front of an array o
abbrev pub written : List ℕ → List ℤ → List ℤ
written ds o = least_realization ds ++ drop (length ds) o

module _ (ds : List ℕ) (o : List ℤ) (e : realizable ds ≡ true) where
  length-written : length ds ≤ length o → length (written ds o) ≡ length o
  length-written h = rw (length-append, length-least_realization ds e, length-drop) (omega arith)

  value_at : (k : ℕ) → k < length ds → get_or (written ds o) k (pos 0) ≡ get_or (least_realization ds) k (pos 0)
  value_at k h = get_or-append (least_realization ds) (drop (length ds) o) (pos 0) k (rw (length-least_realization ds e) h)

  pub values_none : o ≡ take (length ds) o ++ drop (length ds) (written ds o)
  values_none = put_none o (least_realization ds) (length ds) (length-least_realization ds e)

  -- one more store
  pub values_more : (out : List ℤ) (i : ℕ) (x : ℤ) → 0 < i → i ≤ length ds → length ds ≤ length o → out ≡ take i o ++ drop i (written ds o)
      → x ≡ get_or (least_realization ds) (i - 1) (pos 0) → set out (i - 1) x ≡ take (i - 1) o ++ drop (i - 1) (written ds o)
  values_more out i x h k m q p =
      rw q (put_more (pos 0) o (written ds o) i x h (omega arith) (rw (length-written m) (omega arith)) (p ∙ sym (value_at (i - 1) (omega arith))))

  -- a value that is written already
  pub values_at : (out : List ℤ) (i j : ℕ) → i ≤ j → j < length ds → length ds ≤ length o → out ≡ take i o ++ drop i (written ds o)
      → get_or out j (pos 0) ≡ get_or (least_realization ds) j (pos 0)
  values_at out i j h k m q = rw q (put_at (pos 0) o (written ds o) i j (omega arith) h ∙ value_at j k)

  -- which has room for one more
  pub values_room : (out : List ℤ) (i j : ℕ) → i ≤ j → j < length ds → length ds ≤ length o → length ds ≤ 256
      → out ≡ take i o ++ drop i (written ds o) → get_or out j (pos 0) ≤ℤ pos 255
  values_room out i j h k m n q = rw (values_at out i j h k m q) (least_bound ds 255 (T-true (realizable ds) e) n j)

-- ---- the next lower places

-- one more next lower place is known
pub next_more : (ds next : List ℕ) (i j : ℕ) → 0 < i → i ≤ length next → ((k : ℕ) → i ≤ k → k < length ds → IsNext ds k (get_or next k 0)) → IsNext ds (i - 1) j
    → (k : ℕ) → i - 1 ≤ k → k < length ds → IsNext ds k (get_or (set next (i - 1) j) k 0)
next_more ds next i j h l f p k a b = go (dec_lt k i)
  where
    go : Dec (k < i) → IsNext ds k (get_or (set next (i - 1) j) k 0)
    go (yes c) = let e : i - 1 ≡ k = omega arith in rw (e, get_or-set_same next k j 0 (omega arith)) (rw e at p)
    go (no g) = rw (get_or-set_other next (i - 1) k j 0 (λ e. omega arith)) (f k (omega arith) b)
