-- FILLING A TABLE OF SETS: a rank added at the places that pass its pattern's test makes a table
-- that holds the ranks below r one that holds those below r + 1.
use Rattle.std.specs.Prelude.{◌≡◌, ◌&&◌, ◌||◌, ◌+◌, ◌<◌}
use Rattle.lists.proofs.Prelude.{◌∙◌, ap, refl, ap₂, Bool, true, false, List, ℕ, eqb, ltb, get_or}
use Rattle.lists.proofs.Prelude.{replicate, get_or-replicate, dec_lt, arith, eq-eqb, ne_eqb, lt-ltb, le-ltb}
use Rattle.lists.proofs.Tests.{and-false, and-true, or-false}
use Rattle.bit_sets.specs.BitSets.{bit_at}
use Rattle.bit_sets.proofs.Digits.{bit_at_none}
use Rattle.filter_tables.specs.Steps.{Empty, Adds}

-- ---- rank by rank

-- at each v the table has, of the ranks below n, those that pass the test
pub record Below (test : ℕ → ℕ → Bool) (n : ℕ) (table : List ℕ) : Type 0 where
  pub has : (v : ℕ) → v < 256 → (s : ℕ) → s < 64 → bit_at (get_or table v 0) s ≡ (ltb s n && test v s)

pub below_none : (test : ℕ → ℕ → Bool) (table : List ℕ) → Empty table → Below test 0 table
below_none test table f = record { has = λ v h s l. rw (f v h, le-ltb s 0 (omega arith)) (bit_at_none s) }

pub below_more : (test : ℕ → ℕ → Bool) (r : ℕ) (a b : List ℕ) (t : ℕ → Bool) → ((v : ℕ) → t v ≡ test v r) → Adds t r a b → Below test r a
    → Below test (r + 1) b
below_more test r a b t q f g = record {
  has = λ v h s l. f v h s l ∙ ap₂ (λ (x y : Bool). (x && eqb s r) || y) (q v) (g.has v h s l) ∙ next (test v) s (dec_lt s r) (dec_lt r s);
}
  where
    next : (p : ℕ → Bool) (s : ℕ) → Dec (s < r) → Dec (r < s) → ((p r && eqb s r) || (ltb s r && p s)) ≡ (ltb s (r + 1) && p s)
    next p s (yes k) d =
        rw (ne_eqb s r (λ e. let z : ⊥ = omega arith in z), lt-ltb s r k, lt-ltb s (r + 1) (omega arith)) (ap (λ (x : Bool). x || p s) (and-false (p r)))
    next p s (no k) (yes m) =
        rw (ne_eqb s r (λ e. let z : ⊥ = omega arith in z), le-ltb s r (omega arith), le-ltb s (r + 1) (omega arith))
        (ap (λ (x : Bool). x || false) (and-false (p r)))
    next p s (no k) (no m) =
        let e : s ≡ r = omega arith in
        rw (e, eq-eqb r r refl, le-ltb r r (omega arith), lt-ltb r (r + 1) (omega arith)) (or-false (p r && true) ∙ and-true (p r))

pub below_all : (test : ℕ → ℕ → Bool) (n k : ℕ) (table : List ℕ) → n ≡ k → Below test n table
    → (v : ℕ) → v < 256 → (s : ℕ) → s < 64 → bit_at (get_or table v 0) s ≡ (ltb s k && test v s)
below_all test n k table e f v h s l = f.has v h s l ∙ ap (λ (m : ℕ). ltb s m && test v s) e

-- an array of zeros holds nothing
pub Empty-zeros : Empty (replicate 256 0)
Empty-zeros v h = get_or-replicate 256 v 0 0 h
