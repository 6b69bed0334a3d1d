-- The numbers of the patterns that have the tree of a window, as those that pass a test.
use Rattle.std.specs.Prelude.{◌≡◌, ◌∷◌, ◌+◌, ◌<◌}
use Rattle.lists.proofs.Prelude.{◌∙◌, ap, sym, refl, ap₂, Bool, cond, List, [], ℕ, suc, ℤ, length, get_or, add-zero, arith, tabulate, select}
use Rattle.lists.proofs.Tables.{tabulate-cons, tabulate_ext}
use Rattle.pattern_set.specs.PatternSet.{PatternSet}
use Rattle.matching.specs.Matching.{has_tree, numbers_from}

-- the numbers from i on that pass a test, where the test of i + k tells whether pattern k has the
-- window's tree
pub select_numbers : (test : ℕ → Bool) (window : List ℤ) (i : ℕ) (ps : PatternSet) → ((k : ℕ) → k < length ps → test (i + k) ≡ has_tree window (get_or ps k []))
    → select test (tabulate (length ps) (λ k. i + k)) ≡ numbers_from i window ps
unfolding select numbers_from tabulate
select_numbers test window i [] f = refl
select_numbers test window i (p ∷ ps) f =
    let rest = tabulate_ext (length ps) (λ k. i + suc k) (λ k. suc i + k) (λ k l. shift k) in
    ap (select test) (tabulate-cons (length ps) (λ k. i + k) ∙ ap₂ (λ (a : ℕ) (l : List ℕ). a ∷ l) (add-zero i) rest)
    ∙ ap₂ (λ (b : Bool) (l : List ℕ). cond b (i ∷ l) l) (ap test (sym (add-zero i)) ∙ f 0 (omega arith))
    (select_numbers test window (suc i) ps (λ k l. ap test (sym (shift k)) ∙ f (suc k) (omega arith)))
  where
    shift : (k : ℕ) → i + suc k ≡ suc i + k
    shift k = omega arith
