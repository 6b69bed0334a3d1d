-- The attempts of a value and the growth of the longest head together are at most two: every
-- attempt but the last one shortens the suffix, and a gap makes none.
use Rattle.std.specs.Prelude.{◌≡◌, ◌∷◌, ◌++◌, ◌+◌, ◌≤◌, ◌<◌}
use Rattle.lists.proofs.Prelude.{refl, Bool, true, false, List, [], ℕ, suc, ℤ, T, leb, leb→le, length, arith}
use Rattle.lists.proofs.Tests.{and_split}
use Rattle.lists.proofs.Counting.{count_from}
use Rattle.gaps.specs.Gaps.{is_gap}
use Rattle.pattern_set.specs.PatternSet.{PatternSet, good_set}
use Rattle.runs.specs.ReferenceRun.{longest_extended, attempts, longest_head}
use Rattle.runs.proofs.LongestHead.{head_suffix, longest_extended-le, longest_head_gap, longest_head_step}
use Rattle.runs.proofs.Advance.{tried, attempts-tried}

pub attempts_gap : (ps : PatternSet) (text : List ℤ) (x : ℤ) → is_gap x ≡ true → attempts ps text x ≡ 0
unfolding attempts
attempts_gap ps text x o = rw o refl

pub attempts_bound : (ps : PatternSet) (text : List ℤ) (x : ℤ) → T (good_set ps) → 0 < length ps
    → attempts ps text x + longest_head ps (text ++ (x ∷ [])) ≤ longest_head ps text + 2
attempts_bound ps text x g z = go (is_gap x) refl
  where
    below : (q j : ℕ) → j < q → q ≤ j → ⊥
    below q j a b = omega arith

    go : (b : Bool) → is_gap x ≡ b → attempts ps text x + longest_head ps (text ++ (x ∷ [])) ≤ longest_head ps text + 2
    go true o = omega (arith, attempts_gap ps text x o, longest_head_gap ps text x o z)
    go false o =
        let q = longest_extended ps text x in
        let n = longest_head ps text in
        let l = longest_extended-le ps text x o g z in
        let b = count_from (tried ps text q) q (suc n) (omega arith) (λ j a s. below q j a (leb→le q j (and_split (leb q j) (head_suffix ps text j) s).0)) in
        omega (arith, b, attempts-tried ps text x o, longest_head_step ps text x o g z)
