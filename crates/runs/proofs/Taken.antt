-- Laws of the values that the reference takes: they are a front of those it is handed, and the
-- attempts of all values are at most two a value.
use Rattle.std.specs.Prelude.{◌≡◌, ◌∷◌, ◌++◌, ◌+◌, ◌-◌, ◌*◌, ◌≤◌, ◌<◌}
use Rattle.lists.proofs.Prelude.{ap, sym, refl, Bool, true, false, cond, List, [], append-nil, append_assoc, ℕ, ℤ, T}
use Rattle.lists.proofs.Prelude.{leb, length, drop, arith}
use Rattle.pattern_set.specs.PatternSet.{PatternSet, good_set}
use Rattle.matching.specs.Matching.{last_hits}
use Rattle.runs.specs.ReferenceRun.{attempts_on, taking, longest_head}
use Rattle.runs.proofs.LongestHead.{longest_head-le}
use Rattle.runs.proofs.Attempts.{attempts_bound}

pub taking_front : (ps : PatternSet) (xs text : List ℤ) (free : ℕ) → taking ps text free xs ++ drop (length (taking ps text free xs)) xs ≡ xs
unfolding taking
taking_front ps [] text free = refl
taking_front ps (x ∷ xs) text free =
    let next = text ++ (x ∷ []) in
    go (leb (2 * length ps) free) (taking ps next (free - 2 * length (last_hits ps next)) xs) (taking_front ps xs next (free - 2 * length (last_hits ps next)))
  where
    go : (b : Bool) (vs : List ℤ) → vs ++ drop (length vs) xs ≡ xs → cond b (x ∷ vs) [] ++ drop (length (cond b (x ∷ vs) [])) (x ∷ xs) ≡ x ∷ xs
    go true vs ih = ap (λ (l : List ℤ). x ∷ l) ih
    go false vs ih = refl

pub attempts_on-append : (ps : PatternSet) (xs ys text : List ℤ) → attempts_on ps text (xs ++ ys) ≡ attempts_on ps text xs + attempts_on ps (text ++ xs) ys
unfolding attempts_on
attempts_on-append ps [] ys text =
    let e : attempts_on ps text ys ≡ attempts_on ps (text ++ []) ys = ap (λ (t : List ℤ). attempts_on ps t ys) (sym (append-nil text)) in
    omega (arith, e)
attempts_on-append ps (x ∷ xs) ys text =
    let ih = attempts_on-append ps xs ys (text ++ (x ∷ [])) in
    let e : attempts_on ps ((text ++ (x ∷ [])) ++ xs) ys ≡ attempts_on ps (text ++ (x ∷ xs)) ys =
    ap (λ (t : List ℤ). attempts_on ps t ys) (append_assoc text (x ∷ []) xs) in
    omega (arith, ih, e)

module _ (ps : PatternSet) (g : T (good_set ps)) (z : 0 < length ps) where
  growth : (xs text : List ℤ) → attempts_on ps text xs + longest_head ps (text ++ xs) ≤ longest_head ps text + 2 * length xs
  unfolding attempts_on
  growth [] text = rw (append-nil text) (omega arith)
  growth (x ∷ xs) text =
      let e : longest_head ps ((text ++ (x ∷ [])) ++ xs) ≡ longest_head ps (text ++ (x ∷ xs)) = ap (longest_head ps) (append_assoc text (x ∷ []) xs) in
      omega (arith, growth xs (text ++ (x ∷ [])), attempts_bound ps text x g z, e)

  pub attempts_on_bound : (xs : List ℤ) → attempts_on ps [] xs ≤ 2 * length xs
  attempts_on_bound xs = omega (arith, growth xs [], longest_head-le ps [])
