-- The offsets of a set in two parts: where the patterns of the first part start, and the offsets of
-- the second, counted from there on.
use Rattle.std.specs.Prelude.{◌≡◌, ◌∷◌, ◌++◌, ◌+◌, ◌-◌}
use Rattle.lists.proofs.Prelude.{◌∙◌, ap, ap₂, List, [], map, flatten, ℕ, length, take, length-append, length-take-le, zero-add}
use Rattle.lists.proofs.Prelude.{arith}
use Rattle.pattern_set.specs.PatternSet.{PatternSet, offsets}
use Rattle.pattern_set.proofs.Words.{length-offsets}

-- where the patterns start
abbrev pub starts : ℕ → PatternSet → List ℕ
starts o ps = take (length ps) (offsets o ps)

-- the offsets of two parts of a set
offsets-append : (o : ℕ) (ps qs : PatternSet) → offsets o (ps ++ qs) ≡ starts o ps ++ offsets (o + length (flatten ps)) qs
unfolding offsets flatten
offsets-append o [] qs = let e : o ≡ o + 0 = omega arith in ap (λ (n : ℕ). offsets n qs) e
offsets-append o (p ∷ ps) qs =
    let e : o + length p + length (flatten ps) ≡ o + length (p ++ flatten ps) = simp length-append (omega arith) in
    ap (λ (l : List ℕ). o ∷ l) (offsets-append (o + length p) ps qs ∙ ap (λ (n : ℕ). starts (o + length p) ps ++ offsets n qs) e)

pub offsets_first : (ps qs : PatternSet) → offsets 0 (ps ++ qs) ≡ starts 0 ps ++ offsets (length (flatten ps)) qs
offsets_first ps qs = offsets-append 0 ps qs ∙ ap (λ (n : ℕ). starts 0 ps ++ offsets n qs) (zero-add (length (flatten ps)))

pub length-starts : (o : ℕ) (ps : PatternSet) → length (starts o ps) ≡ length ps
length-starts o ps = length-take-le (length ps) (offsets o ps) (omega (arith, length-offsets o ps))

-- the offsets counted from m further on, made smaller by m
pub offsets_lowered : (o m : ℕ) (ps : PatternSet) → map (λ w. w - m) (offsets (o + m) ps) ≡ offsets o ps
unfolding offsets
offsets_lowered o m [] = let e : o + m - m ≡ o = omega arith in ap (λ (w : ℕ). w ∷ []) e
offsets_lowered o m (p ∷ ps) =
    let e : o + m - m ≡ o = omega arith in
    let q : o + m + length p ≡ o + length p + m = omega arith in
    ap₂ (λ (w : ℕ) (l : List ℕ). w ∷ l) e (ap (λ (n : ℕ). map (λ w. w - m) (offsets n ps)) q ∙ offsets_lowered (o + length p) m ps)
