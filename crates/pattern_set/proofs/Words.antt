-- Reading the words of a set gives the set, whatever lies behind them: offset j is the length of
-- the first j patterns, so the words from offset j up to the next one are pattern j.
use Rattle.std.specs.Prelude.{◌≡◌, ◌∷◌, ◌++◌, ◌+◌, ◌-◌, ◌≤◌, ◌<◌}
use Rattle.lists.proofs.Prelude.{◌∙◌, ap, sym, refl, ap₂, List, [], append-nil, append_assoc, flatten, ℕ, zero, suc, length}
use Rattle.lists.proofs.Prelude.{get_or, take, drop, length-append, take-append_seam, drop-append-add, add-zero, arith}
use Rattle.lists.proofs.Tables.{tabulate_ext, tabulate-get_or}
use Rattle.pattern_set.specs.PatternSet.{PatternSet, offsets, set_words, pattern_in, patterns_in}

pub length-offsets : (o : ℕ) (ps : PatternSet) → length (offsets o ps) ≡ suc (length ps)
unfolding offsets
length-offsets o [] = refl
length-offsets o (p ∷ ps) = ap suc (length-offsets (o + length p) ps)

pub length-set_words : (ps : PatternSet) → length (set_words ps) ≡ 3 + length ps + length (flatten ps)
unfolding set_words
length-set_words ps = rw (length-append, length-offsets) (omega arith)

-- offset j is the length of the first j patterns
pub get_or-offsets : (o : ℕ) (ps : PatternSet) (rest : List ℕ) (j : ℕ) → j ≤ length ps → get_or (offsets o ps ++ rest) j 0 ≡ o + length (flatten (take j ps))
unfolding offsets flatten
get_or-offsets o [] rest zero h = sym (add-zero o)
get_or-offsets o [] rest (suc j) h = absurd (let z : ⊥ = omega arith in z)
get_or-offsets o (p ∷ ps) rest zero h = sym (add-zero o)
get_or-offsets o (p ∷ ps) rest (suc j) h =
    get_or-offsets (o + length p) ps rest j (omega arith) ∙ rw length-append (omega arith)

-- ---- the first words

pub words_count : (ps : PatternSet) (rest : List ℕ) → get_or (set_words ps ++ rest) 0 0 ≡ length ps
unfolding set_words
words_count ps rest = refl

pub words_one : (ps : PatternSet) (rest : List ℕ) → get_or (set_words ps ++ rest) 1 0 ≡ length (flatten ps)
unfolding set_words
words_one ps rest = refl

pub words_offset : (ps : PatternSet) (rest : List ℕ) (j : ℕ) → j ≤ length ps → get_or (set_words ps ++ rest) (2 + j) 0 ≡ length (flatten (take j ps))
unfolding set_words
words_offset ps rest j h =
    let two : 2 + j ≡ suc (suc j) = omega arith in
    rw (two, append_assoc (offsets 0 ps) (flatten ps) rest) (get_or-offsets 0 ps (flatten ps ++ rest) j h ∙ (omega arith))

-- pattern j is what lies from offset j up to the next one
part_is : (ps : PatternSet) (rest : List ℕ) (j : ℕ) → j < length ps
    → take (length (flatten (take (suc j) ps)) - length (flatten (take j ps))) (drop (length (flatten (take j ps))) (flatten ps ++ rest))
    ≡ get_or ps j []
unfolding flatten
part_is [] rest j h = absurd (let z : ⊥ = omega arith in z)
part_is (p ∷ ps) rest zero h =
    let e : length (p ++ []) - 0 ≡ length p = rw append-nil (omega arith) in
    rw (e, append_assoc p (flatten ps) rest) (take-append_seam p (flatten ps ++ rest))
part_is (p ∷ ps) rest (suc j) h =
    let a = length (flatten (take (suc j) ps)) in
    let b = length (flatten (take j ps)) in
    let e : length (p ++ flatten (take (suc j) ps)) - length (p ++ flatten (take j ps)) ≡ a - b = simp length-append (omega arith) in
    rw (e, append_assoc p (flatten ps) rest, length-append p (flatten (take j ps)), drop-append-add p (flatten ps ++ rest) b)
    (part_is ps rest j (omega arith))

pub pattern_in_words : (ps : PatternSet) (rest : List ℕ) (j : ℕ) → j < length ps → pattern_in (set_words ps ++ rest) j ≡ get_or ps j []
unfolding set_words pattern_in
pattern_in_words ps rest j h =
    let front : List ℕ = length ps ∷ length (flatten ps) ∷ offsets 0 ps in
    let b = length (flatten (take j ps)) in
    let two : 2 + j ≡ suc (suc j) = omega arith in
    let three : 3 + j ≡ suc (suc (suc j)) = omega arith in
    let seam : set_words ps ++ rest ≡ front ++ (flatten ps ++ rest) = append_assoc front (flatten ps) rest in
    let start : get_or (set_words ps ++ rest) (2 + j) 0 ≡ b =
    rw (two, append_assoc (offsets 0 ps) (flatten ps) rest) (get_or-offsets 0 ps (flatten ps ++ rest) j (omega arith) ∙ (omega arith)) in
    let end : get_or (set_words ps ++ rest) (3 + j) 0 ≡ length (flatten (take (suc j) ps)) =
    rw (three, append_assoc (offsets 0 ps) (flatten ps) rest) (get_or-offsets 0 ps (flatten ps ++ rest) (suc j) (omega arith) ∙ (omega arith)) in
    let place : 3 + length ps + b ≡ length front + b = rw length-offsets (omega arith) in
    let behind : drop (3 + length ps + b) (set_words ps ++ rest) ≡ drop b (flatten ps ++ rest) =
    rw (place, seam) (drop-append-add front (flatten ps ++ rest) b) in
    ap₂ (λ (e s : ℕ). take (e - s) (drop (3 + length ps + s) (set_words ps ++ rest))) end start
    ∙ rw behind (part_is ps rest j h)

pub patterns_in_words : (ps : PatternSet) (rest : List ℕ) → patterns_in (set_words ps ++ rest) ≡ ps
unfolding set_words
patterns_in_words ps rest =
    tabulate_ext (length ps) (pattern_in (set_words ps ++ rest)) (λ j. get_or ps j []) (pattern_in_words ps rest) ∙ tabulate-get_or [] ps
