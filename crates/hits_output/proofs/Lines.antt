-- Laws of the lines of hits, and of a buffer that is written from the front.
use Rattle.std.specs.Prelude.{◌≡◌, ◌∷◌, ◌++◌, ◌+◌, ◌-◌}
use Rattle.lists.proofs.Prelude.{◌∙◌, ap, sym, refl, List, [], map, append-nil, append_assoc, flatten, ℕ, suc, length}
use Rattle.lists.proofs.Prelude.{take, drop, length-append, append_snoc, arith, tabulate}
use borrow.Rule.Slice.PartMut.{put_mid}
use Rattle.lists.proofs.Parts.{map-append, paste}
use Rattle.lists.proofs.Rows.{flatten-append}
use Rattle.pattern_set.specs.PatternSet.{PatternSet}
use Rattle.matching.specs.HitsIn.{hit_in, hits_in}
use Rattle.hits_output.specs.Output.{digits, line, hit_line, hit_lines}

-- ---- a buffer

-- a buffer that begins with words, and is behind them as before
abbrev pub written : List ℕ → List ℕ → List ℕ
written words before = words ++ drop (length words) before

-- the part behind a front now begins with words
pub written_more : (front words before out part : List ℕ) (at k : ℕ) → out ≡ written front before → at ≡ length front → k ≡ length out - at
    → part ≡ written words (take k (drop at out)) → put_mid at k out part ≡ written (front ++ words) before
written_more front words before out part at k e h l q =
    paste front words before out part at (length words) k (sym h) refl (e ∙ ap (λ (n : ℕ). front ++ drop n before) (sym h)) l q
    ∙ ap (λ (n : ℕ). (front ++ words) ++ drop n before) (ap (λ (n : ℕ). n + length words) h ∙ sym (length-append front words))

-- ---- a line

-- three numbers with a byte behind each are a line
pub line_is : (p n z : ℕ) → ((digits p ++ (32 ∷ [])) ++ (digits n ++ (32 ∷ []))) ++ (digits z ++ (10 ∷ [])) ≡ line p n z
line_is p n z = go (digits p) (digits n) (digits z)
  where
    go : (a b c : List ℕ) → ((a ++ (32 ∷ [])) ++ (b ++ (32 ∷ []))) ++ (c ++ (10 ∷ [])) ≡ ((a ++ (32 ∷ b)) ++ (32 ∷ c)) ++ (10 ∷ [])
    go a b c =
        let p : (a ++ (32 ∷ [])) ++ (b ++ (32 ∷ [])) ≡ (a ++ (32 ∷ b)) ++ (32 ∷ []) =
        sym (append_assoc (a ++ (32 ∷ [])) b (32 ∷ [])) ∙ ap (λ (l : List ℕ). l ++ (32 ∷ [])) (append_snoc a 32 b) in
        sym (append_assoc ((a ++ (32 ∷ [])) ++ (b ++ (32 ∷ []))) c (10 ∷ []))
        ∙ ap (λ (l : List ℕ). (l ++ c) ++ (10 ∷ [])) p
        ∙ ap (λ (l : List ℕ). l ++ (10 ∷ [])) (append_snoc (a ++ (32 ∷ b)) 32 c)

-- ---- the lines of hits

pub lines_start : (ps : PatternSet) (ws : List ℕ) → hit_lines ps (hits_in ws 0) ≡ []
unfolding hit_lines hits_in tabulate flatten
lines_start ps ws = refl

-- the lines of one hit more
pub lines_more : (ps : PatternSet) (ws : List ℕ) (i : ℕ) → hit_lines ps (hits_in ws i) ++ hit_line ps (hit_in ws i) ≡ hit_lines ps (hits_in ws (i + 1))
unfolding hit_lines hits_in tabulate flatten
lines_more ps ws i =
    let hs = tabulate i (hit_in ws) in
    sym
    (ap (λ (n : ℕ). flatten (map (hit_line ps) (tabulate n (hit_in ws)))) (let e : i + 1 ≡ suc i = omega arith in e)
    ∙ ap flatten (map-append (hit_line ps) hs (hit_in ws i ∷ []))
    ∙ flatten-append (map (hit_line ps) hs) (hit_line ps (hit_in ws i) ∷ [])
    ∙ ap (λ (l : List ℕ). flatten (map (hit_line ps) hs) ++ l) (append-nil (hit_line ps (hit_in ws i))))
