-- The words of the hits at one place.
use Rattle.std.specs.Prelude.{◌≡◌, ◌∷◌, ◌++◌, ◌+◌, ◌*◌, ◌≤◌, ◌<◌}
use Rattle.lists.proofs.Prelude.{◌∙◌, ap, sym, refl, ap₂, List, [], map, append_assoc, ℕ, suc, length, get_or, take, drop}
use Rattle.lists.proofs.Prelude.{set, length-map, length-take-le, drop-cons, take-suc, append_snoc, set_at, arith}
use Rattle.lists.proofs.Parts.{length_snoc, map-append}
use Rattle.matching.specs.Matching.{hit_words}
use Rattle.matching.proofs.HitWords.{length-hit_words, hit_words-append}
use Rattle.stream_step.specs.PlaceWords.{place_words}

pub length-place_words : (p : ℕ) (js : List ℕ) → length (place_words p js) ≡ 2 * length js
length-place_words p js = length-hit_words (map (λ j. (p, j)) js) ∙ ap (λ (n : ℕ). 2 * n) (length-map js (λ (j : ℕ). (p, j)))

pub place_words-append : (p : ℕ) (is js : List ℕ) → place_words p (is ++ js) ≡ place_words p is ++ place_words p js
place_words-append p is js = ap hit_words (map-append (λ (j : ℕ). (p, j)) is js) ∙ hit_words-append (map (λ j. (p, j)) is) (map (λ j. (p, j)) js)

one_hit : (p j : ℕ) → place_words p (j ∷ []) ≡ p ∷ j ∷ []
unfolding hit_words
one_hit p j = refl

-- the words of one hit more
pub place_words_more : (p : ℕ) (js d : List ℕ) (i v : ℕ) → i < length js → 2 * length js ≤ length d → v ≡ get_or js i 0
    → set (set (place_words p (take i js) ++ drop (2 * i) d) (2 * i) p) (2 * i + 1) v ≡ place_words p (take (i + 1) js) ++ drop (2 * (i + 1)) d
place_words_more p js d i v h r e =
    let A = place_words p (take i js) in
    let R = drop (suc (suc (2 * i))) d in
    let l_a : length A ≡ 2 * i = length-place_words p (take i js) ∙ ap (λ (n : ℕ). 2 * n) (length-take-le i js (omega arith)) in
    let tail : drop (2 * i) d ≡ get_or d (2 * i) 0 ∷ get_or d (suc (2 * i)) 0 ∷ R =
    drop-cons d (2 * i) 0 (omega arith) ∙ ap (λ (l : List ℕ). get_or d (2 * i) 0 ∷ l) (drop-cons d (suc (2 * i)) 0 (omega arith)) in
    let one : set (A ++ drop (2 * i) d) (2 * i) p ≡ (A ++ (p ∷ [])) ++ (get_or d (suc (2 * i)) 0 ∷ R) =
    ap (λ (l : List ℕ). set (A ++ l) (2 * i) p) tail
    ∙ set_at A (get_or d (2 * i) 0) (get_or d (suc (2 * i)) 0 ∷ R) p (2 * i) l_a
    ∙ sym (append_snoc A p (get_or d (suc (2 * i)) 0 ∷ R)) in
    let l_b : length (A ++ (p ∷ [])) ≡ 2 * i + 1 = length_snoc A p ∙ (omega arith) in
    let more : place_words p (take (i + 1) js) ≡ A ++ (p ∷ v ∷ []) =
    ap (place_words p) (ap (λ (n : ℕ). take n js) (let q : i + 1 ≡ suc i = omega arith in q) ∙ take-suc js i 0 h)
    ∙ place_words-append p (take i js) (get_or js i 0 ∷ [])
    ∙ ap (λ (l : List ℕ). A ++ l) (one_hit p (get_or js i 0) ∙ ap (λ (j : ℕ). p ∷ j ∷ []) (sym e)) in
    let last : drop (2 * (i + 1)) d ≡ R = ap (λ (n : ℕ). drop n d) (let q : 2 * (i + 1) ≡ suc (suc (2 * i)) = omega arith in q) in
    ap (λ (l : List ℕ). set l (2 * i + 1) v) one
    ∙ set_at (A ++ (p ∷ [])) (get_or d (suc (2 * i)) 0) R v (2 * i + 1) l_b
    ∙ append_snoc A p (v ∷ R)
    ∙ sym (append_assoc A (p ∷ v ∷ []) R)
    ∙ ap₂ (λ (l r : List ℕ). l ++ r) (sym more) (sym last)
