-- Hits and their words: what is read back of words that begin with those of hits.
use Rattle.std.specs.Prelude.{◌≡◌, ◌∷◌, ◌++◌, ◌+◌, ◌*◌, ◌<◌}
use Rattle.lists.proofs.Prelude.{◌∙◌, refl, List, [], ℕ, zero, suc, length, get_or, arith}
use Rattle.lists.proofs.Tables.{tabulate_ext, tabulate-get_or}
use Rattle.matching.specs.Matching.{hit_words}
use Rattle.matching.specs.HitsIn.{hit_in, hits_in}

hit_behind : (a b : ℕ) (ws : List ℕ) (i : ℕ) → hit_in (a ∷ b ∷ ws) (suc i) ≡ hit_in ws i
hit_behind a b ws i =
    let e : 2 * suc i ≡ suc (suc (2 * i)) = omega arith in
    let f : 2 * suc i + 1 ≡ suc (suc (2 * i + 1)) = omega arith in
    λ k. (get_or (a ∷ b ∷ ws) (e k) 0, get_or (a ∷ b ∷ ws) (f k) 0)

-- hit i is read back of the words
pub hit_in_words : (hs : List (ℕ × ℕ)) (ws : List ℕ) (i : ℕ) → i < length hs → hit_in (hit_words hs ++ ws) i ≡ get_or hs i (0, 0)
unfolding hit_words
hit_in_words [] ws i h = absurd (let x : ⊥ = omega arith in x)
hit_in_words (h ∷ hs) ws zero l = refl
hit_in_words (h ∷ hs) ws (suc i) l = hit_behind h.0 h.1 (hit_words hs ++ ws) i ∙ hit_in_words hs ws i (omega arith)

-- all hits are read back of the words
pub hits_in_words : (hs : List (ℕ × ℕ)) (ws : List ℕ) → hits_in (hit_words hs ++ ws) (length hs) ≡ hs
unfolding hits_in
hits_in_words hs ws = tabulate_ext (length hs) (hit_in (hit_words hs ++ ws)) (λ i. get_or hs i (0, 0)) (hit_in_words hs ws) ∙ tabulate-get_or (0, 0) hs
