-- The words of a list of hits: two a hit, and of lists one after the other the words one after the
-- other.
use Rattle.std.specs.Prelude.{◌≡◌, ◌∷◌, ◌++◌, ◌*◌}
use Rattle.lists.proofs.Prelude.{ap, refl, List, [], ℕ, length, arith}
use Rattle.matching.specs.Matching.{hit_words}

pub length-hit_words : (hs : List (ℕ × ℕ)) → length (hit_words hs) ≡ 2 * length hs
unfolding hit_words
length-hit_words [] = refl
length-hit_words (h ∷ hs) = omega (arith, length-hit_words hs)

pub hit_words-append : (hs gs : List (ℕ × ℕ)) → hit_words (hs ++ gs) ≡ hit_words hs ++ hit_words gs
unfolding hit_words
hit_words-append [] gs = refl
hit_words-append (h ∷ hs) gs = ap (λ (l : List ℕ). h.0 ∷ h.1 ∷ l) (hit_words-append hs gs)
