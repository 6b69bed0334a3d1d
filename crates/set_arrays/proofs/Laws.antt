-- Laws of the definitions: what the empty set's words are, and which rule refuses an array.
use Rattle.std.specs.Prelude.{◌≡◌, ◌∷◌, ◌++◌, ◌+◌, ◌-◌, ◌≤◌}
use Rattle.lists.proofs.Prelude.{◌∙◌, ap, refl, false, List, [], flatten, ℕ, length, get_or, take, drop, set, arith}
use Rattle.pattern_set.specs.PatternSet.{offsets, set_words, pattern_in, is_set}
use Rattle.set_arrays.specs.Rules.{SizesFit, OffsetsRise}
use Rattle.set_arrays.proofs.SetRules.{no_set}

-- ---- the empty set

pub empty_words : (out : List ℕ) → 3 ≤ length out → set (set (set out 0 0) 1 0) 2 0 ≡ set_words [] ++ drop (length (set_words [])) out
unfolding set_words offsets flatten
empty_words [] h = absurd (let z : ⊥ = omega arith in z)
empty_words (a ∷ []) h = absurd (let z : ⊥ = omega arith in z)
empty_words (a ∷ b ∷ []) h = absurd (let z : ⊥ = omega arith in z)
empty_words (a ∷ b ∷ d ∷ out) h = refl

-- ---- the lists

-- the part that is lent is the list
pub list_lent : (ws : List ℕ) (k j a e : ℕ) → k ≡ get_or ws 0 0 → a ≡ get_or ws (2 + j) 0 → e ≡ get_or ws (3 + j) 0
    → take (3 + k + e - (3 + k + a)) (drop (3 + k + a) ws) ≡ pattern_in ws j
unfolding pattern_in
list_lent ws k j a e u p q =
    let s : 3 + k + e - (3 + k + a) ≡ e - a = omega arith in
    rw (s, ← p, ← q, ← u) refl

-- ---- is_set

pub no_sizes : (ws : List ℕ) → (SizesFit ws → ⊥) → false ≡ is_set ws
no_sizes ws h = no_set ws (λ f. h f.offsets.sizes)

pub no_first : (ws : List ℕ) → (get_or ws 2 0 ≡ 0 → ⊥) → false ≡ is_set ws
no_first ws h = no_set ws (λ f. h f.offsets.first)

pub no_rise : (ws : List ℕ) (k : ℕ) → k ≡ get_or ws 0 0 → (OffsetsRise ws k → ⊥) → false ≡ is_set ws
no_rise ws k e h = no_set ws (λ f. h (rw e f.offsets.rise))

pub no_last : (ws : List ℕ) (k : ℕ) → k ≡ get_or ws 0 0 → (get_or ws (2 + k) 0 ≡ get_or ws 1 0 → ⊥) → false ≡ is_set ws
no_last ws k e h = no_set ws (λ f. h (ap (λ (a : ℕ). get_or ws (2 + a) 0) e ∙ f.offsets.last))
