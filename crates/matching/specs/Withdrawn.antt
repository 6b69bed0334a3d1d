-- The hits of a text when a pattern is withdrawn. Document 02, 2.3: The list afterwards must be the
-- old one without that shape's hits, higher numbers one lower.
use Rattle.lists.specs.Prelude.{cond, not, List, map, ℕ, pred, eqb, ltb, select}

-- the number that a pattern has when pattern j is withdrawn
abbrev pub renumbered : ℕ → ℕ → ℕ
renumbered j i = cond (ltb j i) (pred i) i

-- the hits that are not of pattern j, in their order
abbrev pub hits_of_others : ℕ → List (ℕ × ℕ) → List (ℕ × ℕ)
hits_of_others j hs = select (λ h. not (eqb h.1 j)) hs

-- and by the new numbers
unfoldable pub hits_without : ℕ → List (ℕ × ℕ) → List (ℕ × ℕ)
hits_without j hs = map (λ h. (h.0, renumbered j h.1)) (hits_of_others j hs)
