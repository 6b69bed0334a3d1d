-- The rise over a hit. Document 02, 2.7: the last reading minus the first, clamped to the 32-bit
-- signed range.
use Rattle.std.specs.Prelude.{◌-◌, ◌-ℤ◌}
use Rattle.lists.specs.Prelude.{cond, List, [], ℕ, suc, ℤ, pos, negsuc, lt_z, length, get_or}
use Rattle.pattern_set.specs.PatternSet.{PatternSet}

-- the nearest number from -2,147,483,648 to 2,147,483,647
unfoldable pub clamp : ℤ → ℤ
clamp z = cond (lt_z (pos 2147483647) z) (pos 2147483647) (cond (lt_z z (negsuc 2147483647)) (negsuc 2147483647) z)

-- the rise over a window of n values with this last place, where place p has the value `at p`
unfoldable pub rise_over : (ℕ → ℤ) → ℕ → ℕ → ℤ
rise_over at last n = clamp (at last -ℤ at (suc last - n))

-- the rise over the hit h, a last place and a pattern number
abbrev pub rise : PatternSet → (ℕ → ℤ) → ℕ × ℕ → ℤ
rise ps at h = rise_over at h.0 (length (get_or ps h.1 []))

-- in a text
abbrev pub rise_in : PatternSet → List ℤ → ℕ × ℕ → ℤ
rise_in ps text = rise ps (λ p. get_or text p (pos 0))
