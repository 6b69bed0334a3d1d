-- The rise over a hit depends on the values at the two ends of its window only.
use Rattle.std.specs.Prelude.{◌≡◌, ◌-◌, ◌-ℤ◌}
use Rattle.lists.proofs.Prelude.{ap₂, [], ℕ, suc, ℤ, length, get_or}
use Rattle.pattern_set.specs.PatternSet.{PatternSet}
use Rattle.matching.specs.Rise.{clamp, rise_over, rise}

pub rise_same : (ps : PatternSet) (f g : ℕ → ℤ) (h : ℕ × ℕ) → f h.0 ≡ g h.0
    → f (suc h.0 - length (get_or ps h.1 [])) ≡ g (suc h.0 - length (get_or ps h.1 []))
    → rise ps f h ≡ rise ps g h
unfolding rise_over
rise_same ps f g h last first = ap₂ (λ (a b : ℤ). clamp (a -ℤ b)) last first
