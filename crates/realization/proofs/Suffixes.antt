-- The distances of a tail of a realizable list.
use Rattle.std.specs.Prelude.{◌≡◌}
use Rattle.lists.proofs.Prelude.{◌∙◌, ap, sym, List, ℕ, T, length, arith, last_of}
use Rattle.lists.proofs.Parts.{last_of_all}
use Rattle.cartesian.specs.Cartesian.{distances}
use Rattle.cartesian.specs.Windows.{suffix_distances}
use Rattle.cartesian.proofs.Window.{distances-last_of}
use Rattle.realization.specs.Realization.{realizable, least_realization}
use Rattle.realization.proofs.LeastRealization.{least_distances, length_least}

-- the distances of the suffixes of a realization
pub suffix_realized : (m : ℕ) (h : List ℕ) → T (realizable h) → distances (last_of m (least_realization h)) ≡ suffix_distances m h
suffix_realized m h t = distances-last_of m (least_realization h) ∙ ap (suffix_distances m) (least_distances h t)

pub suffix_all : (h : List ℕ) → T (realizable h) → suffix_distances (length h) h ≡ h
suffix_all h t =
    sym (suffix_realized (length h) h t) ∙ ap distances (last_of_all (length h) (least_realization h) (omega (arith, length_least h t))) ∙ least_distances h t
