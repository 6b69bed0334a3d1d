-- WHAT THE OWN FINGERPRINT DECIDES: a window that has the pattern's own fingerprint passes the
-- comparisons of neighbours among its last 17 values, since the pattern's least realization passes
-- them and both rise and fall at the same places.
use Rattle.std.specs.Prelude.{◌≡◌, ◌+◌, ◌-◌, ◌≤◌, ◌<◌}
use Rattle.lists.proofs.Prelude.{◌∙◌, ap, sym, refl, subst, ap₂, List, ℕ, suc, min, ℤ, pos, le_z, le_z_yes, ≤ℤ_refl, T, length, get_or}
use Rattle.lists.proofs.Prelude.{get_or-drop, le_refl, min-le_right, arith, last_of}
use Rattle.lists.proofs.Tests.{T-true}
use Rattle.lists.proofs.Order.{le-le_z, lt-le_z, le_z_above}
use Rattle.lists.proofs.Parts.{length-last_of}
use Rattle.lists.proofs.Members.{all_below}
use Rattle.realization.specs.Realization.{realizable, least_realization}
use Rattle.realization.proofs.LeastRealization.{least_distances, length_least}
use Rattle.global_parents.specs.GlobalParents.{global_parent}
use Rattle.global_parents.specs.Passes.{passes_at, passes}
use Rattle.global_parents.proofs.Passes.{passes_iff}
use Rattle.global_parents.proofs.Comparison.{value, passes_not_above, passes_below, below_passes, not_above_passes}
use Rattle.fingerprint.specs.Fingerprint.{fingerprint}
use Rattle.fingerprint.proofs.Fingerprint.{fingerprint_steps}
use Rattle.filter_plan.specs.Plan.{pattern_fingerprint, own_length}

-- the own fingerprint is of the values from this place on
own_from : (n : ℕ) → n - min 17 n ≡ n - 17
own_from n = omega arith

within : (n k : ℕ) → n - 17 ≤ k → suc k < n → suc (k - (n - 17)) < min 17 n
within n k h l = omega arith

-- a value of the last ones, counted from the first of all
last_value : (m : ℕ) (xs : List ℤ) (k : ℕ) → length xs - m ≤ k → value (last_of m xs) (k - (length xs - m)) ≡ value xs k
last_value m xs k h =
    get_or-drop (length xs - m) xs (k - (length xs - m)) (pos 0)
    ∙ ap (λ (n : ℕ). get_or xs n (pos 0)) (let e : length xs - m + (k - (length xs - m)) ≡ k = omega arith in e)

module _ (p : List ℕ) (r : T (realizable p)) where
  abbrev least : List ℤ
  least = least_realization p

  -- the least realization passes
  least_passes : (i : ℕ) → i < length p → T (passes_at least (global_parent p i) i)
  unfolding passes
  least_passes i h =
      let t : T (passes p least) = subst (λ (l : List ℕ). T (passes l least)) (least_distances p r) ((passes_iff least least refl).1 refl) in
      all_below (λ j. passes_at least (global_parent p j) j) (length p) t i h

  module _ (window : List ℤ) (len : length window ≡ length p) (e : fingerprint (last_of (own_length p) window) ≡ pattern_fingerprint (own_length p) p) where
    -- among the last 17 values the window rises and falls where the least realization does
    same_steps : (k : ℕ) → length p - 17 ≤ k → suc k < length p → le_z (value window k) (value window (suc k)) ≡ le_z (value least k) (value least (suc k))
    same_steps k h l =
        let m = own_length p in
        let n = length_least p r in
        let f : length window - m ≡ length p - 17 = ap (λ (x : ℕ). x - m) len ∙ own_from (length p) in
        let g : length least - m ≡ length p - 17 = ap (λ (x : ℕ). x - m) n ∙ own_from (length p) in
        let a : length (last_of m window) ≡ m = length-last_of m window (subst (λ (x : ℕ). m ≤ x) (sym len) (min-le_right 17 (length p))) in
        let b : length (last_of m least) ≡ m = length-last_of m least (subst (λ (x : ℕ). m ≤ x) (sym n) (min-le_right 17 (length p))) in
        let i = k - (length p - 17) in
        let s : suc k - (length p - 17) ≡ suc i = omega arith in
        let step = fingerprint_steps (last_of m window) (last_of m least) (a ∙ sym b) e i (subst (λ (x : ℕ). suc i < x) (sym a) (within (length p) k h l)) in
        let at : (xs : List ℤ) → length xs - m ≡ length p - 17 → (value (last_of m xs) i ≡ value xs k) × (value (last_of m xs) (suc i) ≡ value xs (suc k)) =
        (λ xs q. (
          ap (λ (n : ℕ). value (last_of m xs) (k - n)) (sym q) ∙ last_value m xs k (omega (arith, q)),
          ap (value (last_of m xs)) (sym s) ∙ ap (λ (n : ℕ). value (last_of m xs) (suc k - n)) (sym q) ∙ last_value m xs (suc k) (omega (arith, q)),
        )) in
        ap₂ le_z (sym (at window f).0) (sym (at window f).1) ∙ step ∙ ap₂ le_z (at least g).0 (at least g).1

    -- the parent is the place before it, or behind it
    pub decided_left : (g i : ℕ) → global_parent p i ≡ g → suc g ≡ i → length p - 17 ≤ g → i < length p → T (passes_at window g i)
    decided_left g i q s h l =
        let t : T (passes_at least g i) = subst (λ (x : ℕ). T (passes_at least x i)) q (least_passes i l) in
        let up : le_z (value least g) (value least (suc g)) ≡ le_z (value least g) (value least i) = ap (λ (x : ℕ). le_z (value least g) (value least x)) s in
        let same = same_steps g h (omega (arith, s, l)) ∙ up ∙ le-le_z (passes_not_above least g i t) in
        not_above_passes window g i (omega (arith, s)) (le_z_yes (T-true _ (ap (λ (x : ℕ). le_z (value window g) (value window x)) (sym s) ∙ same)))

    pub decided_right : (g i : ℕ) → global_parent p i ≡ g → suc i ≡ g → length p - 17 ≤ i → g < length p → T (passes_at window g i)
    decided_right g i q s h l =
        let t : T (passes_at least g i) = subst (λ (x : ℕ). T (passes_at least x i)) q (least_passes i (omega (arith, s, l))) in
        let up : le_z (value least i) (value least (suc i)) ≡ le_z (value least i) (value least g) = ap (λ (x : ℕ). le_z (value least i) (value least x)) s in
        let same = same_steps i h (omega (arith, s, l)) ∙ up ∙ lt-le_z (passes_below least g i (omega (arith, s)) t) in
        below_passes window g i
        (le_z_above (value window i) (value window g) (ap (λ (x : ℕ). le_z (value window i) (value window x)) (sym s) ∙ same))

-- a place that is its own parent
pub decided_root : (window : List ℤ) (i : ℕ) → T (passes_at window i i)
decided_root window i = not_above_passes window i i (le_refl i) (≤ℤ_refl (value window i))
