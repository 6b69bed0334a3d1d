-- The lists of n numbers below m: those with each number at most its place are among them, and they
-- rise.
use Rattle.std.specs.Prelude.{◌≡◌, ◌∷◌, ◌+◌, ◌≤◌, ◌<◌}
use Rattle.lists.proofs.Prelude.{◌∙◌, ap, refl, subst, List, [], map, Memᴰ, Memᴰ-head, Memᴰ-not-nil, Memᴰ-eq_of_singleton}
use Rattle.lists.proofs.Prelude.{ℕ, zero, suc, length, arith}
use Rattle.lists.proofs.Members.{mem-map}
use Rattle.lists.proofs.Rows.{mem-flatten-tabulate}
use Rattle.lists.proofs.Rising.{Rising, Rising-map, Rising-rows}
use Rattle.lists.proofs.Before.{Before, before_first, before_rest}
use Rattle.cartesian.proofs.Injective.{Ok}
use Rattle.realization.specs.Realization.{Realizable}
use Rattle.realization.proofs.Realizable.{Realizable-Ok}
use Rattle.catalogue.specs.Catalogue.{lists_below}

pub lists_length : (m n : ℕ) (ds : List ℕ) → Memᴰ ds (lists_below m n) → length ds ≡ n
unfolding lists_below
lists_length m zero ds h = ap length (Memᴰ-eq_of_singleton h)
lists_length m (suc n) ds h =
    let row = (mem-flatten-tabulate m (λ d. map (λ es. d ∷ es) (lists_below m n)) ds).0 h in
    let r = (mem-map (λ es. row.0 ∷ es) (lists_below m n) ds).0 row.2 in
    ap length r.2 ∙ ap suc (lists_length m n r.0 r.1)

Ok-listed : (m k : ℕ) (ds : List ℕ) → Ok k ds → k + length ds ≤ m → Memᴰ ds (lists_below m (length ds))
unfolding lists_below
Ok-listed m k [] o h = Memᴰ-head refl
Ok-listed m k (d ∷ ds) o h =
    (mem-flatten-tabulate m (λ d. map (λ es. d ∷ es) (lists_below m (length ds))) (d ∷ ds)).1
    (d, omega (arith, o.0), (mem-map (λ es. d ∷ es) (lists_below m (length ds)) (d ∷ ds)).1 (ds, Ok-listed m (suc k) ds o.1 (omega arith), refl))

-- so a realizable list is among the lists of numbers below its length
pub Realizable-listed : (n : ℕ) (ds : List ℕ) → Realizable ds → length ds ≡ n → Memᴰ ds (lists_below n n)
Realizable-listed n ds r e =
    subst (λ (k : ℕ). Memᴰ ds (lists_below k k)) e (Ok-listed (length ds) 0 ds (Realizable-Ok ds r) (omega arith))

pub lists_rise : (m n : ℕ) → Rising Before (lists_below m n)
unfolding lists_below
lists_rise m zero = (λ y h. absurd (Memᴰ-not-nil h), tt)
lists_rise m (suc n) =
    Rising-rows Before m (λ d. map (λ es. d ∷ es) (lists_below m n))
    (λ d h. Rising-map Before Before (λ es. d ∷ es) (lists_below m n) (λ es fs t. before_rest d es d fs refl t) (lists_rise m n))
    (λ d e ds es h k p q. first d e ds es h ((mem-map (λ fs. d ∷ fs) (lists_below m n) ds).0 p) ((mem-map (λ fs. e ∷ fs) (lists_below m n) es).0 q))
  where
    first : (d e : ℕ) (ds es : List ℕ) → d < e → (us : List ℕ) × Memᴰ us (lists_below m n) × (ds ≡ d ∷ us)
        → (vs : List ℕ) × Memᴰ vs (lists_below m n) × (es ≡ e ∷ vs)
        → Before ds es
    first d e ds es h p q = rw (p.2, q.2) (before_first d p.0 e q.0 h)
