-- The open places before a place i are i - 1 and what its link leads to, and so on down: from an
-- open place on, the way of links is the same.
use Rattle.std.specs.Prelude.{◌≡◌, ◌||◌, ◌∷◌, ◌+◌, ◌-◌, ◌≤◌, ◌<◌}
use Rattle.lists.proofs.Tests.{T-true, true-T, clash, and_split}
use Rattle.lists.proofs.Prelude.{◌∙◌, ap, sym, refl, Bool, true, false, cond, List, [], map, ℕ, zero, suc, T, eqb, leb}
use Rattle.lists.proofs.Prelude.{eqb-suc-suc, eqb-zero-suc, length, get_or, drop, drop_of_length-le, drop-cons, add-one, dec_lt, arith, eq-eqb}
use Rattle.lists.proofs.Prelude.{ne_eqb, leb-true}
use Rattle.lists.proofs.Prelude.{leb-false, any, select}
use Rattle.realization.specs.Realization.{realizable}
use Rattle.realization.specs.Walk.{leads, opened, walk}
use Rattle.realization.proofs.Walk.{realizable-walk}
use Rattle.compute_realization.specs.OpenDistances.{open_distances, Led}

-- ---- which places are among those that are opened

no_zero : (os : List ℕ) → any (eqb 0) (map suc os) ≡ false
unfolding any
no_zero [] = refl
no_zero (o ∷ os) = rw (eqb-zero-suc o) (no_zero os)

any-map-suc : (y : ℕ) (os : List ℕ) → any (eqb (suc y)) (map suc os) ≡ any (eqb y) os
unfolding any
any-map-suc y [] = refl
any-map-suc y (o ∷ os) = rw (eqb-suc-suc y o) (ap (λ (b : Bool). eqb y o || b) (any-map-suc y os))

-- what is not nearer than d is kept
any_kept : (d y : ℕ) (os : List ℕ) → d ≤ y → any (eqb y) (select (leb d) os) ≡ any (eqb y) os
unfolding any select
any_kept d y [] h = refl
any_kept d y (o ∷ os) h = go (leb d o) refl (any_kept d y os h)
  where
    go : (b : Bool) → leb d o ≡ b → any (eqb y) (select (leb d) os) ≡ any (eqb y) os
        → any (eqb y) (cond b (o ∷ select (leb d) os) (select (leb d) os)) ≡ eqb y o || any (eqb y) os
    go true e ih = ap (λ (b : Bool). eqb y o || b) ih
    go false e ih = rw (ne_eqb y o (λ q. omega (arith, leb-false d o e))) ih

-- what is nearer than d is not
any_dropped : (d y : ℕ) (os : List ℕ) → y < d → any (eqb y) (select (leb d) os) ≡ false
unfolding any select
any_dropped d y [] h = refl
any_dropped d y (o ∷ os) h = go (leb d o) refl (any_dropped d y os h)
  where
    go : (b : Bool) → leb d o ≡ b → any (eqb y) (select (leb d) os) ≡ false → any (eqb y) (cond b (o ∷ select (leb d) os) (select (leb d) os)) ≡ false
    go true e ih = rw (ne_eqb y o (λ q. omega (arith, leb-true d o e))) ih
    go false e ih = ih

pub one_open : (d : ℕ) (os : List ℕ) → any (eqb 1) (opened d os) ≡ true
unfolding any
one_open zero os = refl
one_open (suc d) os = refl

zero_shut : (d : ℕ) (os : List ℕ) → any (eqb 0) (opened d os) ≡ false
unfolding any
zero_shut zero os = refl
zero_shut (suc d) os = no_zero (select (leb (suc d)) os)

-- after a distance 0 nothing is open but its own place
pub opened_none : (y : ℕ) (os : List ℕ) → 0 < y → any (eqb (suc y)) (opened 0 os) ≡ false
unfolding any
opened_none y os h = rw (ne_eqb (suc y) 1 (λ q. omega arith)) refl

pub opened_kept : (d y : ℕ) (os : List ℕ) → 0 < d → d ≤ y → any (eqb (suc y)) (opened d os) ≡ any (eqb y) os
unfolding any
opened_kept zero y os h k = absurd (let z : ⊥ = omega arith in z)
opened_kept (suc d) y os h k = rw (ne_eqb (suc y) 1 (λ q. omega arith)) (any-map-suc y (select (leb (suc d)) os) ∙ any_kept (suc d) y os k)

pub opened_shut : (d y : ℕ) (os : List ℕ) → 0 < y → y < d → any (eqb (suc y)) (opened d os) ≡ false
unfolding any
opened_shut zero y os h k = absurd (let z : ⊥ = omega arith in z)
opened_shut (suc d) y os h k = rw (ne_eqb (suc y) 1 (λ q. omega arith)) (any-map-suc y (select (leb (suc d)) os) ∙ any_dropped (suc d) y os k)

-- an open place is one of the list
pub open_le : (ds : List ℕ) (i x : ℕ) → any (eqb x) (open_distances ds i) ≡ true → x ≤ i
unfolding open_distances any
open_le ds zero x e = clash e refl
open_le ds (suc i) zero e = omega arith
open_le ds (suc i) (suc zero) e = omega arith
open_le ds (suc i) (suc (suc y)) e = go (get_or ds i 0) refl (open_le ds i (suc y))
  where
    go : (d : ℕ) → get_or ds i 0 ≡ d → (any (eqb (suc y)) (open_distances ds i) ≡ true → suc y ≤ i) → suc (suc y) ≤ suc i
    go zero q ih = clash (rw q at e) (opened_none (suc y) (open_distances ds i) (omega arith))
    go (suc d) q ih = near (dec_lt (suc y) (suc d))
      where
        near : Dec (suc y < suc d) → suc (suc y) ≤ suc i
        near (yes l) = clash (rw q at e) (opened_shut (suc d) (suc y) (open_distances ds i) (omega arith) l)
        near (no g) = omega (arith, ih (sym (opened_kept (suc d) (suc y) (open_distances ds i) (omega arith) (omega arith)) ∙ (rw q at e)))

-- where j is open at i, the places before j that are open at i are those that are open at j + 1
pub open_through : (ds : List ℕ) (i j t : ℕ) → j < i → t ≤ j → any (eqb (i - j)) (open_distances ds i) ≡ true
    → any (eqb (i - t)) (open_distances ds i) ≡ any (eqb (suc j - t)) (open_distances ds (suc j))
unfolding open_distances
open_through ds zero j t h k e = absurd (let z : ⊥ = omega arith in z)
open_through ds (suc n) j t h k e = below (dec_lt j n) (open_through ds n j t)
  where
    below : Dec (j < n) → (j < n → t ≤ j → any (eqb (n - j)) (open_distances ds n) ≡ true → any (eqb (n - t)) (open_distances ds n) ≡ any
        (eqb (suc j - t)) (open_distances ds (suc j)))
        → any (eqb (suc n - t)) (opened (get_or ds n 0) (open_distances ds n)) ≡ any (eqb (suc j - t)) (open_distances ds (suc j))
    below (no g) ih = let q : n ≡ j = omega arith in rw q refl
    below (yes l) ih =
        let p : suc n - j ≡ suc (n - j) = omega arith in
        let q : suc n - t ≡ suc (n - t) = omega arith in
        rw q (go (get_or ds n 0) (rw p at e))
      where
        go : (d : ℕ) → any (eqb (suc (n - j))) (opened d (open_distances ds n)) ≡ true
            → any (eqb (suc (n - t))) (opened d (open_distances ds n)) ≡ any (eqb (suc j - t)) (open_distances ds (suc j))
        go zero r = clash r (opened_none (n - j) (open_distances ds n) (omega arith))
        go (suc d) r = near (dec_lt (n - j) (suc d))
          where
            near : Dec (n - j < suc d) → any (eqb (suc (n - t))) (opened (suc d) (open_distances ds n)) ≡ any (eqb (suc j - t)) (open_distances ds (suc j))
            near (yes m) = clash r (opened_shut (suc d) (n - j) (open_distances ds n) (omega arith) m)
            near (no g) =
                opened_kept (suc d) (n - t) (open_distances ds n) (omega arith) (omega arith)
                ∙ ih l k (sym (opened_kept (suc d) (n - j) (open_distances ds n) (omega arith) (omega arith)) ∙ r)

-- ---- the ways through the loop that goes down the links, from place j; t is the place that is
-- looked for

pub lead_some : (d : ℕ) (os : List ℕ) → (d ≡ 0 → ⊥) → leads d os ≡ any (eqb d) os
lead_some zero os h = absurd (h refl)
lead_some (suc d) os h = refl

pub led_le : (ds : List ℕ) (j : ℕ) → leads (get_or ds j 0) (open_distances ds j) ≡ true → get_or ds j 0 ≤ j
led_le ds j e = go (get_or ds j 0) e
  where
    go : (d : ℕ) → leads d (open_distances ds j) ≡ true → d ≤ j
    go zero e = omega arith
    go (suc d) e = open_le ds j (suc d) e

-- the place j has no parent
pub way_none : (ds : List ℕ) (j t d : ℕ) → t < j → d ≡ get_or ds j 0 → d ≡ 0 → false ≡ any (eqb (j + 1 - t)) (open_distances ds (j + 1))
unfolding open_distances
way_none ds j t d h e z =
    let p : suc j - t ≡ suc (j - t) = omega arith in
    rw (add-one, p, ← e, z) (sym (opened_none (j - t) (open_distances ds j) (omega arith)))

-- its parent is j - d
pub way_on : (ds : List ℕ) (j t d : ℕ) → t < j → d ≡ get_or ds j 0 → (d ≡ 0 → ⊥) → leads (get_or ds j 0) (open_distances ds j) ≡ true
    → any (eqb (j + 1 - t)) (open_distances ds (j + 1)) ≡ any (eqb (j - d + 1 - t)) (open_distances ds (j - d + 1))
unfolding open_distances
way_on ds j t d h e z l =
    let p : suc j - t ≡ suc (j - t) = omega arith in
    let m : d ≤ j = omega (arith, e, led_le ds j l) in
    let o : any (eqb d) (open_distances ds j) ≡ true = sym (lead_some d (open_distances ds j) z) ∙ (rw (← e) at l) in
    rw (add-one j, add-one (j - d), p, ← e) (go (dec_lt (j - t) d) m o)
  where
    go : Dec (j - t < d) → d ≤ j → any (eqb d) (open_distances ds j) ≡ true
        → any (eqb (suc (j - t))) (opened d (open_distances ds j)) ≡ any (eqb (suc (j - d) - t)) (open_distances ds (suc (j - d)))
    go (yes k) m o =
        let q : suc (j - d) - t ≡ 0 = omega arith in
        opened_shut d (j - t) (open_distances ds j) (omega arith) k ∙ sym (rw q (zero_shut (get_or ds (j - d) 0) (open_distances ds (j - d))))
    go (no k) m o =
        let q : j - (j - d) ≡ d = omega arith in
        opened_kept d (j - t) (open_distances ds j) (omega arith) (omega arith)
        ∙ open_through ds j (j - d) t (omega arith) (omega arith) (rw q o)

-- the way has come to t, or below it
pub way_end : (ds : List ℕ) (j t : ℕ) → j ≤ t → eqb j t ≡ any (eqb (j + 1 - t)) (open_distances ds (j + 1))
unfolding open_distances
way_end ds j t h = rw add-one (go (dec_lt j t))
  where
    go : Dec (j < t) → eqb j t ≡ any (eqb (suc j - t)) (open_distances ds (suc j))
    go (yes l) =
        let q : suc j - t ≡ 0 = omega arith in
        ne_eqb j t (λ e. omega arith) ∙ sym (rw q (zero_shut (get_or ds j 0) (open_distances ds j)))
    go (no g) =
        let q : suc j - t ≡ 1 = omega arith in
        eq-eqb j t (omega arith) ∙ sym (rw q (one_open (get_or ds j 0) (open_distances ds j)))

-- ---- one distance: too far, or looked for among the open places

pub leads_out : (ds : List ℕ) (i d e : ℕ) → d ≡ e → i < d → false ≡ leads e (open_distances ds i)
leads_out ds i d e q h = rw (← q) (go (leads d (open_distances ds i)) refl)
  where
    go : (b : Bool) → leads d (open_distances ds i) ≡ b → false ≡ b
    go true e = let l = open_le ds i d (sym (lead_some d (open_distances ds i) (λ z. omega arith)) ∙ e) in absurd (let z : ⊥ = omega arith in z)
    go false e = refl

pub leads_some : (ds : List ℕ) (i d e : ℕ) → d ≡ e → (d ≡ 0 → ⊥) → d ≤ i → any (eqb (i - (i - d))) (open_distances ds i) ≡ leads e (open_distances ds i)
leads_some ds i d e q z h = let p : i - (i - d) ≡ d = omega arith in rw (p, ← q) (sym (lead_some d (open_distances ds i) z))

-- ---- the whole list, at place i

pub walk_on : (ds : List ℕ) (i : ℕ) → i < length ds → leads (get_or ds i 0) (open_distances ds i) ≡ true
    → walk (open_distances ds i) (drop i ds) ≡ walk (open_distances ds (i + 1)) (drop (i + 1) ds)
unfolding walk open_distances
walk_on ds i h e = rw (drop-cons ds i 0 h, add-one, e) refl

pub walk_stop : (ds : List ℕ) (i : ℕ) → i < length ds → leads (get_or ds i 0) (open_distances ds i) ≡ false → walk (open_distances ds i) (drop i ds) ≡ false
unfolding walk
walk_stop ds i h e = rw (drop-cons ds i 0 h, e) refl

pub walk_end : (os ds : List ℕ) (i : ℕ) → length ds ≤ i → walk os (drop i ds) ≡ true
unfolding walk
walk_end os ds i h = rw (drop_of_length-le ds {i = i} h) refl

-- ---- a realizable list: the walk comes by every place

walk_step : (ds : List ℕ) (i : ℕ) → i < length ds → T (walk (open_distances ds i) (drop i ds))
    → T (leads (get_or ds i 0) (open_distances ds i)) × T (walk (open_distances ds (suc i)) (drop (suc i) ds))
unfolding walk open_distances
walk_step ds i h t =
    let os = open_distances ds i in
    and_split (leads (get_or ds i 0) os) (walk (opened (get_or ds i 0) os) (drop (suc i) ds)) (rw (drop-cons ds i 0 h) at t)

walk_at : (ds : List ℕ) (i : ℕ) → i ≤ length ds → T (walk [] ds) → T (walk (open_distances ds i) (drop i ds))
unfolding open_distances
walk_at ds zero h t = t
walk_at ds (suc i) h t = (walk_step ds i h (walk_at ds i (omega arith) t)).1

pub realizable-Led : (ds : List ℕ) → realizable ds ≡ true → Led ds (length ds)
realizable-Led ds e j h =
    true-T (leads (get_or ds j 0) (open_distances ds j)) (walk_step ds j h (walk_at ds j (omega arith) (T-true (walk [] ds) (sym (realizable-walk ds) ∙ e)))).0
