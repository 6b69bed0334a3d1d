-- A PUSH by counters: the ring from one counter to another, what is kept of it, and three closed at
-- once.
use Rattle.std.specs.Prelude.{◌≡◌, ◌&&◌, ◌+◌, ◌-◌, ◌%◌, ◌≤◌, ◌<◌}
use Rattle.lists.proofs.Prelude.{◌∙◌, ap, sym, refl, subst, ap₂, Bool, true, false, cond, List, [], ℕ, suc}
use Rattle.lists.proofs.Prelude.{ℤ, pos, le_z, leb, ltb, ltb→lt, lt→ltb, get_or, set, arith, last_below}
use Rattle.lists.proofs.Tests.{test_ext, T-true}
use Rattle.lists.proofs.LastBelow.{last_below_yes, last_below_no, last_below_end}
use Rattle.search_model.specs.Ring.{Ring, slot, place_at, value_at, good_ring, is_old, aged, back, distance_of, kept}
use Rattle.search_model.proofs.Ring.{without, put, aged-without, kept-le, pushed-put}
use Rattle.search_model.proofs.Good.{good}
use Rattle.search_model.proofs.Push.{aged-Young}
use Rattle.open_minima.specs.declared.Kept.{Kept}
use Rattle.open_minima.specs.Pushes.{ring_at, ring_from, AreCounters, IsKept, IsPushed}

-- ---- the counters

-- the slot of open minimum i is that of its counter
pub slot_from : (first i : ℕ) → (first % 256 + i) % 256 ≡ (first + i) % 256
slot_from first i = omega arith

-- 1 or 0
pub old_one : (taken place old : ℕ) → old ≡ cond (leb (place + 256) taken) 1 0 → old ≤ 1
old_one taken place old e = go (leb (place + 256) taken) e
  where
    go : (b : Bool) → old ≡ cond b 1 0 → old ≤ 1
    go true e = omega arith
    go false e = omega arith

-- without the oldest, if it is too old, the ring starts one counter later
module _ (taken first next : ℕ) (places : List ℕ) (values : List ℤ) where
  abbrev pub start_of : ℕ
  start_of = first + cond (ltb first next && leb (get_or places (first % 256) 0 + 256) taken) 1 0

  old_is : ltb first next && leb (get_or places (first % 256) 0 + 256) taken ≡ is_old taken (ring_from first next places values)
  old_is =
      let e : first % 256 ≡ (first % 256 + 0) % 256 = omega arith in
      ap₂ (λ (b : Bool) (k : ℕ). b && leb (get_or places k 0 + 256) taken)
      (test_ext (ltb first next) (ltb 0 (next - first)) (λ t. lt→ltb 0 (next - first) (omega (arith, ltb→lt first next t)))
      (λ t. lt→ltb first next (omega (arith, ltb→lt 0 (next - first) t)))) e

  start_le : first ≤ next → start_of ≤ next
  start_le h = go (ltb first next) refl (leb (get_or places (first % 256) 0 + 256) taken)
    where
      go : (a : Bool) → ltb first next ≡ a → (b : Bool) → first + cond (a && b) 1 0 ≤ next
      go true e true = omega (arith, ltb→lt first next (T-true (ltb first next) e))
      go true e false = omega arith
      go false e b = omega arith

  pub aged_from : first ≤ next → aged taken (ring_from first next places values) ≡ ring_from start_of next places values
  aged_from h =
      aged-without taken (ring_from first next places values)
      ∙ ap (without (ring_from first next places values)) (sym old_is)
      ∙ go (ltb first next && leb (get_or places (first % 256) 0 + 256) taken)
    where
      go : (b : Bool) → without (ring_from first next places values) b ≡ ring_from (first + cond b 1 0) next places values
      go true = ap₂ (λ (n f : ℕ). ring_at n f places values) (omega arith) (omega arith)
      go false = ap₂ (λ (n f : ℕ). ring_at n f places values) (omega arith) (omega arith)

-- ---- what is kept

module _ (start next : ℕ) (places : List ℕ) (values : List ℤ) (x : ℤ) (taken : ℕ) where
  abbrev ring : Ring
  ring = ring_from start next places values

  -- of the open minima before a counter
  abbrev pub kept_before : ℕ → ℕ
  kept_before at = last_below (λ i. le_z (value_at ring i) x) (at - start)

  pub kept_all : kept ring x ≡ kept_before next
  unfolding kept
  kept_all = refl

  -- those from a counter on are closed, whatever the places
  pub kept_from : (at : ℕ) → kept (ring_from start at [] values) x ≡ kept (ring_from start next [] values) x → kept ring x ≡ kept_before at
  unfolding kept
  kept_from at e = sym e

  -- the newest before a counter
  newest_slot : (at : ℕ) → start < at → (at - 1) % 256 ≡ slot ring (at - start - 1)
  newest_slot at h = omega arith

  pub newest_place : (at : ℕ) → start < at → get_or places ((at - 1) % 256) 0 ≡ place_at ring (at - start - 1)
  newest_place at h = ap (λ (j : ℕ). get_or places j 0) (newest_slot at h)

  -- it is not above the value, and so kept
  pub kept_found : (at : ℕ) → start < at → kept ring x ≡ kept_before at → le_z (get_or values ((at - 1) % 256) (pos 0)) x ≡ true
      → IsKept taken start ring x (record { at = at; distance = taken - get_or places ((at - 1) % 256) 0 })
  kept_found at h e t =
      let n = at - start in
      let s = newest_slot at h in
      let k : n ≡ kept ring x = last_below_yes (λ i. le_z (value_at ring i) x) n (omega arith)
      (ap (λ (j : ℕ). le_z (get_or values j (pos 0)) x) (sym s) ∙ t) ∙ sym e in
      let m : suc (n - 1) ≡ kept ring x = omega arith in
      record { at = omega arith; distance = ap (λ (j : ℕ). taken - get_or places j 0) s ∙ ap (back taken ring) m }

  -- it is above the value, and so closed
  pub kept_closed : (at : ℕ) → start < at → kept ring x ≡ kept_before at → le_z (get_or values ((at - 1) % 256) (pos 0)) x ≡ false
      → kept ring x ≡ kept_before (at - 1)
  kept_closed at h e t =
      let n = at - start in
      let l = last_below_no (λ i. le_z (value_at ring i) x) n (omega arith) (ap (λ (j : ℕ). le_z (get_or values j (pos 0)) x) (sym (newest_slot at h)) ∙ t) in
      let q : n - 1 ≡ at - 1 - start = omega arith in
      e ∙ l ∙ ap (last_below (λ i. le_z (value_at ring i) x)) q

  -- all are closed
  pub kept_none : (at : ℕ) → start ≤ at → at ≤ start → kept ring x ≡ kept_before at → IsKept taken start ring x (record { at = start; distance = 0 })
  kept_none at h l e =
      let k : 0 ≡ kept ring x = last_below_end (λ i. le_z (value_at ring i) x) (at - start) (omega arith) ∙ sym e in
      record { at = omega arith; distance = ap (back taken ring) k }

-- ---- three closed at once

-- how many of three tests fail before the first that holds
abbrev failed_first : Bool → Bool → Bool → ℕ
failed_first a b c = cond a 0 (cond b 1 (cond c 2 3))

pub failed_few : (a b c : Bool) (n : ℕ) → n ≡ failed_first a b c → n ≤ 3
failed_few true b c n e = omega arith
failed_few false true c n e = omega arith
failed_few false false true n e = omega arith
failed_few false false false n e = omega arith

module _ (start next : ℕ) (values : List ℤ) (x : ℤ) where
  -- is the value in the slot of a counter not above
  abbrev NotAbove : ℕ → Bool
  NotAbove at = le_z (get_or values (at % 256) (pos 0)) x

  -- those from the counter on are all closed
  abbrev Closed : ℕ → Type 0
  Closed at = kept (ring_from start next [] values) x ≡ kept_before start next [] values x 0 at

  one-Closed : (at to : ℕ) → to ≡ at - 1 → start < at → NotAbove to ≡ false → Closed at → Closed to
  one-Closed at to e h t s = subst Closed (sym e) (kept_closed start next [] values x 0 at h s (ap NotAbove (sym e) ∙ t))

  Closed-from : (at n : ℕ) → at ≡ next - n → start ≤ at → Closed at
      → (start ≤ next - n) × (next - n ≤ next) × (kept (ring_from start (next - n) [] values) x ≡ kept (ring_from start next [] values) x)
  unfolding kept
  Closed-from at n e h s = (omega arith, omega arith, sym (subst Closed e s))

  pub three_closed : start + 3 ≤ next → (n : ℕ) → n ≡ failed_first (NotAbove (next - 1)) (NotAbove (next - 2)) (NotAbove (next - 3))
      → (start ≤ next - n) × (next - n ≤ next) × (kept (ring_from start (next - n) [] values) x ≡ kept (ring_from start next [] values) x)
  three_closed h n e = go (NotAbove (next - 1)) refl (NotAbove (next - 2)) refl (NotAbove (next - 3)) refl e
    where
      none : Closed next
      none = kept_all start next [] values x 0

      go : (a : Bool) → NotAbove (next - 1) ≡ a → (b : Bool) → NotAbove (next - 2) ≡ b → (c : Bool) → NotAbove (next - 3) ≡ c → n ≡ failed_first a b c
          → (start ≤ next - n) × (next - n ≤ next) × (kept (ring_from start (next - n) [] values) x ≡ kept (ring_from start next [] values) x)
      go true p b q c r e = Closed-from next n (omega arith) (omega arith) none
      go false p true q c r e =
          Closed-from (next - 1) n (omega arith) (omega arith) (one-Closed next (next - 1) refl (omega arith) p none)
      go false p false q true r e =
          Closed-from (next - 2) n (omega arith) (omega arith) (one-Closed (next - 1) (next - 2) (omega arith) (omega arith) q
          (one-Closed next (next - 1) refl (omega arith) p none))
      go false p false q false r e =
          Closed-from (next - 3) n (omega arith) (omega arith) (one-Closed (next - 2) (next - 3) (omega arith) (omega arith) r
          (one-Closed (next - 1) (next - 2) (omega arith) (omega arith) q (one-Closed next (next - 1) refl (omega arith) p none)))

-- ---- the push

module _ (taken first next : ℕ) (places : List ℕ) (values : List ℤ) (c : AreCounters taken first next) (start : ℕ)
    (s : start ≡ start_of taken first next places values) where
  abbrev before : Ring
  before = ring_from first next places values

  abbrev young : Ring
  young = ring_from start next places values

  is_young : aged taken before ≡ young
  is_young = aged_from taken first next places values c.ordered ∙ ap (λ (f : ℕ). ring_from f next places values) (sym s)

  pub start_ordered : start ≤ next
  start_ordered = rw s (start_le taken first next places values c.ordered)

  -- the places of those left are before the next one
  pub young_below : good_ring taken before ≡ true → (j : ℕ) → j < next - start → place_at young j < taken
  young_below g = subst (λ (r : Ring). (j : ℕ) → j < r.minima → place_at r j < taken) is_young (aged-Young taken before (good taken before g)).below

  -- what the parts of the push make together
  pub is_pushed : (x : ℤ) (k : Kept) (ps : List ℕ) (vs : List ℤ) → IsKept taken start young x k → ps ≡ set places (k.at % 256) taken
      → vs ≡ set values (k.at % 256) x
      → IsPushed taken before x ps vs (record { first = start; next = k.at + 1; distance = k.distance })
  unfolding distance_of
  is_pushed x k ps vs h p v =
      let n = kept young x in
      let at : k.at % 256 ≡ slot young n = ap (λ (j : ℕ). j % 256) h.at ∙ sym (slot_from start n) in
      let q : k.at + 1 - start ≡ n + 1 = omega (arith, h.at) in
      let made : ring_from start (k.at + 1) ps vs ≡ put taken young x = λ i. record {
        minima = q i;
        first = start % 256;
        places = (p ∙ ap (λ (j : ℕ). set places j taken) at) i;
        values = (v ∙ ap (λ (j : ℕ). set values j x) at) i;
      } in
      record {
        ring = made ∙ ap (λ (r : Ring). put taken r x) (sym is_young) ∙ sym (pushed-put taken before x);
        counters = record { ordered = omega (arith, h.at); small = omega (arith, h.at, kept-le young x, start_ordered, c.small) };
        distance = h.distance ∙ ap (λ (r : Ring). back taken r (kept r x)) (sym is_young);
      }
