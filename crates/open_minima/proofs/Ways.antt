-- The ways through this crate's functions, in the machine's words.
use Rattle.std.specs.Prelude.{◌≡◌, ◌&&◌, ◌+◌, ◌-◌, ◌%◌, ◌≤◌, ◌<◌}
use Rattle.lists.proofs.Prelude.{◌∙◌, ap, sym, refl, subst, ap₂, Bool, true, false, cond, ℕ, zero, suc}
use Rattle.lists.proofs.Prelude.{ℤ, le_z, T, ltb, ltb→lt, lt→ltb, set, add-one, dec_lt, arith, last_below}
use Rattle.lists.proofs.Tests.{and_split, and_join, test_ext, T-true, true-T}
use Rattle.lists.proofs.LastBelow.{last_below_yes, last_below_no, last_below_end}
use Rattle.answers.specs.declared.SearchState.{SearchState}
use Rattle.search_model.specs.Ring.{Ring, slot, place_at, value_at, good_ring, is_old, aged, back, distance_of, kept, pushed}
use Rattle.search_model.proofs.Ring.{without, aged-without, kept-le, pushed-put}
use Rattle.search_model.proofs.Good.{good, is-Good, not-Good, Good-below, Good-few}
use Rattle.search_model.proofs.Push.{aged-Young, Young-few}
use Rattle.open_minima.specs.Parts.{ring_of, with_ring, front, follows, in_order}

-- ---- the push

-- without the oldest, if it is too old, the ring starts one slot later
pub aged_by : (taken : ℕ) (r : Ring) (old : ℕ) → r.first < 256 → old ≡ cond (is_old taken r) 1 0
    → aged taken r ≡ record r { minima = r.minima - old; first = slot r old }
aged_by taken r old h e = aged-without taken r ∙ go (is_old taken r) ∙ ap (λ (n : ℕ). record r { minima = r.minima - n; first = slot r n }) (sym e)
  where
    go : (b : Bool) → without r b ≡ record r { minima = r.minima - cond b 1 0; first = slot r (cond b 1 0) }
    go true = refl
    go false = λ j. record r {
      minima = (let q : r.minima ≡ r.minima - 0 = omega arith in q) j;
      first = (let q : r.first ≡ (r.first + 0) % 256 = omega arith in q) j;
    }

module _ (r : Ring) (x : ℤ) where
  test : ℕ → Bool
  test i = le_z (value_at r i) x

  -- as many of the three newest of n are closed as fail the test before the first that holds
  pub three_closed : (n k : ℕ) → 3 ≤ n
      → k ≡ cond (le_z (value_at r (n - 1)) x) 0 (cond (le_z (value_at r (n - 2)) x) 1 (cond (le_z (value_at r (n - 3)) x) 2 3))
      → kept (front r (n - k)) x ≡ kept (front r n) x
  unfolding kept test
  three_closed n k h e = ap (λ (i : ℕ). last_below test (n - i)) e ∙ go (test (n - 1)) refl (test (n - 2)) refl (test (n - 3)) refl
    where
      one : test (n - 1) ≡ false → last_below test (n - 1) ≡ last_below test n
      one p = sym (last_below_no test n (omega arith) p)

      two : test (n - 2) ≡ false → last_below test (n - 2) ≡ last_below test (n - 1)
      two p = ap (last_below test) (let q : n - 2 ≡ n - 1 - 1 = omega arith in q)
          ∙ sym (last_below_no test (n - 1) (omega arith) (ap test (let q : n - 1 - 1 ≡ n - 2 = omega arith in q) ∙ p))

      three : test (n - 3) ≡ false → last_below test (n - 3) ≡ last_below test (n - 2)
      three p = ap (last_below test) (let q : n - 3 ≡ n - 2 - 1 = omega arith in q)
          ∙ sym (last_below_no test (n - 2) (omega arith) (ap test (let q : n - 2 - 1 ≡ n - 3 = omega arith in q) ∙ p))

      go : (a : Bool) → test (n - 1) ≡ a → (b : Bool) → test (n - 2) ≡ b → (c : Bool) → test (n - 3) ≡ c
          → last_below test (n - cond a 0 (cond b 1 (cond c 2 3))) ≡ last_below test n
      go true p b q c t = ap (last_below test) (let z : n - 0 ≡ n = omega arith in z)
      go false p true q c t = one p
      go false p false q true t = two q ∙ one p
      go false p false q false t = three t ∙ two q ∙ one p

  -- the newest of n is above the value, and so closed; it is not, and so kept; none is left
  pub kept_closed : (n : ℕ) → 0 < n → le_z (value_at r (n - 1)) x ≡ false → kept (front r (n - 1)) x ≡ kept (front r n) x
  unfolding kept
  kept_closed n h e = sym (last_below_no (λ i. le_z (value_at r i) x) n h e)

  pub kept_found : (n : ℕ) → 0 < n → le_z (value_at r (n - 1)) x ≡ true → n ≡ kept (front r n) x
  unfolding kept
  kept_found n h e = last_below_yes (λ i. le_z (value_at r i) x) n h e

  pub kept_none : (n : ℕ) → n ≤ 0 → n ≡ kept (front r n) x
  unfolding kept
  kept_none n h = (let e : n ≡ 0 = omega arith in e) ∙ last_below_end (λ i. le_z (value_at r i) x) n h

pub back_some : (taken : ℕ) (r : Ring) (n : ℕ) → 0 < n → taken - place_at r (n - 1) ≡ back taken r n
back_some taken r zero h = omega arith
back_some taken r (suc n) h = ap (λ (i : ℕ). taken - place_at r i) (omega arith)

module _ (st : SearchState) (st' : SearchState) (x : ℤ) (e : st' ≡ with_ring st (aged st.taken (ring_of st))) where
  -- the ring aged starts in a slot
  young : ring_of st' ≡ aged st.taken (ring_of st)
  young = ap ring_of e ∙ exact (aged st.taken (ring_of st)) first
    where
      first : (aged st.taken (ring_of st)).first < 256
      first = omega (arith, ap (λ (r : Ring). r.first) (aged_by st.taken (ring_of st) _ (omega arith) refl))

      exact : (r : Ring) → r.first < 256 → record r { first = r.first % 256 } ≡ r
      exact r h = λ j. record r { first = (let q : r.first % 256 ≡ r.first = omega arith in q) j }

  -- those kept are few, and the places before the next one
  pub kept_few : good_ring st.taken (ring_of st) ≡ true → (n : ℕ) → n ≡ kept (ring_of st') x → n ≤ 256
  kept_few g n k =
      let a = aged st.taken (ring_of st) in
      omega (arith, kept-le a x, Young-few st.taken a (aged-Young st.taken (ring_of st) (good st.taken (ring_of st) g)), k ∙ ap (λ (r : Ring). kept r x) young)

  pub kept_before : good_ring st.taken (ring_of st) ≡ true → (n : ℕ) → n ≡ kept (ring_of st') x → 0 < n → place_at (ring_of st') (n - 1) ≤ st'.taken
  kept_before g n k h =
      let a = aged st.taken (ring_of st) in
      let y = (aged-Young st.taken (ring_of st) (good st.taken (ring_of st) g)).below (n - 1)
      (omega (arith, kept-le a x, k ∙ ap (λ (r : Ring). kept r x) young)) in
      omega (arith, y, ap (λ (r : Ring). place_at r (n - 1)) young, ap (λ (s : SearchState). s.taken) e)

  -- what the parts of the push make together
  pub is_pushed : (n : ℕ) → n ≡ kept (ring_of st') x
      → record st' { minima = n + 1; places = set st'.places (slot (ring_of st') n) st'.taken; values = set st'.values (slot (ring_of st') n) x }
      ≡ with_ring st (pushed st.taken (ring_of st) x)
  is_pushed n k =
      let a = aged st.taken (ring_of st) in
      let on : ℕ → Ring → SearchState → SearchState = λ m r s. record s {
        minima = m + 1;
        places = set s.places (slot r m) s.taken;
        values = set s.values (slot r m) x;
      } in
      ap (λ (m : ℕ). on m (ring_of st') st') (k ∙ ap (λ (r : Ring). kept r x) young)
      ∙ ap₂ (on (kept a x)) young e
      ∙ ap (with_ring st) (sym (pushed-put st.taken (ring_of st) x))

  pub is_distance : (n : ℕ) → n ≡ kept (ring_of st') x → back st'.taken (ring_of st') n ≡ distance_of st.taken (ring_of st) x
  unfolding distance_of
  is_distance n k =
      ap (back st'.taken (ring_of st')) k
      ∙ ap₂ (λ (t : ℕ) (r : Ring). back t r (kept r x)) (ap (λ (s : SearchState). s.taken) e) young

-- ---- the next open minimum follows

pub in_order_more : (r : Ring) (i : ℕ) → in_order r i ≡ true → follows r i ≡ true → in_order r (i + 1) ≡ true
unfolding in_order
in_order_more r i e f = rw (add-one i) (ap₂ (λ (a b : Bool). a && b) e f)

in_order_at : (r : Ring) (n : ℕ) → T (in_order r n) → (i : ℕ) → i < n → T (follows r i)
unfolding in_order
in_order_at r zero t i h = absurd (let z : ⊥ = omega arith in z)
in_order_at r (suc n) t i h = let p = and_split (in_order r n) (follows r n) t in go p.1 (dec_lt i n) (in_order_at r n p.0 i)
  where
    go : T (follows r n) → Dec (i < n) → (i < n → T (follows r i)) → T (follows r i)
    go t (yes l) ih = ih l
    go t (no f) ih = let e : n ≡ i = omega arith in subst (λ (k : ℕ). T (follows r k)) e t

at_in_order : (r : Ring) (n : ℕ) → ((i : ℕ) → i < n → T (follows r i)) → T (in_order r n)
unfolding in_order
at_in_order r zero f = tt
at_in_order r (suc n) f = and_join (in_order r n) (follows r n) (at_in_order r n (λ i h. f i (omega arith))) (f n (omega arith))

pub in_order_not : (r : Ring) (n i : ℕ) → i < n → follows r i ≡ false → false ≡ in_order r n
in_order_not r n i h e = go (in_order r n) (λ t. subst T e (in_order_at r n t i h))
  where
    go : (b : Bool) → (T b → ⊥) → false ≡ b
    go true h = absurd (h tt)
    go false h = refl

-- ---- the check

module _ (taken : ℕ) (r : Ring) where
  -- no open minimum
  pub good_none : r.minima ≡ 0 → true ≡ good_ring taken r
  good_none e = sym (is-Good taken r (record {
    rises = λ i h. absurd (let z : ⊥ = omega arith in z);
    recent = λ i h. absurd (let z : ⊥ = omega arith in z);
    ends = λ i h. absurd (let z : ⊥ = omega arith in z);
    climbs = λ i h. absurd (let z : ⊥ = omega arith in z);
  }))

  -- more than there are slots
  pub good_many : 256 < r.minima → false ≡ good_ring taken r
  good_many h = not-Good taken r (λ g. (let z : ⊥ = omega (arith, Good-few taken r g) in z))

  -- something is open, and nothing is taken
  pub good_untaken : 0 < r.minima → taken ≡ 0 → false ≡ good_ring taken r
  good_untaken h e = not-Good taken r (λ g. (let z : ⊥ = omega (arith, Good-below taken r g 0 h) in z))

  -- the newest is not the last value taken
  pub good_elsewhere : 0 < r.minima → (place_at r (r.minima - 1) ≡ taken - 1 → ⊥) → false ≡ good_ring taken r
  good_elsewhere h f = not-Good taken r (λ g. f (omega (arith, g.ends (r.minima - 1) (omega arith))))

  -- the oldest is too old
  pub good_stale : 0 < r.minima → place_at r 0 + 256 < taken → false ≡ good_ring taken r
  good_stale h k = not-Good taken r (λ g. (let z : ⊥ = omega (arith, g.recent 0 h) in z))

  -- both ends are right: the order decides
  pub good_ordered : 0 < r.minima → 0 < taken → place_at r (r.minima - 1) ≡ taken - 1 → taken ≤ place_at r 0 + 256
      → in_order r (r.minima - 1) ≡ good_ring taken r
  good_ordered h k e l = test_ext (in_order r (r.minima - 1)) (good_ring taken r) to from
    where
      Later : ℕ → Bool
      Later i = ltb (place_at r i) (place_at r (suc i))

      Higher : ℕ → Bool
      Higher i = le_z (value_at r i) (value_at r (suc i))

      next : (i : ℕ) → follows r i ≡ Later i && Higher i
      next i = ap (λ (j : ℕ). ltb (place_at r i) (place_at r j) && le_z (value_at r i) (value_at r j)) (add-one i)

      each : T (in_order r (r.minima - 1)) → (i : ℕ) → suc i < r.minima → T (Later i) × T (Higher i)
      each t i m = and_split (Later i) (Higher i) (subst T (next i) (in_order_at r (r.minima - 1) t i (omega arith)))

      recent : T (in_order r (r.minima - 1)) → (i : ℕ) → i < r.minima → taken ≤ place_at r i + 256
      recent t zero m = l
      recent t (suc i) m = omega (arith, recent t i (omega arith), ltb→lt (place_at r i) (place_at r (suc i)) (each t i m).0)

      ends : (i : ℕ) → suc i ≡ r.minima → suc (place_at r i) ≡ taken
      ends i m =
          let q : r.minima - 1 ≡ i = omega arith in
          omega (arith, subst (λ (j : ℕ). place_at r j ≡ taken - 1) q e)

      to : T (in_order r (r.minima - 1)) → T (good_ring taken r)
      to t = T-true (good_ring taken r) (is-Good taken r (record {
        rises = λ i m. ltb→lt (place_at r i) (place_at r (suc i)) (each t i m).0;
        recent = recent t;
        ends = ends;
        climbs = λ i m. (each t i m).1;
      }))

      from : T (good_ring taken r) → T (in_order r (r.minima - 1))
      from t =
          let g = good taken r (true-T (good_ring taken r) t) in
          at_in_order r (r.minima - 1)
          (λ i m. subst T (sym (next i)) (and_join (Later i) (Higher i) (lt→ltb (place_at r i) (place_at r (suc i)) (g.rises i (omega arith)))
          (g.climbs i (omega arith))))
