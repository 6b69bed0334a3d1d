-- What the check of the open minima says of each of them, for any ring.
use Rattle.std.specs.Prelude.{◌≡◌, ◌&&◌, ◌||◌, ◌+◌, ◌≤◌, ◌<◌}
use Rattle.lists.proofs.Prelude.{sym, refl, Bool, ℕ, zero, suc, pred, le_z, T, eqb, leb, ltb, leb→le, le→leb, eqb→eq, ltb→lt}
use Rattle.lists.proofs.Prelude.{lt→ltb, eqb_refl, arith, ne_eqb, tabulate, all}
use Rattle.lists.proofs.Tests.{and_split, and_join}
use Rattle.lists.proofs.Members.{all_below, below_all}
use Rattle.search_model.specs.Ring.{Ring, place_at, value_at, good_ring}

pub record Good (taken : ℕ) (r : Ring) : Type 0 where
  pub rises : (i : ℕ) → suc i < r.minima → place_at r i < place_at r (suc i)
  pub recent : (i : ℕ) → i < r.minima → taken ≤ place_at r i + 256
  pub ends : (i : ℕ) → suc i ≡ r.minima → suc (place_at r i) ≡ taken
  pub climbs : (i : ℕ) → suc i < r.minima → T (le_z (value_at r i) (value_at r (suc i)))

module _ (taken : ℕ) (r : Ring) where
  -- the three tests: the open minimum after i follows it, i is recent, and the newest of n is the
  -- last value taken
  follows : ℕ → Bool
  follows i = ltb (place_at r i) (place_at r (suc i)) && le_z (value_at r i) (value_at r (suc i))

  recently : ℕ → Bool
  recently i = leb taken (place_at r i + 256)

  ending : ℕ → Bool
  ending n = eqb n 0 || eqb (suc (place_at r (pred n))) taken

  ending_some : (i : ℕ) → ending (suc i) ≡ eqb (suc (place_at r i)) taken
  unfolding ending
  ending_some i = rw (ne_eqb (suc i) 0 (λ h. (let z : ⊥ = omega arith in z))) refl

  pub Good-to : T (good_ring taken r) → Good taken r
  unfolding good_ring follows recently ending
  Good-to t =
      let first = all follows (tabulate (pred r.minima) (λ i. i)) in
      let second = all recently (tabulate r.minima (λ i. i)) in
      let a = and_split (first && second) (ending r.minima) t in
      let b = and_split first second a.0 in
      let both : (i : ℕ) → suc i < r.minima → T (ltb (place_at r i) (place_at r (suc i))) × T (le_z (value_at r i) (value_at r (suc i))) =
      λ i h. and_split (ltb (place_at r i) (place_at r (suc i))) (le_z (value_at r i) (value_at r (suc i)))
      (all_below follows (pred r.minima) b.0 i (omega arith)) in
      record {
        rises = λ i h. ltb→lt (place_at r i) (place_at r (suc i)) (both i h).0;
        recent = λ i h. leb→le taken (place_at r i + 256) (all_below recently r.minima b.1 i h);
        ends = λ i h. eqb→eq (suc (place_at r i)) taken (rw (ending_some i) at (rw (sym h) at a.1));
        climbs = λ i h. (both i h).1;
      }

  pub Good-from : Good taken r → T (good_ring taken r)
  unfolding good_ring follows recently ending
  Good-from g =
      let first = all follows (tabulate (pred r.minima) (λ i. i)) in
      let second = all recently (tabulate r.minima (λ i. i)) in
      and_join (first && second) (ending r.minima)
      (and_join first second
      (below_all follows (pred r.minima) (λ i h.
      and_join (ltb (place_at r i) (place_at r (suc i))) (le_z (value_at r i) (value_at r (suc i)))
      (lt→ltb (place_at r i) (place_at r (suc i)) (g.rises i (omega arith))) (g.climbs i (omega arith))))
      (below_all recently r.minima (λ i h. le→leb taken (place_at r i + 256) (g.recent i h))))
      (last r.minima refl)
    where
      last : (n : ℕ) → r.minima ≡ n → T (ending r.minima)
      last zero e = rw e tt
      last (suc n) e = rw (e, ending_some n, g.ends n (sym e)) (eqb_refl taken)
