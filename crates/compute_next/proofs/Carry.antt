-- The next list of those that a walk accepts, from any open places on: where no distance behind the
-- first can be raised, it has the least greater distance there and zeros behind it; where one can,
-- the first distance stays.
use Rattle.std.specs.Prelude.{◌≡◌, ◌⊎◌, ◌∷◌, ◌++◌, ◌-◌, ◌≤◌, ◌<◌}
use Rattle.lists.proofs.Prelude.{ap, sym, refl, subst, inl, inr, true, List, [], append_assoc, ℕ, zero, suc, T, eqb, length}
use Rattle.lists.proofs.Prelude.{get_or, take, drop, replicate, length-replicate, length-drop, drop_of_length-le, drop-cons, take-suc, arith, any, before}
use Rattle.lists.proofs.Tests.{T-true, true-T, and_split, and_join}
use Rattle.lists.proofs.Before.{before_cases, before_first, before_rest, before_zeros}
use Rattle.realization.specs.Realization.{Realizable}
use Rattle.realization.specs.Walk.{leads, opened, walk}
use Rattle.realization.proofs.Realizable.{realizable_iff}
use Rattle.realization.proofs.Walk.{realizable-walk, walk_zeros}
use Rattle.compute_realization.specs.OpenDistances.{open_distances, Led}
use Rattle.catalogue.proofs.Next.{IsNext, IsLast}
use Rattle.compute_next.specs.Raised.{IsLeastAbove, NoneAbove}
use Rattle.compute_next.specs.Change.{replaced}

-- a list whose first distance leads to an open place, and whose rest is accepted from there on
walk-cons : (os : List ℕ) (d : ℕ) (ds : List ℕ) → T (walk os (d ∷ ds)) → T (leads d os) × T (walk (opened d os) ds)
unfolding walk
walk-cons os d ds t = and_split (leads d os) (walk (opened d os) ds) t

cons-walk : (os : List ℕ) (d : ℕ) (ds : List ℕ) → T (leads d os) → T (walk (opened d os) ds) → T (walk os (d ∷ ds))
unfolding walk
cons-walk os d ds h t = and_join (leads d os) (walk (opened d os) ds) h t

-- a distance above another one leads to an open place
leads_open : (os : List ℕ) (d f : ℕ) → d < f → T (leads f os) → any (eqb f) os ≡ true
leads_open os d zero h t = absurd (let z : ⊥ = omega arith in z)
leads_open os d (suc f) h t = true-T (any (eqb (suc f)) os) t

open_leads : (os : List ℕ) (f : ℕ) → 0 < f → any (eqb f) os ≡ true → T (leads f os)
open_leads os zero h e = absurd (let z : ⊥ = omega arith in z)
open_leads os (suc f) h e = T-true (any (eqb (suc f)) os) e

-- ---- no distance can be raised

abbrev pub Stuck : List ℕ → List ℕ → Type 0
Stuck os [] = Unit {0}
Stuck os (d ∷ ds) = NoneAbove os d × Stuck (opened d os) ds

-- nothing can be raised behind the end
pub Stuck-none : (ds : List ℕ) → Stuck (open_distances ds (length ds)) (drop (length ds) ds)
Stuck-none ds = rw (drop_of_length-le ds {i = length ds} (omega arith)) tt

-- one place more where nothing can be raised
pub Stuck-more : (ds : List ℕ) (i : ℕ) → i < length ds → NoneAbove (open_distances ds i) (get_or ds i 0) → Stuck (open_distances ds (suc i)) (drop (suc i) ds)
    → Stuck (open_distances ds i) (drop i ds)
unfolding open_distances
Stuck-more ds i h r s = rw (drop-cons ds i 0 h) (r, s)

Stuck-last : (os ds fs : List ℕ) → Stuck os ds → T (walk os fs) → length fs ≡ length ds → T (before ds fs) → ⊥
unfolding before
Stuck-last os [] [] s w e t = t
Stuck-last os [] (f ∷ fs) s w e t = omega arith
Stuck-last os (d ∷ ds) [] s w e t = t
Stuck-last os (d ∷ ds) (f ∷ fs) s w e t = go (before_cases d ds f fs t) (walk-cons os f fs w) (Stuck-last (opened d os) ds fs s.1)
  where
    go : (d < f) ⊎ ((d ≡ f) × T (before ds fs)) → T (leads f os) × T (walk (opened f os) fs)
        → (T (walk (opened d os) fs) → length fs ≡ length ds → T (before ds fs) → ⊥) → ⊥
    go (inl h) p ih = s.0 f h (leads_open os d f h p.0)
    go (inr q) p ih = ih (subst (λ (k : ℕ). T (walk (opened k os) fs)) (sym q.0) p.1) (omega arith) q.1

-- ---- the next list of those that are accepted

record Follows (os ds es : List ℕ) : Type 0 where
  accepted : T (walk os es)
  equally_long : length es ≡ length ds
  after : T (before ds es)
  first : (fs : List ℕ) → T (walk os fs) → length fs ≡ length ds → T (before ds fs) → T (before fs es) → ⊥

-- the first distance is raised
raised-Follows : (os : List ℕ) (d : ℕ) (ds : List ℕ) (e : ℕ) → IsLeastAbove os d e → Stuck (opened d os) ds
    → Follows os (d ∷ ds) (e ∷ replicate (length ds) 0)
raised-Follows os d ds e r s = record {
  accepted = cons-walk os e (replicate (length ds) 0) (open_leads os e (omega (arith, r.above)) r.listed) (T-true _ (walk_zeros (opened e os) (length ds)));
  equally_long = ap suc (length-replicate (length ds) 0);
  after = before_first d ds e (replicate (length ds) 0) r.above;
  first = first;
}
  where
    first : (fs : List ℕ) → T (walk os fs) → length fs ≡ suc (length ds) → T (before (d ∷ ds) fs) → T (before fs (e ∷ replicate (length ds) 0)) → ⊥
    first [] w l t u = omega arith
    first (f ∷ fs) w l t u = go (before_cases d ds f fs t) (before_cases f fs e (replicate (length ds) 0) u)
      where
        p : T (leads f os) × T (walk (opened f os) fs)
        p = walk-cons os f fs w

        n : length fs ≡ length ds
        n = omega arith

        go : (d < f) ⊎ ((d ≡ f) × T (before ds fs)) → (f < e) ⊎ ((f ≡ e) × T (before fs (replicate (length ds) 0))) → ⊥
        go (inl a) (inl b) = omega (arith, r.least f a (leads_open os d f a p.0))
        go (inl a) (inr b) = before_zeros fs (subst (λ (k : ℕ). T (before fs (replicate k 0))) (sym n) b.1)
        go (inr a) b = Stuck-last (opened d os) ds fs s (subst (λ (k : ℕ). T (walk (opened k os) fs)) (sym a.0) p.1) n a.1

-- the first distance stays
kept-Follows : (os : List ℕ) (d : ℕ) (ds es : List ℕ) → T (leads d os) → Follows (opened d os) ds es → Follows os (d ∷ ds) (d ∷ es)
kept-Follows os d ds es h p = record {
  accepted = cons-walk os d es h p.accepted;
  equally_long = ap suc p.equally_long;
  after = before_rest d ds d es refl p.after;
  first = first;
}
  where
    first : (fs : List ℕ) → T (walk os fs) → length fs ≡ suc (length ds) → T (before (d ∷ ds) fs) → T (before fs (d ∷ es)) → ⊥
    first [] w l t u = omega arith
    first (f ∷ fs) w l t u = go (before_cases d ds f fs t) (before_cases f fs d es u)
      where
        go : (d < f) ⊎ ((d ≡ f) × T (before ds fs)) → (f < d) ⊎ ((f ≡ d) × T (before fs es)) → ⊥
        go (inl a) (inl b) = omega arith
        go (inl a) (inr b) = omega (arith, b.0)
        go (inr a) (inl b) = omega (arith, a.0)
        go (inr a) (inr b) =
            p.first fs (subst (λ (k : ℕ). T (walk (opened k os) fs)) (sym a.0) (walk-cons os f fs w).1) (omega arith) a.1 b.1

-- the distances before place i stay
front-Follows : (ds : List ℕ) (i : ℕ) (es : List ℕ) → i ≤ length ds → Led ds (length ds) → Follows (open_distances ds i) (drop i ds) es
    → Follows [] ds (take i ds ++ es)
unfolding open_distances
front-Follows ds zero es h l p = p
front-Follows ds (suc i) es h l p =
    let os = open_distances ds i in
    let q = kept-Follows os (get_or ds i 0) (drop (suc i) ds) es (T-true (leads (get_or ds i 0) os) (l i (omega arith))) p in
    let r = front-Follows ds i (get_or ds i 0 ∷ es) (omega arith) l (subst (λ (k : List ℕ). Follows os k (get_or ds i 0 ∷ es)) (sym (drop-cons ds i 0 h)) q) in
    rw (take-suc ds i 0 h, append_assoc) r

-- ---- in the words of the catalogue

accepts : (fs : List ℕ) → Realizable fs → T (walk [] fs)
accepts fs r = subst T (realizable-walk fs) ((realizable_iff fs).1 r)

pub Stuck-IsLast : (ds : List ℕ) → Stuck [] ds → IsLast ds
Stuck-IsLast ds s fs r e t = Stuck-last [] ds fs s (accepts fs r) e t

pub raised-IsNext : (ds : List ℕ) (i e : ℕ) → i < length ds → Led ds (length ds) → IsLeastAbove (open_distances ds i) (get_or ds i 0) e
    → Stuck (open_distances ds (suc i)) (drop (suc i) ds) → IsNext ds (replaced ds i e)
unfolding open_distances
raised-IsNext ds i e h l r s =
    let os = open_distances ds i in
    let p = raised-Follows os (get_or ds i 0) (drop (suc i) ds) e r s in
    let n : length (drop (suc i) ds) ≡ length ds - suc i = length-drop (suc i) ds in
    let q = front-Follows ds i (e ∷ replicate (length ds - suc i) 0) (omega arith) l
    (subst (λ (m : ℕ). Follows os (drop i ds) (e ∷ replicate m 0)) n
    (subst (λ (ks : List ℕ). Follows os ks (e ∷ replicate (length (drop (suc i) ds)) 0)) (sym (drop-cons ds i 0 h)) p)) in
    record {
      realized = (realizable_iff (replaced ds i e)).0 (subst T (sym (realizable-walk (replaced ds i e))) q.accepted);
      equally_long = q.equally_long;
      after = q.after;
      first = λ fs r. q.first fs (accepts fs r);
    }
