-- The walk from zeros on: in the rising list of all realizable lists of a length, the next list of
-- each is the one behind it, as whatever comes after it stands behind it; and zeros stand first.
use Rattle.std.specs.Prelude.{◌≡◌, ◌⊎◌, ◌↔◌, ◌∷◌}
use Rattle.lists.proofs.Prelude.{◌∙◌, ap, sym, refl, subst, inl, inr, None, Some, List, [], Memᴰ, Memᴰ-head, Memᴰ-tail}
use Rattle.lists.proofs.Prelude.{Memᴰ-not-nil, Memᴰ-cases_cons, ℕ, T, length, replicate, length-replicate, select, before}
use Rattle.lists.proofs.Tests.{T-true}
use Rattle.lists.proofs.Select.{mem-select}
use Rattle.lists.proofs.Rising.{Rising, Rising-at, Rising-select}
use Rattle.lists.proofs.Before.{Before, before_irrefl, before_trans, before_asym, before_zeros}
use Rattle.realization.specs.Realization.{Realizable, realizable}
use Rattle.realization.proofs.Realizable.{realizable_iff}
use Rattle.realization.proofs.Walk.{realizable-walk, walk_zeros}
use Rattle.catalogue.specs.Catalogue.{lists_below, next_list, IsCatalogue}
use Rattle.catalogue.proofs.Lists.{lists_length, Realizable-listed, lists_rise}
use Rattle.catalogue.proofs.Next.{next_iff, last_iff}

-- each list's next one is the one behind it, and the last one has none
abbrev pub Linked : List ℕ → List (List ℕ) → Type 0
Linked ds [] = next_list ds ≡ None
Linked ds (es ∷ ls) = (next_list ds ≡ Some es) × Linked es ls

-- ---- all realizable lists of a length, rising

abbrev all_of : ℕ → List (List ℕ)
all_of n = select realizable (lists_below n n)

all_iff : (n : ℕ) (ds : List ℕ) → Memᴰ ds (all_of n) ↔ (Realizable ds × (length ds ≡ n))
all_iff n ds = (
  λ m. let p = (mem-select realizable (lists_below n n) ds).0 m in ((realizable_iff ds).0 p.1, lists_length n n ds p.0),
  λ p. (mem-select realizable (lists_below n n) ds).1 (Realizable-listed n ds p.0 p.1, (realizable_iff ds).1 p.0),
)

all_rise : (n : ℕ) → Rising Before (all_of n)
all_rise n = Rising-select Before realizable (lists_below n n) (lists_rise n n)

-- ---- zeros

pub zeros_realized : (n : ℕ) → Realizable (replicate n 0)
zeros_realized n = (realizable_iff (replicate n 0)).0 (T-true (realizable (replicate n 0)) (realizable-walk (replicate n 0) ∙ walk_zeros [] n))

-- a rising list that has zeros begins with them
zeros_first : (n : ℕ) (ls : List (List ℕ)) → Rising Before ls → ((ds : List ℕ) → Memᴰ ds ls → length ds ≡ n) → Memᴰ (replicate n 0) ls
    → (rest : List (List ℕ)) × (ls ≡ replicate n 0 ∷ rest)
zeros_first n [] r h m = absurd (Memᴰ-not-nil m)
zeros_first n (x ∷ xs) r h m = go (Memᴰ-cases_cons m)
  where
    go : (replicate n 0 ≡ x) ⊎ Memᴰ (replicate n 0) xs → (rest : List (List ℕ)) × ((x ∷ xs) ≡ replicate n 0 ∷ rest)
    go (inl e) = (xs, ap (λ (l : List ℕ). l ∷ xs) (sym e))
    go (inr k) =
        absurd (before_zeros x (subst (λ (j : ℕ). T (before x (replicate j 0))) (sym (h x (Memᴰ-head refl))) (r.0 (replicate n 0) k)))

-- ---- the walk

-- ds and then ls rise and are realizable lists of one length, and ls has all that come after ds
record Stretch (n : ℕ) (ds : List ℕ) (ls : List (List ℕ)) : Type 0 where
  rises : Rising Before (ds ∷ ls)
  sound : (fs : List ℕ) → Memᴰ fs (ds ∷ ls) → Realizable fs × (length fs ≡ n)
  whole : (fs : List ℕ) → Realizable fs → length fs ≡ n → T (before ds fs) → Memᴰ fs ls

linked : (n : ℕ) (ds : List ℕ) (ls : List (List ℕ)) → Stretch n ds ls → Linked ds ls
linked n ds [] s = (last_iff ds).1 (λ fs r e t. Memᴰ-not-nil (s.whole fs r (e ∙ (s.sound ds (Memᴰ-head refl)).1) t))
linked n ds (es ∷ ls) s =
    let len : length ds ≡ n = (s.sound ds (Memᴰ-head refl)).1 in
    let p = s.sound es (Memᴰ-tail (Memᴰ-head refl)) in
    let t : T (before ds es) = s.rises.0 es (Memᴰ-head refl) in (
      (next_iff ds es).1
          (record {
            realized = p.0;
            equally_long = p.1 ∙ sym len;
            after = t;
            first = λ fs r e u. not_before fs (Memᴰ-cases_cons (s.whole fs r (e ∙ len) u));
          }),
      linked n es ls
          (record {
            rises = s.rises.1;
            sound = λ fs m. s.sound fs (Memᴰ-tail m);
            whole = λ fs r e u. behind fs u (Memᴰ-cases_cons (s.whole fs r e (before_trans ds es fs t u)));
          }),
    )
  where
    not_before : (fs : List ℕ) → (fs ≡ es) ⊎ Memᴰ fs ls → T (before fs es) → ⊥
    not_before fs (inl e) u = before_irrefl es (subst (λ (l : List ℕ). T (before l es)) e u)
    not_before fs (inr m) u = before_asym fs es u (s.rises.1.0 fs m)

    behind : (fs : List ℕ) → T (before es fs) → (fs ≡ es) ⊎ Memᴰ fs ls → Memᴰ fs ls
    behind fs u (inl e) = absurd (before_irrefl es (subst (λ (l : List ℕ). T (before es l)) e u))
    behind fs u (inr m) = m

-- THE WALK, for every length: from zeros on, each list is followed by its next one until there is
-- none, and these are the realizable lists of the length
pub walk_meets : (n : ℕ) → (ls : List (List ℕ)) × Linked (replicate n 0) ls × IsCatalogue n (replicate n 0 ∷ ls)
walk_meets n =
    let f = zeros_first n (all_of n) (all_rise n) (λ ds m. ((all_iff n ds).0 m).1) ((all_iff n (replicate n 0)).1 (zeros_realized n, length-replicate n 0)) in
    let rises = subst (Rising Before) f.1 (all_rise n) in
    let member : (ds : List ℕ) → Memᴰ ds (replicate n 0 ∷ f.0) ↔ (Realizable ds × (length ds ≡ n)) =
    λ ds. subst (λ (l : List (List ℕ)). Memᴰ ds l ↔ (Realizable ds × (length ds ≡ n))) f.1 (all_iff n ds) in (
      f.0,
      linked n (replicate n 0) f.0
          (record { rises = rises; sound = λ fs m. (member fs).0 m; whole = λ fs r e t. behind fs t (Memᴰ-cases_cons ((member fs).1 (r, e))) }),
      record { exactly = member; rising = λ i k h l. Rising-at Before (replicate n 0 ∷ f.0) [] rises i k h l },
    )
  where
    behind : {ls : List (List ℕ)} (fs : List ℕ) → T (before (replicate n 0) fs) → (fs ≡ replicate n 0) ⊎ Memᴰ fs ls → Memᴰ fs ls
    behind fs t (inl e) = absurd (before_irrefl fs (subst (λ (l : List ℕ). T (before l fs)) (sym e) t))
    behind fs t (inr m) = m
