-- The next list is the least of the realizable lists of its length that come after it: no such list
-- is missing where it is looked for, and the least of some lists is one of them and after none.
use Rattle.std.specs.Prelude.{◌≡◌, ◌⊎◌, ◌↔◌, ◌∷◌}
use Rattle.lists.proofs.Prelude.{ap, sym, refl, subst, inl, inr, Bool, true, false, cond, None, Some, same_Some}
use Rattle.lists.proofs.Prelude.{none-some, List, [], foldr, Memᴰ, Memᴰ-head, Memᴰ-tail, Memᴰ-not-nil}
use Rattle.lists.proofs.Prelude.{Memᴰ-cases_cons, ℕ, T, length, before}
use Rattle.lists.proofs.Tests.{T-true, true-T, and_split, and_join}
use Rattle.lists.proofs.Select.{mem-select}
use Rattle.lists.proofs.Before.{before_irrefl, before_trans, before_asym, before_total, before_antisym}
use Rattle.realization.specs.Realization.{Realizable, realizable}
use Rattle.realization.proofs.Realizable.{realizable_iff}
use Rattle.catalogue.specs.Catalogue.{later, lesser, least, next_list}
use Rattle.catalogue.proofs.Lists.{lists_length, Realizable-listed}

-- ---- the lists that come after one

pub later_iff : (ds es : List ℕ) → Memᴰ es (later ds) ↔ (Realizable es × (length es ≡ length ds) × T (before ds es))
unfolding later
later_iff ds es = (
  λ m.
      let p = (mem-select _ _ es).0 m in
      let t = and_split (realizable es) (before ds es) p.1 in
      ((realizable_iff es).0 t.0, lists_length _ _ es p.0, t.1),
  λ p. (mem-select _ _ es).1
      (Realizable-listed (length ds) es p.0 p.1, and_join (realizable es) (before ds es) ((realizable_iff es).1 p.0) p.2),
)

-- ---- the least of some lists

lesser_first : (ds es : List ℕ) → T (before ds es) → lesser ds es ≡ ds
unfolding lesser
lesser_first ds es t = rw (true-T (before ds es) t) refl

lesser_second : (ds es : List ℕ) → (T (before ds es) → ⊥) → lesser ds es ≡ es
unfolding lesser
lesser_second ds es f = go (before ds es) refl
  where
    go : (b : Bool) → before ds es ≡ b → cond b ds es ≡ es
    go true e = absurd (f (T-true (before ds es) e))
    go false e = refl

-- one of the lists, and none is before it
abbrev Leads : List (List ℕ) → List ℕ → Type 0
Leads ls e = Memᴰ e ls × ((y : List ℕ) → Memᴰ y ls → T (before y e) → ⊥)

-- one list more
Leads-more : (x z b : List ℕ) (zs : List (List ℕ)) → Leads (x ∷ zs) b → Leads (x ∷ z ∷ zs) (lesser z b)
Leads-more x z b zs ih = go (before_total z b)
  where
    -- a list of x, z and the others is z, or it is one of x and the others
    side : (y : List ℕ) → (y ≡ x) ⊎ Memᴰ y (z ∷ zs) → (y ≡ z) ⊎ Memᴰ y (x ∷ zs)
    side y (inl e) = inr (Memᴰ-head e)
    side y (inr k) = second (Memᴰ-cases_cons k)
      where
        second : (y ≡ z) ⊎ Memᴰ y zs → (y ≡ z) ⊎ Memᴰ y (x ∷ zs)
        second (inl e) = inl e
        second (inr m) = inr (Memᴰ-tail m)

    wider : (y : List ℕ) → (y ≡ x) ⊎ Memᴰ y zs → Memᴰ y (x ∷ z ∷ zs)
    wider y (inl e) = Memᴰ-head e
    wider y (inr k) = Memᴰ-tail (Memᴰ-tail k)

    -- it is the new one, which is before b
    new : T (before z b) → Leads (x ∷ z ∷ zs) z
    new t = (Memᴰ-tail (Memᴰ-head refl), λ y m. least y (side y (Memᴰ-cases_cons m)))
      where
        least : (y : List ℕ) → (y ≡ z) ⊎ Memᴰ y (x ∷ zs) → T (before y z) → ⊥
        least y (inl q) u = before_irrefl z (subst (λ (l : List ℕ). T (before l z)) q u)
        least y (inr k) u = ih.1 y k (before_trans y z b u t)

    -- or still b
    old : (T (before z b) → ⊥) → Leads (x ∷ z ∷ zs) b
    old f = (wider b (Memᴰ-cases_cons ih.0), λ y m. least y (side y (Memᴰ-cases_cons m)))
      where
        least : (y : List ℕ) → (y ≡ z) ⊎ Memᴰ y (x ∷ zs) → T (before y b) → ⊥
        least y (inl q) u = f (subst (λ (l : List ℕ). T (before l b)) q u)
        least y (inr k) u = ih.1 y k u

    not_before : (z ≡ b) ⊎ T (before b z) → T (before z b) → ⊥
    not_before (inl e) t = before_irrefl b (subst (λ (l : List ℕ). T (before l b)) e t)
    not_before (inr u) t = before_asym z b t u

    go : T (before z b) ⊎ ((z ≡ b) ⊎ T (before b z)) → Leads (x ∷ z ∷ zs) (lesser z b)
    go (inl t) = subst (Leads (x ∷ z ∷ zs)) (sym (lesser_first z b t)) (new t)
    go (inr u) = subst (Leads (x ∷ z ∷ zs)) (sym (lesser_second z b (not_before u))) (old (not_before u))

fold-Leads : (x : List ℕ) (xs : List (List ℕ)) → Leads (x ∷ xs) (foldr lesser x xs)
fold-Leads x [] = (Memᴰ-head refl, λ y m. only y (Memᴰ-cases_cons m))
  where
    only : (y : List ℕ) → (y ≡ x) ⊎ Memᴰ y [] → T (before y x) → ⊥
    only y (inl e) t = before_irrefl x (subst (λ (l : List ℕ). T (before l x)) e t)
    only y (inr m) t = absurd (Memᴰ-not-nil m)
fold-Leads x (z ∷ zs) = Leads-more x z (foldr lesser x zs) zs (fold-Leads x zs)

least-Leads : (ls : List (List ℕ)) (e : List ℕ) → least ls ≡ Some e → Leads ls e
unfolding least
least-Leads [] e h = absurd (none-some e h)
least-Leads (x ∷ xs) e h = subst (Leads (x ∷ xs)) (same_Some (foldr lesser x xs) e h) (fold-Leads x xs)

Leads-least : (ls : List (List ℕ)) (e : List ℕ) → Leads ls e → least ls ≡ Some e
unfolding least
Leads-least [] e h = absurd (Memᴰ-not-nil h.0)
Leads-least (x ∷ xs) e h =
    let f = fold-Leads x xs in
    ap Some (before_antisym (foldr lesser x xs) e (h.1 (foldr lesser x xs) f.0) (f.1 e h.0))

-- ---- the next list

-- what document 02 says of it: a realizable list of its length that comes after it, and no other
-- such list is before that one
pub record IsNext (ds es : List ℕ) : Type 0 where
  pub realized : Realizable es
  pub equally_long : length es ≡ length ds
  pub after : T (before ds es)
  pub first : (fs : List ℕ) → Realizable fs → length fs ≡ length ds → T (before ds fs) → T (before fs es) → ⊥

-- there is no such list
abbrev pub IsLast : List ℕ → Type 0
IsLast ds = (fs : List ℕ) → Realizable fs → length fs ≡ length ds → T (before ds fs) → ⊥

pub next_iff : (ds es : List ℕ) → (next_list ds ≡ Some es) ↔ IsNext ds es
unfolding next_list
next_iff ds es = (
  λ e.
      let l = least-Leads (later ds) es e in
      let p = (later_iff ds es).0 l.0 in
      record { realized = p.0; equally_long = p.1; after = p.2; first = λ fs r n t. l.1 fs ((later_iff ds fs).1 (r, n, t)) },
  λ h.
      Leads-least (later ds) es
      ((later_iff ds es).1 (h.realized, h.equally_long, h.after), λ fs m. let p = (later_iff ds fs).0 m in h.first fs p.0 p.1 p.2),
)

pub last_iff : (ds : List ℕ) → (next_list ds ≡ None) ↔ IsLast ds
unfolding next_list least
last_iff ds = (
  λ e fs r n t. some_later (later ds) fs e ((later_iff ds fs).1 (r, n, t)),
  λ h. none_later (later ds) (λ fs m. let p = (later_iff ds fs).0 m in h fs p.0 p.1 p.2),
)
  where
    some_later : (ls : List (List ℕ)) (f : List ℕ) → least ls ≡ None → Memᴰ f ls → ⊥
    some_later [] f e m = Memᴰ-not-nil m
    some_later (x ∷ xs) f e m = none-some (foldr lesser x xs) (sym e)

    none_later : (ls : List (List ℕ)) → ((f : List ℕ) → Memᴰ f ls → ⊥) → least ls ≡ None
    none_later [] h = refl
    none_later (x ∷ xs) h = absurd (h x (Memᴰ-head refl))
