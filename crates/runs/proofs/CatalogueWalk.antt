-- The walk by calls is the walk from each list to its next one: a call over a realizable list with
-- room for it is accepted, and tells exactly that.
use Rattle.std.specs.Prelude.{◌≡◌, ◌∷◌, ◌++◌, ◌≤◌, ◌<◌}
use Rattle.lists.proofs.Prelude.{◌∙◌, ap, sym, refl, subst, same_Some, none-some, List, [], ℕ}
use Rattle.lists.proofs.Prelude.{length, take, drop, replicate, length-replicate, take_at, arith}
use Rattle.lists.proofs.Tests.{true-T}
use Rattle.realization.specs.Realization.{Realizable, realizable}
use Rattle.realization.proofs.Realizable.{realizable_iff}
use Rattle.catalogue.specs.Catalogue.{IsCatalogue}
use Rattle.catalogue.proofs.Next.{next_iff}
use Rattle.catalogue.proofs.Walking.{Linked, zeros_realized, walk_meets}
use Rattle.entries.proofs.NextList.{next_last, next_done, told_last, told_next}
use Rattle.runs.specs.CatalogueWalk.{Meets, last, more, WalkTheorem}

module _ (lent : List ℕ → List ℕ) where
  -- lists that follow each other are met, if there is room for each
  Linked-met : (n : ℕ) → 0 < n → n ≤ 10 → ((ds : List ℕ) → n ≤ length (lent ds)) → (ds : List ℕ) (ls : List (List ℕ)) → Realizable ds → length ds ≡ n
      → Linked ds ls → Meets lent ds (ds ∷ ls)
  Linked-met n h k f ds [] r e l =
      last (sym (next_last ds (lent ds) (omega arith) (omega arith) (true-T (realizable ds) ((realizable_iff ds).1 r)) (sym l)).0)
  Linked-met n h k f ds (es ∷ ls) r e l =
      let p = (next_iff ds es).0 l.0 in
      let t = true-T (realizable ds) ((realizable_iff ds).1 r) in
      let out = lent ds in
      let a = next_done ds out (omega arith) (omega arith) t es (sym l.0) (omega (arith, f ds)) (es ++ drop (length ds) out) refl in
      more (sym a.0 ∙ ap (λ (m : ℕ). (0, (0, m))) (sym p.equally_long))
      (ap (take (length es)) (sym a.1) ∙ take_at es (drop (length ds) out) (length es) refl)
      (Linked-met n h k f es ls p.realized (p.equally_long ∙ e) l.1)

  -- and no others are
  met-Linked : (ds : List ℕ) (ls ms : List (List ℕ)) → Linked ds ls → Meets lent ds ms → ms ≡ ds ∷ ls
  met-Linked ds [] ms l (last t) = refl
  met-Linked ds [] ms l (more {es = es} t w m) = absurd (none-some es (sym l ∙ told_next ds (lent ds) es t w))
  met-Linked ds (fs ∷ ls) ms l (last t) = absurd (none-some fs (sym (told_last ds (lent ds) t) ∙ l.0))
  met-Linked ds (fs ∷ ls) ms l (more {es = es} {ls = ks} t w m) =
      let e : es ≡ fs = same_Some es fs (sym (told_next ds (lent ds) es t w) ∙ l.0) in
      ap (λ (x : List (List ℕ)). ds ∷ x) (met-Linked fs ls ks l.1 (subst (λ (x : List ℕ). Meets lent x ks) e m))

-- THE THEOREM
pub walk_theorem : WalkTheorem
walk_theorem n h k lent =
    let w = walk_meets n in
    record {
      ends = λ f. (replicate n 0 ∷ w.0, Linked-met lent n h k f (replicate n 0) w.0 (zeros_realized n) (length-replicate n 0) w.1);
      meets = λ ls m. subst (IsCatalogue n) (sym (met-Linked lent (replicate n 0) w.0 ls w.1 m)) w.2;
    }
