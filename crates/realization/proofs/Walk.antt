-- The walk decides exactly whether some values have a list of distances. A walk that accepts
-- grows a tree, whose open places are those of its right path; the distances of a tree are
-- accepted, since putting a root before a list adds one open place below all others.
use Rattle.std.specs.Prelude.{◌≡◌, ◌⊎◌, ◌↔◌, ◌||◌, ◌∷◌, ◌++◌, ◌+◌, ◌≤◌}
use Rattle.lists.proofs.Members.{any-append}
use Rattle.lists.proofs.Parts.{map-append}
use Rattle.lists.proofs.Prelude.{◌∙◌, ap, sym, refl, subst, inl, inr, ⊎_elim, Bool, true, false, cond, List, [], map}
use Rattle.lists.proofs.Prelude.{append-nil, append_assoc, ℕ, zero, suc, pos, T, eqb, leb, eqb→eq, eqb_refl, length, add-zero, arith, le-leb, lt-leb}
use Rattle.lists.proofs.Prelude.{eqb-true, eqb-false, replicate, any, select}
use Rattle.lists.proofs.Select.{select-append}
use Rattle.lists.proofs.Tests.{test_ext, and_split, and_join, or_cases, or_left, or_right}
use Rattle.cartesian.specs.Cartesian.{Tree, leaf, node, size, tree}
use Rattle.cartesian.proofs.HasTree.{tree_has}
use Rattle.cartesian.proofs.Structure.{or_else, lift, tree_distances, distances_tree, length-tree_distances}
use Rattle.realization.specs.Realization.{Realizable, realizable, left_turns}
use Rattle.realization.specs.Walk.{leads, opened, walk}
use Rattle.realization.proofs.LeftTurns.{turns_distances}
use Rattle.realization.proofs.Realizable.{realizable_iff}

-- ---- lists of open places

-- every open place is at most k back
abbrev Within : ℕ → List ℕ → Type 0
Within k [] = Unit {0}
Within k (o ∷ os) = (o ≤ k) × Within k os

Within-more : (k m : ℕ) (os : List ℕ) → k ≤ m → Within k os → Within m os
Within-more k m [] h w = tt
Within-more k m (o ∷ os) h w = (omega (arith, w.0), Within-more k m os h w.1)

Within-append : (k : ℕ) (us bs : List ℕ) → Within k us → Within k bs → Within k (us ++ bs)
Within-append k [] bs u w = w
Within-append k (o ∷ us) bs u w = (u.0, Within-append k us bs u.1 w)

Within-any : (k d : ℕ) (os : List ℕ) → Within k os → T (any (eqb d) os) → d ≤ k
unfolding any
Within-any k d [] w t = absurd t
Within-any k d (o ∷ os) w t =
    ⊎_elim (λ h. let e = eqb→eq d o h in omega (arith, w.0)) (Within-any k d os w.1) (or_cases (eqb d o) (any (eqb d) os) t)

-- what stays open under a distance d that is not 0
abbrev keep : ℕ → List ℕ → List ℕ
keep d os = select (leb d) os

Within-keep : (k d : ℕ) (os : List ℕ) → Within k os → Within (suc k) (map suc (keep d os))
unfolding select
Within-keep k d [] w = tt
Within-keep k d (o ∷ os) w = go (leb d o) (Within-keep k d os w.1)
  where
    go : (b : Bool) → Within (suc k) (map suc (keep d os)) → Within (suc k) (map suc (cond b (o ∷ keep d os) (keep d os)))
    go true ih = (omega (arith, w.0), ih)
    go false ih = ih

any-append_left : (d : ℕ) (us bs : List ℕ) → T (any (eqb d) us) → T (any (eqb d) (us ++ bs))
any-append_left d us bs t = rw (any-append (eqb d) us bs) (or_left (any (eqb d) us) (any (eqb d) bs) t)

any-append_last : (d : ℕ) (us : List ℕ) → T (any (eqb d) (us ++ (d ∷ [])))
unfolding any
any-append_last d us = rw (any-append (eqb d) us (d ∷ [])) (or_right (any (eqb d) us) (eqb d d || false) (or_left (eqb d d) false (eqb_refl d)))

any-append_cases : (d e : ℕ) (us : List ℕ) → T (any (eqb d) (us ++ (e ∷ []))) → T (any (eqb d) us) ⊎ (d ≡ e)
unfolding any
any-append_cases d e us t =
    ⊎_elim inl (λ h. ⊎_elim (λ k. inr (eqb→eq d e k)) (λ k. absurd k) (or_cases (eqb d e) false h))
    (or_cases (any (eqb d) us) (eqb d e || false) (rw (any-append (eqb d) us (e ∷ [])) at t))

-- nothing stays open under a distance that is farther than all
keep_far : (k : ℕ) (os : List ℕ) → Within k os → keep (suc k) os ≡ []
unfolding select
keep_far k [] w = refl
keep_far k (o ∷ os) w = rw (lt-leb (suc k) o (omega (arith, w.0))) (keep_far k os w.1)

keep_last : (d e : ℕ) (os : List ℕ) → d ≤ e → keep d (os ++ (e ∷ [])) ≡ keep d os ++ (e ∷ [])
unfolding select
keep_last d e os l =
    select-append (leb d) os (e ∷ [])
    ∙ ap (λ (l : List ℕ). keep d os ++ l) (rw (le-leb d e l) refl)

-- ---- growing a tree at its right end

-- the tree with one place more, at distance d from its parent
unfoldable insert_last : ℕ → Tree → Tree
insert_last d leaf = node leaf leaf
insert_last zero (node l r) = node (node l r) leaf
insert_last (suc d) (node l r) = cond (eqb d (size r)) (node l (node r leaf)) (node l (insert_last (suc d) r))

-- how far the right path's places are from the end, nearest first
unfoldable right_path : Tree → List ℕ
right_path leaf = []
right_path (node l r) = right_path r ++ (suc (size r) ∷ [])

right_path-Within : (t : Tree) → Within (size t) (right_path t)
unfolding right_path size
right_path-Within leaf = tt
right_path-Within (node l r) =
    Within-append (size l + suc (size r)) (right_path r) (suc (size r) ∷ [])
    (Within-more (size r) (size l + suc (size r)) (right_path r) (omega arith) (right_path-Within r)) (omega arith, tt)

lift-append : (k : ℕ) (us bs : List ℕ) → lift k (us ++ bs) ≡ lift k us ++ lift (k + length us) bs
unfolding lift
lift-append k [] bs = rw add-zero refl
lift-append k (a ∷ us) bs =
    let e : suc k + length us ≡ k + suc (length us) = omega arith in
    ap (λ (l : List ℕ). or_else a k ∷ l) (rw (← e) (lift-append (suc k) us bs))

size_insert : (d : ℕ) (t : Tree) → size (insert_last d t) ≡ suc (size t)
unfolding insert_last size
size_insert d leaf = refl
size_insert zero (node l r) = omega arith
size_insert (suc d) (node l r) = go (eqb d (size r)) (size_insert (suc d) r)
  where
    go : (b : Bool) → size (insert_last (suc d) r) ≡ suc (size r)
        → size (cond b (node l (node r leaf)) (node l (insert_last (suc d) r))) ≡ suc (size l + suc (size r))
    go true e = omega arith
    go false e = omega arith

-- a distance that leads to a place of the right path of (node l r), but not to the root, leads to
-- one of r's
inner : (d : ℕ) (l r : Tree) → T (any (eqb (suc d)) (right_path (node l r))) → eqb d (size r) ≡ false → T (any (eqb (suc d)) (right_path r))
unfolding right_path
inner d l r t e =
    ⊎_elim (λ h. h) (λ q. absurd (eqb-false d (size r) e (let p : d ≡ size r = omega arith in p))) (any-append_cases (suc d) (suc (size r)) (right_path r) t)

insert_distances : (d : ℕ) (t : Tree) → T (leads d (right_path t)) → tree_distances (insert_last d t) ≡ tree_distances t ++ (d ∷ [])
unfolding insert_last tree_distances lift right_path any
insert_distances zero leaf h = refl
insert_distances (suc d) leaf h = absurd h
insert_distances zero (node l r) h = refl
insert_distances (suc d) (node l r) h = go (eqb d (size r)) refl (insert_distances (suc d) r)
  where
    go : (b : Bool) → eqb d (size r) ≡ b → (T (any (eqb (suc d)) (right_path r)) → tree_distances (insert_last (suc d) r) ≡ tree_distances r ++ (suc d ∷ []))
        → tree_distances (cond b (node l (node r leaf)) (node l (insert_last (suc d) r)))
        ≡ (tree_distances l ++ (0 ∷ lift 1 (tree_distances r))) ++ (suc d ∷ [])
    go true e ih =
        let q : 1 + length (tree_distances r) ≡ suc d = omega (arith, length-tree_distances r, eqb-true d (size r) e) in
        rw (lift-append 1 (tree_distances r) (0 ∷ []), q, append_assoc) refl
    go false e ih =
        rw (ih (inner d l r h e), lift-append 1 (tree_distances r) (suc d ∷ []), append_assoc) refl

insert_right_path : (d : ℕ) (t : Tree) → T (leads d (right_path t)) → right_path (insert_last d t) ≡ opened d (right_path t)
unfolding insert_last right_path size any select
insert_right_path zero leaf h = refl
insert_right_path (suc d) leaf h = absurd h
insert_right_path zero (node l r) h = refl
insert_right_path (suc d) (node l r) h = go (eqb d (size r)) refl (insert_right_path (suc d) r)
  where
    go : (b : Bool) → eqb d (size r) ≡ b → (T (any (eqb (suc d)) (right_path r)) → right_path (insert_last (suc d) r)
        ≡ 1 ∷ map suc (keep (suc d) (right_path r)))
        → right_path (cond b (node l (node r leaf)) (node l (insert_last (suc d) r))) ≡ 1 ∷ map suc (keep (suc d) (right_path r ++ (suc (size r) ∷ [])))
    go true e ih =
        let q : d ≡ size r = eqb-true d (size r) e in
        let s : size r + 1 ≡ suc (size r) = omega arith in
        rw (q, keep_last (suc (size r)) (suc (size r)) (right_path r) (omega arith), keep_far (size r) (right_path r) (right_path-Within r), s) refl
    go false e ih =
        let t = inner d l r h e in
        let w = Within-any (size r) (suc d) (right_path r) (right_path-Within r) t in
        rw (ih t, size_insert (suc d) r, keep_last (suc d) (suc (size r)) (right_path r) (omega arith))
        (ap (λ (l : List ℕ). 1 ∷ l) (sym (map-append suc (keep (suc d) (right_path r)) (suc (size r) ∷ []))))

-- a walk that accepts grows a tree with these distances
walk_grows : (t : Tree) (ds : List ℕ) → T (walk (right_path t) ds) → (u : Tree) × (tree_distances u ≡ tree_distances t ++ ds)
unfolding walk
walk_grows t [] h = (t, sym (append-nil (tree_distances t)))
walk_grows t (d ∷ ds) h =
    let p = and_split (leads d (right_path t)) (walk (opened d (right_path t)) ds) h in
    let r = walk_grows (insert_last d t) ds (subst (λ (os : List ℕ). T (walk os ds)) (sym (insert_right_path d t p.0)) p.1) in
    (r.0, r.1 ∙ ap (λ (l : List ℕ). l ++ ds) (insert_distances d t p.0) ∙ append_assoc (tree_distances t) (d ∷ []) ds)

-- ---- the distances of a tree are accepted

-- what is open after a list
unfoldable after : List ℕ → List ℕ → List ℕ
after os [] = os
after os (d ∷ ds) = after (opened d os) ds

walk-append : (os us bs : List ℕ) → T (walk os us) → T (walk (after os us) bs) → T (walk os (us ++ bs))
unfolding walk after
walk-append os [] bs h k = k
walk-append os (a ∷ us) bs h k =
    let p = and_split (leads a os) (walk (opened a os) us) h in
    and_join (leads a os) (walk (opened a os) (us ++ bs)) p.0 (walk-append (opened a os) us bs p.1 k)

-- a root before the list: one more open place, behind all others
walk-lift : (k : ℕ) (os ds : List ℕ) → Within k os → T (walk os ds) → T (walk (os ++ (suc k ∷ [])) (lift (suc k) ds))
unfolding walk lift
walk-lift k os [] w h = tt
walk-lift k os (zero ∷ ds) w h =
    and_join (any (eqb (suc k)) (os ++ (suc k ∷ []))) (walk (1 ∷ map suc (keep (suc k) (os ++ (suc k ∷ [])))) (lift (suc (suc k)) ds))
    (any-append_last (suc k) os)
    (rw (keep_last (suc k) (suc k) os (omega arith), keep_far k os w) (walk-lift (suc k) (1 ∷ []) ds (omega arith, tt) h))
walk-lift k os (suc d ∷ ds) w h =
    let p = and_split (any (eqb (suc d)) os) (walk (1 ∷ map suc (keep (suc d) os)) ds) h in
    let q = Within-any k (suc d) os w p.0 in
    let ih = walk-lift (suc k) (1 ∷ map suc (keep (suc d) os)) ds (omega arith, Within-keep k (suc d) os w) p.1 in
    and_join (any (eqb (suc d)) (os ++ (suc k ∷ []))) (walk (1 ∷ map suc (keep (suc d) (os ++ (suc k ∷ [])))) (lift (suc (suc k)) ds))
    (any-append_left (suc d) os (suc k ∷ []) p.0)
    (rw (keep_last (suc d) (suc k) os (omega arith))
    (subst (λ (l : List ℕ). T (walk (1 ∷ l) (lift (suc (suc k)) ds))) (sym (map-append suc (keep (suc d) os) (suc k ∷ []))) ih))

tree_walks : (t : Tree) → T (walk [] (tree_distances t))
unfolding tree_distances walk
tree_walks leaf = tt
tree_walks (node l r) =
    walk-append [] (tree_distances l) (0 ∷ lift 1 (tree_distances r)) (tree_walks l) (walk-lift 0 [] (tree_distances r) tt (tree_walks r))

-- ---- the decision

-- THE WALK accepts a list exactly if some values have it
walk_iff : (ds : List ℕ) → T (walk [] ds) ↔ Realizable ds
unfolding Realizable right_path tree_distances
walk_iff ds = (
  λ h. let r = walk_grows leaf ds h in (map pos (left_turns r.0), turns_distances r.0 ∙ r.1),
  λ p. subst (λ (l : List ℕ). T (walk [] l)) (sym (distances_tree (tree_has p.0)) ∙ p.1) (tree_walks (tree p.0)),
)

pub realizable-walk : (ds : List ℕ) → realizable ds ≡ walk [] ds
realizable-walk ds =
    test_ext (realizable ds) (walk [] ds) (λ t. (walk_iff ds).1 ((realizable_iff ds).0 t)) (λ t. (realizable_iff ds).1 ((walk_iff ds).0 t))

-- zeros are accepted, whatever is open
pub walk_zeros : (os : List ℕ) (n : ℕ) → walk os (replicate n 0) ≡ true
unfolding walk
walk_zeros os zero = refl
walk_zeros os (suc n) = walk_zeros (1 ∷ []) n
