-- One place more: what place j tells changes the parents that the places below j tell into those
-- that the places up to j tell, and the parents that all places tell are the global parents.
use Rattle.std.specs.Prelude.{◌≡◌, ◌&&◌, ◌++◌, ◌+◌, ◌-◌, ◌≤◌, ◌<◌}
use Rattle.lists.proofs.Prelude.{◌∙◌, ap, sym, refl, true, false, Option, None, Some, List, ℕ, zero, suc, eqb, ltb}
use Rattle.lists.proofs.Prelude.{ltb→lt, length, get_or, drop, set, length-append, length-drop, set-append_left, add-one, arith, eq-eqb, ne_eqb}
use Rattle.lists.proofs.Prelude.{lt-ltb, tabulate}
use Rattle.lists.proofs.Prelude.{last_below}
use Rattle.lists.proofs.Tests.{and_split, and-false}
use Rattle.lists.proofs.LastBelow.{last_below-zero}
use Rattle.lists.proofs.Tables.{length-tabulate, tabulate_ext, tabulate_more, tabulate-set}
use Rattle.realization.specs.Realization.{realizable}
use Rattle.global_parents.specs.GlobalParents.{is_prefix_child, global_parent, global_parents}
use Rattle.compute_parents.specs.Steps.{prefix_child, stored_at, with_place, parent_below}
use Rattle.compute_parents.proofs.Walk.{child_lt}

-- all places tell the global parent
parent_below_all : (ds : List ℕ) (i : ℕ) → parent_below ds (length ds) i ≡ global_parent ds i
unfolding parent_below global_parent
parent_below_all ds i = go (last_below (λ j. ltb i j && is_prefix_child ds i j) (length ds)) refl
  where
    go : (q : ℕ) → last_below (λ j. ltb i j && is_prefix_child ds i j) (length ds) ≡ q → parent_below ds (length ds) i ≡ global_parent ds i
    go zero e = rw e refl
    go (suc j) e = rw e refl

pub parents_all : (ds : List ℕ) → tabulate (length ds) (parent_below ds (length ds)) ≡ global_parents ds
unfolding global_parents
parents_all ds = tabulate_ext (length ds) (parent_below ds (length ds)) (global_parent ds) (λ i h. parent_below_all ds i)

-- the places before j tell nothing of j
parent_below_self : (ds : List ℕ) (j : ℕ) → parent_below ds j j ≡ j - get_or ds j 0
unfolding parent_below
parent_below_self ds j =
    let e : last_below (λ i. ltb j i && is_prefix_child ds j i) j ≡ 0 =
    last_below-zero (λ i. ltb j i && is_prefix_child ds j i) j
    (λ i h t. let l = ltb→lt j i (and_split (ltb j i) (is_prefix_child ds j i) t).0 in omega arith) in
    rw e refl

-- i is the prefix child of j, or it is not
is_child : (ds : List ℕ) (j i : ℕ) → i < j → is_prefix_child ds i j ≡ true → parent_below ds (j + 1) i ≡ j
unfolding parent_below last_below
is_child ds j i h e = rw (add-one j, lt-ltb i j h, e) refl

is_not_child : (ds : List ℕ) (j i : ℕ) → is_prefix_child ds i j ≡ false → parent_below ds j i ≡ parent_below ds (j + 1) i
unfolding parent_below last_below
is_not_child ds j i e =
    let q : ltb i j && is_prefix_child ds i j ≡ false = rw e (and-false (ltb i j)) in
    rw (add-one j, q) refl

prefix_none : (ds : List ℕ) (j i : ℕ) → prefix_child ds j ≡ None → is_prefix_child ds i j ≡ false
unfolding is_prefix_child
prefix_none ds j i e = rw e refl

prefix_some : (ds : List ℕ) (j c i : ℕ) → prefix_child ds j ≡ Some c → is_prefix_child ds i j ≡ eqb c i
unfolding is_prefix_child
prefix_some ds j c i e = rw e refl

-- the parents that the places below j tell, before the rest of the list d
abbrev pub parents_below : List ℕ → ℕ → List ℕ → List ℕ
parents_below ds j d = tabulate j (parent_below ds j) ++ drop j d

pub parents_none : (ds d : List ℕ) → d ≡ parents_below ds 0 d
unfolding tabulate
parents_none ds d = refl

pub length-parents_below : (ds : List ℕ) (j : ℕ) (d : List ℕ) → j ≤ length d → length (parents_below ds j d) ≡ length d
length-parents_below ds j d h = simp (length-append, length-tabulate, length-drop) (omega arith)

pub place_more : (ds : List ℕ) (j : ℕ) (d : List ℕ) → realizable ds ≡ true → j < length ds → j < length d
    → with_place ds j (parents_below ds j d) ≡ parents_below ds (j + 1) d
unfolding with_place
place_more ds j d r h k =
    let f = parent_below ds j in
    go (prefix_child ds j) refl (tabulate_more f 0 d j (j - get_or ds j 0) k (sym (parent_below_self ds j)))
  where
    go : (o : Option ℕ) → prefix_child ds j ≡ o → set (parents_below ds j d) j (j - get_or ds j 0) ≡ tabulate (j + 1) (parent_below ds j) ++ drop (j + 1) d
        → stored_at o j (set (parents_below ds j d) j (j - get_or ds j 0)) ≡ parents_below ds (j + 1) d
    go None e m =
        m
        ∙ ap (λ (l : List ℕ). l ++ drop (j + 1) d)
        (tabulate_ext (j + 1) (parent_below ds j) (parent_below ds (j + 1)) (λ i _. is_not_child ds j i (prefix_none ds j i e)))
    go (Some c) e m =
        let l : c < j = child_lt ds j c r h e in
        ap (λ (l : List ℕ). set l c j) m
        ∙ set-append_left (tabulate (j + 1) (parent_below ds j)) (drop (j + 1) d) c j (rw length-tabulate (omega arith))
        ∙ ap (λ (l : List ℕ). l ++ drop (j + 1) d)
        (tabulate-set (parent_below ds j) (parent_below ds (j + 1)) (j + 1) c j (omega arith)
        (is_child ds j c l (prefix_some ds j c c e ∙ eq-eqb c c refl))
        (λ i _ q. is_not_child ds j i (prefix_some ds j c i e ∙ ne_eqb c i (λ s. q (sym s)))))
