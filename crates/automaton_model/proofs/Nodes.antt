-- THE NODES ARE THE HEADS: every head of a pattern is at one place of the list of nodes, and its
-- number is that place; the numbers go breadth-first, and on one level in the lexicographic order,
-- since a level is built by putting each head into its place.
use Rattle.std.specs.Prelude.{◌≡◌, ◌⊎◌, ◌↔◌, ◌∷◌, ◌-◌, ◌≤◌, ◌<◌}
use Rattle.lists.proofs.Prelude.{◌∙◌, ap, sym, refl, subst, inl, inr, Bool, true, false, cond, List, [], map, foldr, Memᴰ}
use Rattle.lists.proofs.Prelude.{Memᴰ-head, Memᴰ-tail, Memᴰ-not-nil, Memᴰ-cases_cons, flatten, ℕ, zero, suc, pred, ℤ, T, leb}
use Rattle.lists.proofs.Prelude.{leb→le, le→leb, length, get_or, take, length-take, length-drop, drop_of_length-le, length-take-le, dec_lt, arith}
use Rattle.lists.proofs.Prelude.{last_of, begins}
use Rattle.lists.proofs.Prelude.{tabulate, last_below, any, select, same, before}
use Rattle.lists.proofs.Members.{get_or-mem, any-mem, mem-any, all-mem, mem-map}
use Rattle.lists.proofs.Select.{mem-select}
use Rattle.lists.proofs.Tests.{T-true, true-T}
use Rattle.lists.proofs.Same.{same_eq, eq_same, same_refl}
use Rattle.lists.proofs.LastBelow.{last_below-le, last_below_passes}
use Rattle.lists.proofs.Rows.{mem-flatten-tabulate, flatten-tabulate}
use Rattle.lists.proofs.Rising.{Rising, Rising-at, Rising-append, Rising-weaken}
use Rattle.pattern_set.specs.PatternSet.{PatternSet, good_set}
use Rattle.realization.specs.Realization.{realizable, least_realization}
use Rattle.cartesian.specs.Cartesian.{distances}
use Rattle.cartesian.proofs.Seek.{length-distances}
use Rattle.matching.specs.Matching.{is_head, head_tree, failure}
use Rattle.matching.proofs.Heads.{head_tree_whole, head_tree-is_head, realizable-take, head_shorter}
use Rattle.pattern_set.proofs.Good.{good_pattern_lem, good_realizable}
use Rattle.automaton_model.specs.Automaton.{put_in, level, nodes, head_of, place_in, node_of}
use Rattle.lists.proofs.Before.{Before, before_irrefl, before_trans, before_asym, before_antisym, before-nil}

-- ---- a list put into its place

pub mem-put_in : (h : List ℕ) (gs : List (List ℕ)) (a : List ℕ) → Memᴰ a (put_in h gs) ↔ ((a ≡ h) ⊎ Memᴰ a gs)
unfolding put_in
mem-put_in h gs a = (from gs, to gs)
  where
    from : (gs : List (List ℕ)) → Memᴰ a (put_in h gs) → (a ≡ h) ⊎ Memᴰ a gs
    from [] m = Memᴰ-cases_cons m
    from (g ∷ gs) m = go (before h g) (before g h) m (from gs)
      where
        go : (b c : Bool) → Memᴰ a (cond b (h ∷ g ∷ gs) (cond c (g ∷ put_in h gs) (g ∷ gs)))
            → (Memᴰ a (put_in h gs) → (a ≡ h) ⊎ Memᴰ a gs) → (a ≡ h) ⊎ Memᴰ a (g ∷ gs)
        go true c m ih = Memᴰ-cases_cons m
        go false true m ih = first (Memᴰ-cases_cons m)
          where
            rest : (a ≡ h) ⊎ Memᴰ a gs → (a ≡ h) ⊎ Memᴰ a (g ∷ gs)
            rest (inl e) = inl e
            rest (inr n) = inr (Memᴰ-tail n)

            first : (a ≡ g) ⊎ Memᴰ a (put_in h gs) → (a ≡ h) ⊎ Memᴰ a (g ∷ gs)
            first (inl e) = inr (Memᴰ-head e)
            first (inr n) = rest (ih n)
        go false false m ih = inr m

    to : (gs : List (List ℕ)) → (a ≡ h) ⊎ Memᴰ a gs → Memᴰ a (put_in h gs)
    to [] (inl e) = Memᴰ-head e
    to [] (inr m) = absurd (Memᴰ-not-nil m)
    to (g ∷ gs) s = go (before h g) refl (before g h) refl s (to gs)
      where
        go : (b : Bool) → before h g ≡ b → (c : Bool) → before g h ≡ c → (a ≡ h) ⊎ Memᴰ a (g ∷ gs)
            → ((a ≡ h) ⊎ Memᴰ a gs → Memᴰ a (put_in h gs)) → Memᴰ a (cond b (h ∷ g ∷ gs) (cond c (g ∷ put_in h gs) (g ∷ gs)))
        go true p c q (inl e) ih = Memᴰ-head e
        go true p c q (inr m) ih = Memᴰ-tail m
        go false p true q (inl e) ih = Memᴰ-tail (ih (inl e))
        go false p true q (inr m) ih = inner (Memᴰ-cases_cons m)
          where
            inner : (a ≡ g) ⊎ Memᴰ a gs → Memᴰ a (g ∷ put_in h gs)
            inner (inl e) = Memᴰ-head e
            inner (inr n) = Memᴰ-tail (ih (inr n))
        go false p false q (inl e) ih = Memᴰ-head (e ∙ before_antisym h g (λ t. subst T p t) (λ t. subst T q t))
        go false p false q (inr m) ih = m

pub put_in-Rising : (h : List ℕ) (gs : List (List ℕ)) → Rising Before gs → Rising Before (put_in h gs)
unfolding put_in
put_in-Rising h [] r = (λ y m. absurd (Memᴰ-not-nil m), tt)
put_in-Rising h (g ∷ gs) r = go (before h g) refl (before g h) refl (put_in-Rising h gs r.1)
  where
    go : (b : Bool) → before h g ≡ b → (c : Bool) → before g h ≡ c → Rising Before (put_in h gs)
        → Rising Before (cond b (h ∷ g ∷ gs) (cond c (g ∷ put_in h gs) (g ∷ gs)))
    go true p c q ih = (λ y m. first y (Memᴰ-cases_cons m), r)
      where
        first : (y : List ℕ) → (y ≡ g) ⊎ Memᴰ y gs → Before h y
        first y (inl e) = subst (λ (l : List ℕ). T (before h l)) (sym e) (T-true (before h g) p)
        first y (inr n) = before_trans h g y (T-true (before h g) p) (r.0 y n)
    go false p true q ih = (λ y m. first y ((mem-put_in h gs y).0 m), ih)
      where
        first : (y : List ℕ) → (y ≡ h) ⊎ Memᴰ y gs → Before g y
        first y (inl e) = subst (λ (l : List ℕ). T (before g l)) (sym e) (T-true (before g h) q)
        first y (inr n) = r.0 y n
    go false p false q ih = r

-- ---- a level

all_in : (hs : List (List ℕ)) (a : List ℕ) → Memᴰ a (foldr put_in [] hs) ↔ Memᴰ a hs
all_in hs a = (from hs, to hs)
  where
    from : (hs : List (List ℕ)) → Memᴰ a (foldr put_in [] hs) → Memᴰ a hs
    from [] m = m
    from (h ∷ hs) m = go ((mem-put_in h (foldr put_in [] hs) a).0 m) (from hs)
      where
        go : (a ≡ h) ⊎ Memᴰ a (foldr put_in [] hs) → (Memᴰ a (foldr put_in [] hs) → Memᴰ a hs) → Memᴰ a (h ∷ hs)
        go (inl e) ih = Memᴰ-head e
        go (inr n) ih = Memᴰ-tail (ih n)

    to : (hs : List (List ℕ)) → Memᴰ a hs → Memᴰ a (foldr put_in [] hs)
    to [] m = m
    to (h ∷ hs) m = (mem-put_in h (foldr put_in [] hs) a).1 (go (Memᴰ-cases_cons m) (to hs))
      where
        go : (a ≡ h) ⊎ Memᴰ a hs → (Memᴰ a hs → Memᴰ a (foldr put_in [] hs)) → (a ≡ h) ⊎ Memᴰ a (foldr put_in [] hs)
        go (inl e) ih = inl e
        go (inr n) ih = inr (ih n)

put-Rising : (hs : List (List ℕ)) → Rising Before (foldr put_in [] hs)
put-Rising [] = tt
put-Rising (h ∷ hs) = put_in-Rising h (foldr put_in [] hs) (put-Rising hs)

pub level-Rising : (ps : PatternSet) (d : ℕ) → Rising Before (level ps d)
unfolding level
level-Rising ps d = put-Rising (map (take d) (select (λ p. leb d (length p)) ps))

-- a level holds the heads of its length
pub mem-level : (ps : PatternSet) (d : ℕ) (h : List ℕ) → Memᴰ h (level ps d) ↔ (T (is_head ps h) × (length h ≡ d))
unfolding level is_head
mem-level ps d h = (
  λ m.
      let r = (mem-map (take d) (select (λ p. leb d (length p)) ps) h).0 ((all_in (map (take d) (select (λ p. leb d (length p)) ps)) h).0 m) in
      let q = (mem-select (λ p. leb d (length p)) ps r.0).0 r.1 in
      let l : length h ≡ d = ap length r.2 ∙ length-take-le d r.0 (leb→le d (length r.0) q.1) in
      (mem-any (λ p. begins p h) ps r.0 q.0 (eq_same (take (length h) r.0) h (ap (λ (k : ℕ). take k r.0) l ∙ sym r.2)), l),
  λ p.
      let r = any-mem (λ p. begins p h) ps p.0 in
      let e = same_eq (take (length h) r.0) h r.2 in
      let l : d ≤ length r.0 = omega (arith, p.1, ap length e, length-take (length h) r.0) in
      (all_in (map (take d) (select (λ p. leb d (length p)) ps)) h).1
      ((mem-map (take d) (select (λ p. leb d (length p)) ps) h).1
      (r.0, (mem-select (λ p. leb d (length p)) ps r.0).1 (r.1, le→leb d (length r.0) l), sym (subst (λ (k : ℕ). take k r.0 ≡ h) p.1 e))),
)

-- ---- the nodes

-- a head of fewer distances, or one of as many that is before the other
abbrev pub Earlier : List ℕ → List ℕ → Type 0
Earlier g h = (length g < length h) ⊎ ((length g ≡ length h) × T (before g h))

pub Earlier-irrefl : (g : List ℕ) → Earlier g g → ⊥
Earlier-irrefl g (inl h) = omega arith
Earlier-irrefl g (inr p) = before_irrefl g p.1

pub Earlier-asym : (g h : List ℕ) → Earlier g h → Earlier h g → ⊥
Earlier-asym g h (inl l) (inl k) = omega arith
Earlier-asym g h (inl l) (inr q) = omega (arith, q.0)
Earlier-asym g h (inr p) (inl k) = omega (arith, p.0)
Earlier-asym g h (inr p) (inr q) = before_asym g h p.1 q.1

nodes_rise_to : (ps : PatternSet) (n : ℕ) → Rising Earlier (flatten (tabulate n (level ps)))
unfolding flatten tabulate
nodes_rise_to ps zero = tt
nodes_rise_to ps (suc n) =
    subst (λ (l : List (List ℕ)). Rising Earlier l) (sym (flatten-tabulate n (level ps)))
    (Rising-append Earlier (flatten (tabulate n (level ps))) (level ps n) (nodes_rise_to ps n)
    (Rising-weaken Before Earlier (level ps n) (λ x y m k t. inr (((mem-level ps n x).0 m).1 ∙ sym ((mem-level ps n y).0 k).1, t)) (level-Rising ps n))
    (λ x y m k.
    let r = (mem-flatten-tabulate n (level ps) x).0 m in
    inl (omega (arith, r.1, ((mem-level ps r.0 x).0 r.2).1, ((mem-level ps n y).0 k).1))))

pub nodes-Rising : (ps : PatternSet) → Rising Earlier (nodes ps)
unfolding nodes
nodes-Rising ps = nodes_rise_to ps 257

-- every node is a head of at most 256 distances
pub node_is_head : (ps : PatternSet) (h : List ℕ) → Memᴰ h (nodes ps) → T (is_head ps h)
unfolding nodes
node_is_head ps h m =
    let r = (mem-flatten-tabulate 257 (level ps) h).0 m in
    ((mem-level ps r.0 h).0 r.2).0

pub good_length : (ps : PatternSet) → T (good_set ps) → (p : List ℕ) → Memᴰ p ps → (0 < length p) × (length p ≤ 256)
good_length ps g p m = let k = good_pattern_lem ps p g m in (k.0, k.1)

-- a head is no longer than its pattern
pub head_length : (ps : PatternSet) → T (good_set ps) → (h : List ℕ) → T (is_head ps h) → length h ≤ 256
unfolding is_head
head_length ps g h t =
    let r = any-mem (λ p. begins p h) ps t in
    let l = good_length ps g r.0 r.1 in
    let e = same_eq (take (length h) r.0) h r.2 in
    omega (arith, ap length e, length-take (length h) r.0, l.1)

pub head_is_node : (ps : PatternSet) → T (good_set ps) → (h : List ℕ) → T (is_head ps h) → Memᴰ h (nodes ps)
unfolding nodes
head_is_node ps g h t =
    let l = head_length ps g h t in
    (mem-flatten-tabulate 257 (level ps) h).1 (length h, omega arith, (mem-level ps (length h) h).1 (t, refl))

-- ---- places

place_in_of : (gs : List (List ℕ)) (h : List ℕ) → Memᴰ h gs → (place_in gs h < length gs) × (get_or gs (place_in gs h) [] ≡ h)
unfolding place_in
place_in_of [] h m = absurd (Memᴰ-not-nil m)
place_in_of (g ∷ gs) h m = go (same g h) refl (Memᴰ-cases_cons m) (place_in_of gs h)
  where
    go : (b : Bool) → same g h ≡ b → (h ≡ g) ⊎ Memᴰ h gs → (Memᴰ h gs → (place_in gs h < length gs) × (get_or gs (place_in gs h) [] ≡ h))
        → (cond b 0 (suc (place_in gs h)) < length (g ∷ gs)) × (get_or (g ∷ gs) (cond b 0 (suc (place_in gs h))) [] ≡ h)
    go true e s ih = (omega arith, same_eq g h (T-true (same g h) e))
    go false e (inl q) ih = absurd (subst T e (eq_same g h (sym q)))
    go false e (inr n) ih = let r = ih n in (omega (arith, r.0), r.1)

place_in-get_or : (gs : List (List ℕ)) → Rising Earlier gs → (n : ℕ) → n < length gs → place_in gs (get_or gs n []) ≡ n
unfolding place_in
place_in-get_or [] r n h = absurd (let z : ⊥ = omega arith in z)
place_in-get_or (g ∷ gs) r zero h = rw (true-T (same g g) (same_refl g)) refl
place_in-get_or (g ∷ gs) r (suc n) h = go (same g (get_or gs n [])) refl (place_in-get_or gs r.1 n (omega arith))
  where
    go : (b : Bool) → same g (get_or gs n []) ≡ b → place_in gs (get_or gs n []) ≡ n → cond b 0 (suc (place_in gs (get_or gs n []))) ≡ suc n
    go true e ih =
        absurd
        (Earlier-irrefl g
        (subst (λ (l : List ℕ). Earlier g l) (sym (same_eq g (get_or gs n []) (T-true (same g (get_or gs n [])) e)))
        (r.0 (get_or gs n []) (get_or-mem gs n [] (omega arith)))))
    go false e ih = ap suc ih

-- A HEAD HAS A NODE, whose head it is
pub head_node : (ps : PatternSet) → T (good_set ps) → (h : List ℕ) → T (is_head ps h) → (node_of ps h < length (nodes ps)) × (head_of ps (node_of ps h) ≡ h)
head_node ps g h t = place_in_of (nodes ps) h (head_is_node ps g h t)

-- A NODE HAS A HEAD, whose node it is
pub node_head : (ps : PatternSet) (n : ℕ) → n < length (nodes ps) → T (is_head ps (head_of ps n)) × (node_of ps (head_of ps n) ≡ n)
node_head ps n h = (node_is_head ps (head_of ps n) (get_or-mem (nodes ps) n [] h), place_in-get_or (nodes ps) (nodes-Rising ps) n h)

-- ---- breadth-first

-- THE NUMBERS GO BREADTH-FIRST, and rise on one level
pub nodes_rise : (ps : PatternSet) (n m : ℕ) → n < m → m < length (nodes ps)
    → (length (head_of ps n) < length (head_of ps m)) ⊎ ((length (head_of ps n) ≡ length (head_of ps m)) × T (before (head_of ps n) (head_of ps m)))
nodes_rise ps n m h k = Rising-at Earlier (nodes ps) [] (nodes-Rising ps) n m h k

-- a node whose head is earlier has the smaller number
pub Earlier-smaller : (ps : PatternSet) (n m : ℕ) → n < length (nodes ps) → m < length (nodes ps) → Earlier (head_of ps n) (head_of ps m) → n < m
Earlier-smaller ps n m h k e = go (dec_lt n m) (dec_lt m n)
  where
    go : Dec (n < m) → Dec (m < n) → n < m
    go (yes l) d = l
    go (no f) (yes l) = absurd (Earlier-asym (head_of ps n) (head_of ps m) e (nodes_rise ps m n l h))
    go (no f) (no l) =
        let q : n ≡ m = omega arith in
        absurd (Earlier-irrefl (head_of ps m) (subst (λ (i : ℕ). Earlier (head_of ps i) (head_of ps m)) q e))

-- of two heads the earlier has the smaller number
pub Earlier-node : (ps : PatternSet) → T (good_set ps) → (h k : List ℕ) → T (is_head ps h) → T (is_head ps k) → Earlier h k → node_of ps h < node_of ps k
Earlier-node ps g h k s t e =
    let p = head_node ps g h s in
    let q = head_node ps g k t in
    Earlier-smaller ps (node_of ps h) (node_of ps k) p.0 q.0
    (subst (λ (l : List ℕ). Earlier l (head_of ps (node_of ps k))) (sym p.1) (subst (λ (l : List ℕ). Earlier h l) (sym q.1) e))

-- ---- the root

-- the empty list is a head of every pattern
pub empty_is_head : (ps : PatternSet) → 0 < length ps → T (is_head ps [])
unfolding is_head any same
empty_is_head [] h = absurd (let z : ⊥ = omega arith in z)
empty_is_head (p ∷ ps) h = tt

pub node_root : (ps : PatternSet) → T (good_set ps) → 0 < length ps → (head_of ps 0 ≡ []) × (node_of ps [] ≡ 0) × (0 < length (nodes ps))
node_root ps g z =
    let p = head_node ps g [] (empty_is_head ps z) in
    let e : node_of ps [] ≡ 0 = first (node_of ps []) p.0 p.1 in
    (subst (λ (k : ℕ). head_of ps k ≡ []) e p.1, e, omega (arith, p.0))
  where
    none-Earlier : (g : List ℕ) → Earlier g [] → ⊥
    none-Earlier g (inl h) = omega arith
    none-Earlier g (inr p) = before-nil g p.1

    first : (n : ℕ) → n < length (nodes ps) → head_of ps n ≡ [] → n ≡ 0
    first zero h q = refl
    first (suc n) h q = absurd (none-Earlier (head_of ps 0) (subst (λ (l : List ℕ). Earlier (head_of ps 0) l) q (nodes_rise ps 0 (suc n) (omega arith) h)))

-- every other node has a head of some distances
pub node_longer : (ps : PatternSet) → T (good_set ps) → 0 < length ps → (n : ℕ) → 0 < n → n < length (nodes ps) → 0 < length (head_of ps n)
node_longer ps g z n h k = go (head_of ps n) refl
  where
    go : (l : List ℕ) → head_of ps n ≡ l → 0 < length (head_of ps n)
    go [] e =
        let q : n ≡ 0 = sym (node_head ps n k).1 ∙ ap (node_of ps) e ∙ (node_root ps g z).1 in
        absurd (let y : ⊥ = omega arith in y)
    go (x ∷ l) e = rw e (omega arith)

-- ---- failure links

-- a head is realizable, as its pattern is
pub head_realizable : (ps : PatternSet) → T (good_set ps) → (h : List ℕ) → T (is_head ps h) → T (realizable h)
unfolding is_head
head_realizable ps g h t =
    let r = any-mem (λ p. begins p h) ps t in
    subst (λ (l : List ℕ). T (realizable l)) (same_eq (take (length h) r.0) h r.2)
    (realizable-take (length h) r.0 (all-mem realizable ps (good_realizable ps g) r.0 r.1))

-- the failure link of a head leads to a head
pub failure-is_head : (ps : PatternSet) → T (good_set ps) → (h : List ℕ) → T (is_head ps h) → T (is_head ps (failure ps h))
unfolding failure distances tabulate
failure-is_head ps g h t =
    let xs = least_realization h in
    go xs (last_below (λ m. head_tree ps (last_of m xs)) (length h)) refl
  where
    go : (xs : List ℤ) (q : ℕ) → last_below (λ m. head_tree ps (last_of m xs)) (length h) ≡ q → T (is_head ps (distances (last_of (pred q) xs)))
    go xs zero e =
        let n : last_of 0 xs ≡ [] = drop_of_length-le xs {i = length xs - 0} (omega arith) in
        subst (λ (l : List ℤ). T (is_head ps (distances l))) (sym n) (head_shorter ps h 0 t)
    go xs (suc q) e =
        let p = last_below_passes (λ m. head_tree ps (last_of m xs)) (length h) q e in
        subst T (head_tree-is_head ps (last_of q xs) (head_tree_whole ps (last_of q xs) p) (good_realizable ps g)) p

-- so that of a node leads to a node, whose head is the failure of the node's
pub failure_head : (ps : PatternSet) → T (good_set ps) → (n f : ℕ) → n < length (nodes ps) → f ≡ node_of ps (failure ps (head_of ps n))
    → (f < length (nodes ps)) × (head_of ps f ≡ failure ps (head_of ps n))
failure_head ps g n f h e =
    let p = head_node ps g (failure ps (head_of ps n)) (failure-is_head ps g (head_of ps n) (node_head ps n h).0) in
    (omega (arith, p.0), ap (head_of ps) e ∙ p.1)

-- it leads to a shorter head
pub failure_shorter : (ps : PatternSet) (h : List ℕ) → 0 < length h → length (failure ps h) < length h
unfolding failure
failure_shorter ps h z =
    let xs = least_realization h in
    let m = last_below (λ m. head_tree ps (last_of m xs)) (length h) in
    let b = last_below-le (λ m. head_tree ps (last_of m xs)) (length h) in
    rw (length-distances, length-drop) (go (length xs) m (length h) b z)
  where
    go : (l m n : ℕ) → m ≤ n → 0 < n → l - (l - pred m) < n
    go l m n h z = omega arith

-- so the failure link of a node leads to a smaller number
pub failure_smaller : (ps : PatternSet) → T (good_set ps) → (n : ℕ) → n < length (nodes ps) → 0 < length (head_of ps n)
    → node_of ps (failure ps (head_of ps n)) < n
failure_smaller ps g n h z =
    let p = node_head ps n h in
    let l = failure_shorter ps (head_of ps n) z in
    let q = Earlier-node ps g (failure ps (head_of ps n)) (head_of ps n) (failure-is_head ps g (head_of ps n) p.0) p.0 (inl l) in
    omega (arith, p.1)
