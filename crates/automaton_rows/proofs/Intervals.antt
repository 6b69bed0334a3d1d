-- THE PLACES OF THE CHILDREN: the places whose patterns begin with a node's head and go on are
-- those of its children, side by side and in their order. So the first child begins behind the
-- patterns that end at the node, each other one where the one before it ends, and the children are
-- as many as places among them that share no more than the head with the place before.
use Rattle.std.specs.Prelude.{◌≡◌, ◌⊎◌, ◌∷◌, ◌++◌, ◌+◌, ◌-◌, ◌≤◌, ◌<◌}
use Rattle.lists.proofs.Prelude.{◌∙◌, ap, sym, subst, inl, inr, List, [], ℕ, suc, T, length, get_or, take, length-append}
use Rattle.lists.proofs.Prelude.{get_or-take, take-suc, take_all, take-append_seam, take-take, dec_lt, arith, begins, before}
use Rattle.lists.proofs.Members.{get_or-mem, mem-any}
use Rattle.lists.proofs.Same.{same_eq, eq_same}
use Rattle.pattern_set.specs.PatternSet.{PatternSet, good_set}
use Rattle.matching.specs.Matching.{is_head}
use Rattle.automaton_model.specs.Automaton.{nodes, head_of, node_of, order, shared_at, ends_at, children, first_child}
use Rattle.lists.proofs.Before.{before_irrefl, take-before}
use Rattle.automaton_model.proofs.Nodes.{head_node, node_head, nodes_rise}
use Rattle.automaton_model.proofs.Children.{child_head_lem, child_number}
use Rattle.automaton_model.proofs.Order.{order-lt, order_behind, pattern_at}
use Rattle.automaton_lookup.specs.Places.{first_place, begins_at, place_of, end_of}
use Rattle.automaton_lookup.proofs.Places.{ends_within, end_at_place, place_of_end, begins_within, begins_at_place, place_of_begins, begins_at_head}
use Rattle.automaton_rows.proofs.Shared.{begins-length, interval_more, interval_shared}

-- ---- the patterns that end at a head

pub ends_le_begins : (ps : PatternSet) (h : List ℕ) → ends_at ps h ≤ begins_at ps h
ends_le_begins ps h = go (dec_lt (begins_at ps h) (ends_at ps h))
  where
    go : Dec (begins_at ps h < ends_at ps h) → ends_at ps h ≤ begins_at ps h
    go (yes d) =
        let i = first_place ps h + begins_at ps h in
        let w = ends_within ps h in
        let e = end_at_place ps h i (omega arith) (omega arith) in
        let t = eq_same (take (length h) (pattern_at ps i)) h (ap (take (length h)) e ∙ take_all (length h) h (omega arith)) in
        omega (arith, (place_of_begins ps h i (omega arith) t).1)
    go (no f) = omega arith

-- a pattern that begins with a head and is as long ends there
pub ends_more : (ps : PatternSet) (h : List ℕ) (i : ℕ) → first_place ps h ≤ i → i < first_place ps h + begins_at ps h
    → length (pattern_at ps i) ≡ length h → i < first_place ps h + ends_at ps h
ends_more ps h i l k e =
    let t = same_eq (take (length h) (pattern_at ps i)) h (begins_at_place ps h i l k) in
    (place_of_end ps h i (omega (arith, begins_within ps h)) (sym (take_all (length h) (pattern_at ps i) (omega arith)) ∙ t)).1

-- one that ends there is as long
pub ends_stop : (ps : PatternSet) (h : List ℕ) (i : ℕ) → first_place ps h ≤ i → i ≤ first_place ps h + ends_at ps h
    → (length (pattern_at ps i) ≡ length h → ⊥) → i ≡ first_place ps h + ends_at ps h
ends_stop ps h i l k f = go (dec_lt i (first_place ps h + ends_at ps h))
  where
    go : Dec (i < first_place ps h + ends_at ps h) → i ≡ first_place ps h + ends_at ps h
    go (yes d) = absurd (f (ap length (end_at_place ps h i l d)))
    go (no d) = omega arith

-- ---- the children's places

module _ (ps : PatternSet) (g : T (good_set ps)) (z : 0 < length ps) (n : ℕ) (h : n < length (nodes ps)) where
  -- each place of the node, behind those where a pattern ends, is a place of a child
  place_child : (i : ℕ) → place_of ps n + ends_at ps (head_of ps n) ≤ i → i < end_of ps n
      → (c : ℕ) × (first_child ps n ≤ c) × (c < first_child ps n + children ps n) × T (begins (pattern_at ps i) (head_of ps c))
  unfolding is_head
  place_child i l k =
      let u = head_of ps n in
      let p = pattern_at ps i in
      let m : i < length ps = omega (arith, begins_within ps u) in
      let e = same_eq (take (length u) p) u (begins_at_place ps u i (omega arith) k) in
      let d = longer i m l e (dec_lt (length u) (length p)) in
      let q : take (suc (length u)) p ≡ u ++ (get_or p (length u) 0 ∷ []) = take-suc p (length u) 0 d
      ∙ ap (λ (s : List ℕ). s ++ (get_or p (length u) 0 ∷ [])) e in
      let v = u ++ (get_or p (length u) 0 ∷ []) in
      let n1 : length v ≡ suc (length u) = length-append u (get_or p (length u) 0 ∷ []) ∙ (omega arith) in
      let b : T (begins p v) = eq_same (take (length v) p) v (ap (λ (j : ℕ). take j p) n1 ∙ q) in
      let t : T (is_head ps v) = mem-any (λ p. begins p v) ps p (get_or-mem ps (get_or (order ps) i 0) [] (order-lt ps i m)) b in
      let r = child_number ps g z n h (get_or p (length u) 0) t in
      (node_of ps v, r.0, r.1, subst (λ (s : List ℕ). T (begins p s)) (sym (head_node ps g v t).1) b)
    where
      longer : (i : ℕ) → i < length ps → place_of ps n + ends_at ps (head_of ps n) ≤ i → take (length (head_of ps n)) (pattern_at ps i) ≡ head_of ps n
          → Dec (length (head_of ps n) < length (pattern_at ps i)) → length (head_of ps n) < length (pattern_at ps i)
      longer i m l e (yes d) = d
      longer i m l e (no f) =
          let q = place_of_end ps (head_of ps n) i m (sym (take_all (length (head_of ps n)) (pattern_at ps i) (omega arith)) ∙ e) in
          omega (arith, q.1)

  pub child_length : (c : ℕ) → first_child ps n ≤ c → c < first_child ps n + children ps n → length (head_of ps c) ≡ suc (length (head_of ps n))
  child_length c l k =
      ap length (child_head_lem ps g z n h c l k).1 ∙ length-append (head_of ps n) (get_or (head_of ps c) (length (head_of ps n)) 0 ∷ []) ∙ (omega arith)

  child_begins : (c : ℕ) → first_child ps n ≤ c → c < first_child ps n + children ps n → (p : List ℕ) → T (begins p (head_of ps c))
      → T (begins p (head_of ps n))
  child_begins c l k p t =
      let u = head_of ps n in
      let e = same_eq (take (length (head_of ps c)) p) (head_of ps c) t in
      let m = child_length c l k in
      eq_same (take (length u) p) u
      (sym (take-take (length u) (length (head_of ps c)) p (omega arith))
      ∙ ap (take (length u)) (e ∙ (child_head_lem ps g z n h c l k).1)
      ∙ take-append_seam u (get_or (head_of ps c) (length u) 0 ∷ []))

  child_some : (c : ℕ) → first_child ps n ≤ c → c < first_child ps n + children ps n → 0 < begins_at ps (head_of ps c)
  child_some c l k = begins_at_head ps (head_of ps c) (node_head ps c (child_head_lem ps g z n h c l k).0).0

  -- a child's places are places of the node
  child_inside : (c : ℕ) → first_child ps n ≤ c → c < first_child ps n + children ps n
      → (place_of ps n + ends_at ps (head_of ps n) ≤ place_of ps c) × (end_of ps c ≤ end_of ps n)
  child_inside c l k =
      let s = child_some c l k in
      let w = begins_within ps (head_of ps c) in
      let q = place_of ps c in
      let b = begins_at_place ps (head_of ps c) q (omega arith) (omega arith) in
      let r = place_of_begins ps (head_of ps n) q (omega arith) (child_begins c l k (pattern_at ps q) b) in
      let e = end_of ps c - 1 in
      let a = begins_at_place ps (head_of ps c) e (omega arith) (omega arith) in
      let y = place_of_begins ps (head_of ps n) e (omega arith) (child_begins c l k (pattern_at ps e) a) in
      (from (dec_lt q (place_of ps n + ends_at ps (head_of ps n))) b r.0, omega (arith, y.1))
    where
      from : Dec (place_of ps c < place_of ps n + ends_at ps (head_of ps n)) → T (begins (pattern_at ps (place_of ps c)) (head_of ps c))
          → place_of ps n ≤ place_of ps c
          → place_of ps n + ends_at ps (head_of ps n) ≤ place_of ps c
      from (yes d) b r =
          let q = place_of ps c in
          omega (arith, ap length (end_at_place ps (head_of ps n) q r d), begins-length (pattern_at ps q) (head_of ps c) b, child_length c l k)
      from (no f) b r = omega arith

  -- a child's places come before those of the children behind it
  children_apart : (c e : ℕ) → first_child ps n ≤ c → c < e → e < first_child ps n + children ps n → end_of ps c ≤ place_of ps e
  children_apart c e l k m =
      let s = child_some c l (omega arith) in
      let t = child_some e (omega arith) m in
      let w = begins_within ps (head_of ps c) in
      let i = end_of ps c - 1 in
      let j = place_of ps e in
      let x = same_eq (take (length (head_of ps c)) (pattern_at ps i)) (head_of ps c) (begins_at_place ps (head_of ps c) i (omega arith) (omega arith)) in
      let y = same_eq (take (length (head_of ps e)) (pattern_at ps j)) (head_of ps e) (begins_at_place ps (head_of ps e) j (omega arith) (omega arith)) in
      let q : length (head_of ps c) ≡ length (head_of ps e) = child_length c l (omega arith) ∙ sym (child_length e (omega arith) m) in
      let b : T (before (pattern_at ps i) (pattern_at ps j)) = lift (nodes_rise ps c e k (child_head_lem ps g z n h e (omega arith) m).0) i j x y q in
      let o = go i j b (omega arith) (dec_lt j i) (dec_lt i j) in
      omega arith
    where
      lift : (length (head_of ps c) < length (head_of ps e)) ⊎ ((length (head_of ps c) ≡ length (head_of ps e)) × T (before (head_of ps c) (head_of ps e)))
          → (i j : ℕ) → take (length (head_of ps c)) (pattern_at ps i) ≡ head_of ps c → take (length (head_of ps e)) (pattern_at ps j) ≡ head_of ps e
          → length (head_of ps c) ≡ length (head_of ps e)
          → T (before (pattern_at ps i) (pattern_at ps j))
      lift (inl d) i j x y q = absurd (let f : ⊥ = omega arith in f)
      lift (inr d) i j x y q =
          take-before (length (head_of ps c)) (pattern_at ps i) (pattern_at ps j)
          (subst (λ (u : List ℕ). T (before u (take (length (head_of ps c)) (pattern_at ps j)))) (sym x)
          (subst (λ (u : List ℕ). T (before (head_of ps c) u)) (sym (ap (λ (o : ℕ). take o (pattern_at ps j)) q ∙ y)) d.1))

      go : (i j : ℕ) → T (before (pattern_at ps i) (pattern_at ps j)) → i < length ps → Dec (j < i) → Dec (i < j) → i < j
      go i j b w (yes d) f = absurd (order_behind ps j i d w b)
      go i j b w (no d) (yes f) = f
      go i j b w (no d) (no f) =
          let q : j ≡ i = omega arith in
          absurd (before_irrefl (pattern_at ps i) (subst (λ (o : ℕ). T (before (pattern_at ps i) (pattern_at ps o))) q b))

  -- a place of the node behind a child is a place of a child behind it
  child_behind : (c i : ℕ) → first_child ps n ≤ c → c < first_child ps n + children ps n → end_of ps c ≤ i → i < end_of ps n
      → (e : ℕ) × (c < e) × (e < first_child ps n + children ps n) × (place_of ps e ≤ i) × (i < end_of ps e)
  child_behind c i l k b m =
      let p = child_inside c l k in
      let r = place_child i (omega (arith, p.0)) m in
      let q = place_of_begins ps (head_of ps r.0) i (omega (arith, begins_within ps (head_of ps n))) r.3 in
      (r.0, go r.0 r.1 q.1 (dec_lt c r.0) (dec_lt r.0 c), r.2, q.0, q.1)
    where
      go : (e : ℕ) → first_child ps n ≤ e → i < end_of ps e → Dec (c < e) → Dec (e < c) → c < e
      go e o q (yes d) f = d
      go e o q (no d) (yes f) = let a = children_apart e c o f k in absurd (let y : ⊥ = omega arith in y)
      go e o q (no d) (no f) = let a : end_of ps e ≡ end_of ps c = ap (end_of ps) (let y : e ≡ c = omega arith in y) in absurd (let y : ⊥ = omega arith in y)

  -- THE FIRST CHILD begins behind the patterns that end at the node
  pub first_child_place : 0 < children ps n → place_of ps (first_child ps n) ≡ place_of ps n + ends_at ps (head_of ps n)
  first_child_place k =
      let c = first_child ps n in
      let s = child_some c (omega arith) (omega arith) in
      let p = child_inside c (omega arith) (omega arith) in
      let i = place_of ps n + ends_at ps (head_of ps n) in
      let r = place_child i (omega arith) (omega arith) in
      let q = place_of_begins ps (head_of ps r.0) i (omega (arith, begins_within ps (head_of ps n))) r.3 in
      go r.0 r.1 r.2 q.0 p.0 s (dec_lt c r.0)
    where
      go : (e : ℕ) → first_child ps n ≤ e → e < first_child ps n + children ps n → place_of ps e ≤ place_of ps n + ends_at ps (head_of ps n)
          → place_of ps n + ends_at ps (head_of ps n) ≤ place_of ps (first_child ps n) → 0 < begins_at ps (head_of ps (first_child ps n))
          → Dec (first_child ps n < e)
          → place_of ps (first_child ps n) ≡ place_of ps n + ends_at ps (head_of ps n)
      go e o m q p s (yes d) = let a = children_apart (first_child ps n) e (omega arith) d m in absurd (let y : ⊥ = omega arith in y)
      go e o m q p s (no f) =
          let a : place_of ps (first_child ps n) ≡ place_of ps e = ap (place_of ps) (let y : first_child ps n ≡ e = omega arith in y) in
          omega arith

  -- EACH OTHER CHILD begins where the one before it ends
  pub next_child_place : (c : ℕ) → first_child ps n ≤ c → suc c < first_child ps n + children ps n → place_of ps (suc c) ≡ end_of ps c
  next_child_place c l k =
      let s = child_some (suc c) (omega arith) k in
      let p = child_inside (suc c) (omega arith) k in
      let a = children_apart c (suc c) l (omega arith) k in
      let r = child_behind c (end_of ps c) l (omega arith) (omega arith) (omega (arith, p.1)) in
      go r.0 r.1 r.2 r.3 s a (dec_lt (suc c) r.0)
    where
      go : (e : ℕ) → c < e → e < first_child ps n + children ps n → place_of ps e ≤ end_of ps c → 0 < begins_at ps (head_of ps (suc c))
          → end_of ps c ≤ place_of ps (suc c) → Dec (suc c < e)
          → place_of ps (suc c) ≡ end_of ps c
      go e o m q s a (yes d) = let b = children_apart (suc c) e (omega arith) d m in absurd (let y : ⊥ = omega arith in y)
      go e o m q s a (no f) =
          let b : place_of ps (suc c) ≡ place_of ps e = ap (place_of ps) (let y : suc c ≡ e = omega arith in y) in
          omega arith

  -- ---- counting the children

  -- a node has children exactly where not all of the patterns that begin with its head end there
  pub count_none : end_of ps n ≤ place_of ps n + ends_at ps (head_of ps n) → 0 ≡ children ps n
  count_none l = go (dec_lt 0 (children ps n))
    where
      go : Dec (0 < children ps n) → 0 ≡ children ps n
      go (yes d) =
          let c = first_child ps n in
          let s = child_some c (omega arith) (omega arith) in
          let p = child_inside c (omega arith) (omega arith) in
          absurd (let y : ⊥ = omega (arith, p.0, p.1) in y)
      go (no f) = omega arith

  some_child : place_of ps n + ends_at ps (head_of ps n) < end_of ps n → 0 < children ps n
  some_child l =
      let r = place_child (place_of ps n + ends_at ps (head_of ps n)) (omega arith) l in
      omega (arith, r.1, r.2)

-- so many children are met before place i: the last of them has the place before it
pub record Counted (ps : PatternSet) (n count i : ℕ) : Type 0 where
  pub some : 0 < count
  pub within : count ≤ children ps n
  pub behind : place_of ps (first_child ps n + (count - 1)) < i
  pub upto : i ≤ end_of ps (first_child ps n + (count - 1))

module _ (ps : PatternSet) (g : T (good_set ps)) (z : 0 < length ps) (n : ℕ) (h : n < length (nodes ps)) where
  pub count_first : place_of ps n + ends_at ps (head_of ps n) < end_of ps n → Counted ps n 1 (place_of ps n + ends_at ps (head_of ps n) + 1)
  count_first l =
      let s = some_child ps g z n h l in
      let e : first_child ps n + (1 - 1) ≡ first_child ps n = omega arith in
      let a : place_of ps (first_child ps n + (1 - 1)) ≡ place_of ps n + ends_at ps (head_of ps n) = ap (place_of ps) e ∙ first_child_place ps g z n h s in
      let b = child_some ps g z n h (first_child ps n + (1 - 1)) (omega arith) (omega arith) in
      record { some = omega arith; within = s; behind = omega arith; upto = omega arith }

  -- a place that shares just the node's head with the place before it is the first of another child
  pub count_new : (count i : ℕ) → Counted ps n count i → i < end_of ps n → shared_at ps i ≡ length (head_of ps n) → Counted ps n (count + 1) (i + 1)
  count_new count i r k e = go (dec_lt i (end_of ps c))
    where
      c : ℕ
      c = first_child ps n + (count - 1)

      lc : c < first_child ps n + children ps n
      lc = omega (arith, r.some, r.within)

      go : Dec (i < end_of ps c) → Counted ps n (count + 1) (i + 1)
      go (yes d) =
          let b = interval_shared ps (head_of ps c) i r.behind d in
          let w = child_length ps g z n h c (omega arith) lc in
          absurd (let y : ⊥ = omega arith in y)
      go (no f) =
          let u = r.upto in
          let q = child_behind ps g z n h c i (omega arith) lc (omega arith) k in
          let m : suc c < first_child ps n + children ps n = omega (arith, q.1, q.2) in
          let a = next_child_place ps g z n h c (omega arith) m in
          let s = child_some ps g z n h (suc c) (omega arith) m in
          let o : first_child ps n + (count + 1 - 1) ≡ suc c = omega (arith, r.some) in
          rebuild (subst (λ (j : ℕ). place_of ps j < i + 1) (sym o) (omega arith)) (subst (λ (j : ℕ). i + 1 ≤ end_of ps j) (sym o) (omega arith)) m
        where
          rebuild : place_of ps (first_child ps n + (count + 1 - 1)) < i + 1 → i + 1 ≤ end_of ps (first_child ps n + (count + 1 - 1))
              → suc c < first_child ps n + children ps n → Counted ps n (count + 1) (i + 1)
          rebuild a b m = record { some = omega arith; within = omega (arith, r.some); behind = a; upto = b }

  -- any other place of the node is one of the same child
  pub count_same : (count i : ℕ) → Counted ps n count i → i < end_of ps n → (shared_at ps i ≡ length (head_of ps n) → ⊥) → Counted ps n count (i + 1)
  count_same count i r k f =
      let c = first_child ps n + (count - 1) in
      let lc : c < first_child ps n + children ps n = omega (arith, r.some, r.within) in
      let p = child_inside ps g z n h c (omega arith) lc in
      let b = r.behind in
      let s = interval_shared ps (head_of ps n) i (omega (arith, p.0)) k in
      let w = child_length ps g z n h c (omega arith) lc in
      let d : length (head_of ps c) ≤ shared_at ps i = omega arith in
      let m = interval_more ps (head_of ps c) i b r.upto (omega (arith, begins_within ps (head_of ps n))) d in
      record { some = r.some; within = r.within; behind = omega arith; upto = omega arith }

  -- where the node's places end, all its children are met
  pub count_all : (count i : ℕ) → Counted ps n count i → end_of ps n ≤ i → count ≡ children ps n
  count_all count i r k = go (dec_lt count (children ps n))
    where
      c : ℕ
      c = first_child ps n + (count - 1)

      go : Dec (count < children ps n) → count ≡ children ps n
      go (yes d) =
          let o : suc c < first_child ps n + children ps n = omega (arith, r.some) in
          let a = next_child_place ps g z n h c (omega arith) o in
          let s = child_some ps g z n h (suc c) (omega arith) o in
          let p = child_inside ps g z n h (suc c) (omega arith) o in
          absurd (let y : ⊥ = omega (arith, r.upto, p.1) in y)
      go (no f) = omega (arith, r.within)

-- ---- the label

-- the last distance of a head is that of the pattern at its first place
pub label_at : (ps : PatternSet) (h : List ℕ) (d : ℕ) → T (is_head ps h) → 0 < length h → d ≡ length h
    → get_or (pattern_at ps (first_place ps h)) (d - 1) 0 ≡ get_or h (length h - 1) 0
label_at ps h d t l e =
    let s = begins_at_head ps h t in
    let q = same_eq (take (length h) (pattern_at ps (first_place ps h))) h (begins_at_place ps h (first_place ps h) (omega arith) (omega arith)) in
    ap (λ (d : ℕ). get_or (pattern_at ps (first_place ps h)) (d - 1) 0) e
    ∙ sym (get_or-take (length h) (pattern_at ps (first_place ps h)) (length h - 1) 0 (omega arith))
    ∙ ap (λ (u : List ℕ). get_or u (length h - 1) 0) q

-- which is as long at least
pub first_place-length : (ps : PatternSet) (h : List ℕ) → T (is_head ps h) → (first_place ps h < length ps)
    × (length h ≤ length (pattern_at ps (first_place ps h)))
first_place-length ps h t =
    let s = begins_at_head ps h t in (
      omega (arith, begins_within ps h),
      begins-length (pattern_at ps (first_place ps h)) h
          (begins_at_place ps h (first_place ps h) (omega arith) (omega arith)),
    )
