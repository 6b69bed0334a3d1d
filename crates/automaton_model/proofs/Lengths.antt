-- How long the words of an automaton are: a level has at most one head for each pattern of at least
-- its length, and the empty head is one.
use Rattle.std.specs.Prelude.{◌≡◌, ◌∷◌, ◌++◌, ◌+◌, ◌-◌, ◌*◌, ◌≤◌}
use Rattle.lists.proofs.Prelude.{◌∙◌, sym, refl, subst, Bool, true, false, cond, List, [], map, foldr, Memᴰ, Memᴰ-head}
use Rattle.lists.proofs.Prelude.{Memᴰ-tail}
use Rattle.lists.proofs.Prelude.{flatten, ℕ, zero, suc, T, leb, length, take, length-append, length-take, length-map, arith, leb-true}
use Rattle.lists.proofs.Prelude.{leb-false}
use Rattle.lists.proofs.Prelude.{drop, length-drop, take_all, tabulate, select, before}
use Rattle.lists.proofs.Tables.{length-tabulate}
use Rattle.lists.proofs.Rows.{flatten-tabulate, length_rows}
use Rattle.lists.proofs.Parts.{length_none}
use Rattle.lists.proofs.Rising.{Rising}
use Rattle.lists.proofs.Counting.{length_select}
use Rattle.pattern_set.specs.PatternSet.{PatternSet, good_set}
use Rattle.pattern_set.proofs.Good.{good_pattern_lem}
use Rattle.automaton_model.specs.Automaton.{put_in, level, nodes, order, shared_at, record_of, entry_of, row_of, node_words, automaton_words}
use Rattle.lists.proofs.Before.{Before, before_irrefl}
use Rattle.automaton_model.proofs.Nodes.{level-Rising, mem-level, head_realizable}
use Rattle.automaton_model.proofs.Chains.{first_zero}
use Rattle.automaton_model.proofs.Order.{length-order}

-- ---- one level

length-put_in : (h : List ℕ) (gs : List (List ℕ)) → length (put_in h gs) ≤ suc (length gs)
unfolding put_in
length-put_in h [] = omega arith
length-put_in h (g ∷ gs) = go (before h g) (before g h) (length-put_in h gs)
  where
    go : (b c : Bool) → length (put_in h gs) ≤ suc (length gs) → length (cond b (h ∷ g ∷ gs) (cond c (g ∷ put_in h gs) (g ∷ gs))) ≤ suc (suc (length gs))
    go true c ih = omega arith
    go false true ih = omega arith
    go false false ih = omega arith

length_put : (hs : List (List ℕ)) → length (foldr put_in [] hs) ≤ length hs
length_put [] = omega arith
length_put (h ∷ hs) =
    let ih = length_put hs in
    omega (arith, length-put_in h (foldr put_in [] hs))

length-level : (ps : PatternSet) (d : ℕ) → length (level ps d) ≤ length (select (λ p. leb d (length p)) ps)
unfolding level
length-level ps d = omega (arith, length_put (map (take d) (select (λ p. leb d (length p)) ps)), length-map (select (λ p. leb d (length p)) ps) (take d))

-- a rising list of equal lists has at most one
one_only : (h : List ℕ) (gs : List (List ℕ)) → Rising Before gs → ((g : List ℕ) → Memᴰ g gs → g ≡ h) → length gs ≤ 1
one_only h [] r f = omega arith
one_only h (g ∷ []) r f = omega arith
one_only h (g ∷ k ∷ gs) r f =
    let e : g ≡ k = f g (Memᴰ-head refl) ∙ sym (f k (Memᴰ-tail (Memᴰ-head refl))) in
    absurd (before_irrefl k (subst (λ (l : List ℕ). T (before l k)) e (r.0 k (Memᴰ-head refl))))

-- there is one empty head
length-level-zero : (ps : PatternSet) → length (level ps 0) ≤ 1
length-level-zero ps = one_only [] (level ps 0) (level-Rising ps 0) (λ g m. length_none g ((mem-level ps 0 g).0 m).1)

-- and in a good set one of one distance, which is 0
length-level_one : (ps : PatternSet) → T (good_set ps) → length (level ps 1) ≤ 1
length-level_one ps good =
    one_only (0 ∷ []) (level ps 1) (level-Rising ps 1)
    (λ g m.
    let r = (mem-level ps 1 g).0 m in
    sym (take_all 1 g (omega (arith, r.1))) ∙ first_zero g (head_realizable ps good g r.0) (omega (arith, r.1)))

-- ---- all levels

-- one distance more of each pattern: as many distances as patterns are that long
length_front : (n : ℕ) (p : List ℕ) → length (take (suc n) p) ≡ length (take n p) + cond (leb (suc n) (length p)) 1 0
length_front n p = go (leb (suc n) (length p)) refl
  where
    go : (b : Bool) → leb (suc n) (length p) ≡ b → length (take (suc n) p) ≡ length (take n p) + cond b 1 0
    go true e = let l = leb-true (suc n) (length p) e in rw (length-take, length-take) (omega arith)
    go false e = let l = leb-false (suc n) (length p) e in rw (length-take, length-take) (omega arith)

fronts_more : (n : ℕ) (ps : PatternSet) → length (flatten (map (take (suc n)) ps)) ≡ length (flatten (map (take n) ps)) + length
    (select (λ p. leb (suc n) (length p)) ps)
unfolding flatten select
fronts_more n [] = refl
fronts_more n (p ∷ ps) =
    let ih = fronts_more n ps in
    length-append (take (suc n) p) (flatten (map (take (suc n)) ps))
    ∙ (omega (arith, length_front n p, length-append (take n p) (flatten (map (take n) ps)), length_select (λ p. leb (suc n) (length p)) p ps))

fronts_within : (n : ℕ) (ps : PatternSet) → length (flatten (map (take n) ps)) ≤ length (flatten ps)
unfolding flatten
fronts_within n [] = omega arith
fronts_within n (p ∷ ps) =
    let ih = fronts_within n ps in
    omega (arith, length-append (take n p) (flatten (map (take n) ps)), length-append p (flatten ps), length-take n p)

no_rows : {A : Type 0} (f : ℕ → List A) → length (flatten (tabulate 0 f)) ≡ 0
unfolding tabulate flatten
no_rows f = refl

length_levels : (ps : PatternSet) (n : ℕ) → length (flatten (tabulate (suc n) (level ps))) ≤ 1 + length (flatten (map (take n) ps))
length_levels ps zero =
    rw (flatten-tabulate 0 (level ps), length-append (flatten (tabulate 0 (level ps))) (level ps 0)) (omega (arith, length-level-zero ps, no_rows (level ps)))
length_levels ps (suc n) =
    let ih = length_levels ps n in
    rw (flatten-tabulate (suc n) (level ps), length-append (flatten (tabulate (suc n) (level ps))) (level ps (suc n)))
    (omega (arith, length-level ps (suc n), fronts_more n ps))

-- at most one node for each distance of a pattern, and the root
pub length-nodes : (ps : PatternSet) → length (nodes ps) ≤ 1 + length (flatten ps)
unfolding nodes
length-nodes ps = omega (arith, length_levels ps 256, fronts_within 256 ps)

-- ---- all levels of a good set

-- each pattern has a first distance
fronts_one : (ps : PatternSet) → ((p : List ℕ) → Memᴰ p ps → 1 ≤ length p) → length ps ≤ length (flatten (map (take 1) ps))
unfolding flatten
fronts_one [] f = omega arith
fronts_one (p ∷ ps) f =
    let ih = fronts_one ps (λ q m. f q (Memᴰ-tail m)) in
    omega (arith, length-append (take 1 p) (flatten (map (take 1) ps)), length-take 1 p, f p (Memᴰ-head refl))

levels_few : (ps : PatternSet) → T (good_set ps) → (n : ℕ)
    → length (flatten (tabulate (suc (suc n)) (level ps))) + length ps ≤ 2 + length (flatten (map (take (suc n)) ps))
levels_few ps g zero =
    rw (
      flatten-tabulate 1 (level ps),
      length-append (flatten (tabulate 1 (level ps))) (level ps 1),
      flatten-tabulate 0 (level ps),
      length-append (flatten (tabulate 0 (level ps))) (level ps 0),
    )
    (omega (arith, length-level-zero ps, length-level_one ps g, no_rows (level ps), fronts_one ps (λ p m. (good_pattern_lem ps p g m).0)))
levels_few ps g (suc n) =
    let ih = levels_few ps g n in
    rw (flatten-tabulate (suc (suc n)) (level ps), length-append (flatten (tabulate (suc (suc n)) (level ps))) (level ps (suc (suc n))))
    (omega (arith, length-level ps (suc (suc n)), fronts_more (suc n) ps))

-- the first distances of all patterns are one node
pub length-nodes_few : (ps : PatternSet) → T (good_set ps) → length (nodes ps) + length ps ≤ 2 + length (flatten ps)
unfolding nodes
length-nodes_few ps g = omega (arith, levels_few ps g 255, fronts_within 256 ps)

-- ---- the words

pub length_record : (ps : PatternSet) (n : ℕ) → length (record_of ps n) ≡ 8
unfolding record_of
length_record ps n = refl

pub length_row : (ps : PatternSet) (n : ℕ) → length (row_of ps n) ≡ 8
unfolding row_of
length_row ps n = length-tabulate 8 (entry_of ps n)

pub length_node : (ps : PatternSet) (n : ℕ) → length (node_words ps n) ≡ 16
length_node ps n = length-append (row_of ps n) (record_of ps n) ∙ (omega (arith, length_row ps n, length_record ps n))

pub length_automaton : (ps : PatternSet) → length (automaton_words ps) ≡ 2 * length ps + 1 + (16 * length (nodes ps) - 8)
unfolding automaton_words
length_automaton ps =
    let n = length (nodes ps) in
    let shares = tabulate (length ps) (shared_at ps) in
    let all = flatten (tabulate n (node_words ps)) in
    let numbers = length-append (order ps) shares in
    let whole = length-append (order ps ++ shares) (n ∷ drop 8 all) in
    omega (arith, length-order ps, length-tabulate (length ps) (shared_at ps), length-drop 8 all, length_rows n (node_words ps) (length_node ps))
