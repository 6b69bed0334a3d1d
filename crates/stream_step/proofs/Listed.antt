-- THE PATTERNS LISTED AT A HEAD are those that end at the first head of its chain where some end,
-- and then those listed at the failure of that one: heads where none ends add nothing, and none
-- ends at the root. Each pattern ends at one head only, and the heads of a chain get shorter, so no
-- more are listed than there are.
use Rattle.std.specs.Prelude.{◌≡◌, ◌∷◌, ◌++◌, ◌+◌, ◌≤◌, ◌<◌}
use Rattle.lists.proofs.Prelude.{◌∙◌, ap, sym, refl, subst, Bool, true, false, cond, List, [], map, append-nil, flatten, ℕ, zero, suc}
use Rattle.lists.proofs.Prelude.{T, leb, leb→le, le→leb, length, get_or, drop, length-append, length-drop, length-take-le, get_or-take, get_or-drop, le_refl}
use Rattle.lists.proofs.Prelude.{arith, tabulate, select, same}
use Rattle.lists.proofs.Same.{same_eq}
use Rattle.lists.proofs.Tests.{positive}
use Rattle.lists.proofs.Parts.{length_none}
use Rattle.lists.proofs.Members.{get_or-mem, mem_below}
use Rattle.lists.proofs.Select.{select_empty}
use Rattle.lists.proofs.Counting.{select_two}
use Rattle.pattern_set.specs.PatternSet.{PatternSet, good_set}
use Rattle.matching.specs.Matching.{failure, chain}
use Rattle.automaton_model.specs.Automaton.{nodes, head_of, node_of, ends_at, first_end, ending_at, listed, order}
use Rattle.automaton_model.proofs.Nodes.{good_length, node_root, node_longer, failure_head, failure_shorter}
use Rattle.automaton_lookup.specs.Places.{first_place}
use Rattle.automaton_model.proofs.Order.{length-order}
use Rattle.automaton_lookup.proofs.Places.{order_ending, ends_within}
use Rattle.automaton_model.proofs.Chains.{chain_root, chain_more, output_here, output_falls, output_root, output_head}

-- ---- the patterns that end at one head

pub length-ending_at : (ps : PatternSet) (h : List ℕ) → length (ending_at ps h) ≡ ends_at ps h
length-ending_at ps h =
    let l = length-drop (first_place ps h) (order ps) in
    ap length (sym (order_ending ps h))
    ∙ length-take-le (ends_at ps h) (drop (first_place ps h) (order ps)) (omega (arith, length-order ps, ends_within ps h))

-- the numbers of the order from the first place of the head on
pub ending_at_place : (ps : PatternSet) (h : List ℕ) (i : ℕ) → i < ends_at ps h → get_or (order ps) (first_place ps h + i) 0 ≡ get_or (ending_at ps h) i 0
ending_at_place ps h i l =
    sym (get_or-drop (first_place ps h) (order ps) i 0)
    ∙ sym (get_or-take (ends_at ps h) (drop (first_place ps h) (order ps)) i 0 l)
    ∙ ap (λ (js : List ℕ). get_or js i 0) (order_ending ps h)

-- no pattern ends at the root
ending_root : (ps : PatternSet) → T (good_set ps) → ending_at ps [] ≡ []
ending_root ps g =
    select_empty (λ j. same (get_or ps j []) []) (tabulate (length ps) (λ j. j))
    (λ j m t.
    let e = same_eq (get_or ps j []) [] t in
    let l = (good_length ps g (get_or ps j []) (get_or-mem ps j [] ((mem_below (length ps) j).0 m))).0 in
    let y : ⊥ = omega (arith, ap length e) in y)

ending_none : (ps : PatternSet) (h : List ℕ) → ends_at ps h ≡ 0 → ending_at ps h ≡ []
ending_none ps h e = length_none (ending_at ps h) (length-ending_at ps h ∙ e)

-- ---- the patterns listed

listed_root : (ps : PatternSet) → T (good_set ps) → listed ps [] ≡ []
unfolding listed flatten
listed_root ps g = ap (λ (c : List (List ℕ)). flatten (map (ending_at ps) c)) (chain_root ps) ∙ append-nil (ending_at ps []) ∙ ending_root ps g

-- so at node 0, its node
pub listed_node_root : (ps : PatternSet) → T (good_set ps) → 0 < length ps → listed ps (head_of ps 0) ≡ []
listed_node_root ps g z = ap (listed ps) (node_root ps g z).0 ∙ listed_root ps g

pub listed_more : (ps : PatternSet) (h : List ℕ) → 0 < length h → listed ps h ≡ ending_at ps h ++ listed ps (failure ps h)
unfolding listed flatten
listed_more ps [] l = absurd (let z : ⊥ = omega arith in z)
listed_more ps (x ∷ h) l = ap (λ (c : List (List ℕ)). flatten (map (ending_at ps) c)) (chain_more ps x h)

-- ---- the first end

-- e is no longer than h, with the same patterns listed
record FirstEnd (ps : PatternSet) (h e : List ℕ) : Type 0 where
  shorter : length e ≤ length h
  lists : listed ps e ≡ listed ps h

first_end_root : (ps : PatternSet) → FirstEnd ps [] (first_end ps (chain ps []))
first_end_root ps = subst (λ (e : List ℕ). FirstEnd ps [] e) (sym (output_root ps)) (record { shorter = le_refl 0; lists = refl })

-- THE FIRST END of the chain of a head lists what the head does
first_end_within : (ps : PatternSet) (n : ℕ) (h : List ℕ) → length h ≤ n → FirstEnd ps h (first_end ps (chain ps h))
first_end_within ps zero [] l = first_end_root ps
first_end_within ps (suc n) [] l = first_end_root ps
first_end_within ps zero (x ∷ h) l = absurd (let z : ⊥ = omega arith in z)
first_end_within ps (suc n) (x ∷ h) l =
    let s = failure_shorter ps (x ∷ h) (omega arith) in
    go (ends_at ps (x ∷ h)) refl (first_end_within ps n (failure ps (x ∷ h)) (omega arith))
  where
    go : (k : ℕ) → ends_at ps (x ∷ h) ≡ k → FirstEnd ps (failure ps (x ∷ h)) (first_end ps (chain ps (failure ps (x ∷ h))))
        → FirstEnd ps (x ∷ h) (first_end ps (chain ps (x ∷ h)))
    go zero e r =
        let s = failure_shorter ps (x ∷ h) (omega arith) in
        subst (λ (k : List ℕ). FirstEnd ps (x ∷ h) k) (sym (output_falls ps (x ∷ h) (omega arith) e))
        (record {
          shorter = omega (arith, r.shorter);
          lists = r.lists ∙ sym (listed_more ps (x ∷ h) (omega arith) ∙ ap (λ (l : List ℕ). l ++ listed ps (failure ps (x ∷ h))) (ending_none ps (x ∷ h) e));
        })
    go (suc k) e r =
        subst (λ (k : List ℕ). FirstEnd ps (x ∷ h) k) (sym (output_here ps (x ∷ h) (λ q. let y : ⊥ = omega arith in y)))
        (record { shorter = le_refl (length (x ∷ h)); lists = refl })

-- the same of nodes: the output link
pub output_node : (ps : PatternSet) → T (good_set ps) → 0 < length ps → (n o : ℕ) → n < length (nodes ps) → o
    ≡ node_of ps (first_end ps (chain ps (head_of ps n)))
    → (o < length (nodes ps)) × (length (head_of ps o) ≤ length (head_of ps n)) × (listed ps (head_of ps o) ≡ listed ps (head_of ps n))
output_node ps g z n o h e =
    let r = first_end_within ps (length (head_of ps n)) (head_of ps n) (le_refl (length (head_of ps n))) in
    let p = output_head ps g z n o h e in
    (p.0, omega (arith, ap length p.1, r.shorter), ap (listed ps) p.1 ∙ r.lists)

-- and the failure link of a node that is not the root
pub failure_node : (ps : PatternSet) → T (good_set ps) → 0 < length ps → (n f : ℕ) → n < length (nodes ps) → (n ≡ 0 → ⊥)
    → f ≡ node_of ps (failure ps (head_of ps n))
    → (f < length (nodes ps)) × (length (head_of ps f) < length (head_of ps n))
    × (listed ps (head_of ps n) ≡ ending_at ps (head_of ps n) ++ listed ps (head_of ps f))
failure_node ps g z n f h k e =
    let l = node_longer ps g z n (positive n k) h in
    let p = failure_head ps g n f h e in
    let rest = ap (λ (g : List ℕ). ending_at ps (head_of ps n) ++ listed ps g) (sym p.1) in
    (p.0, omega (arith, ap length p.1, failure_shorter ps (head_of ps n) l), listed_more ps (head_of ps n) l ∙ rest)

-- ---- how many are listed

-- how many patterns have at most n distances
abbrev up_to : PatternSet → ℕ → ℕ
up_to ps n = length (select (λ p. leb (length p) n) ps)

ends_up_to : (ps : PatternSet) (h : List ℕ) (m : ℕ) → m < length h → ends_at ps h + up_to ps m ≤ up_to ps (length h)
ends_up_to ps h m l =
    select_two (same h) (λ p. leb (length p) m) (λ p. leb (length p) (length h)) ps
    (λ p t. let e = ap length (same_eq h p t) in le→leb (length p) (length h) (omega arith))
    (λ p t. let e = leb→le (length p) m t in le→leb (length p) (length h) (omega arith))
    (λ p t u. let e = ap length (same_eq h p t) in let k = leb→le (length p) m u in let y : ⊥ = omega arith in y)

up_to-le : (ps : PatternSet) (n : ℕ) → up_to ps n ≤ length ps
unfolding select
up_to-le [] n = omega arith
up_to-le (p ∷ ps) n = go (leb (length p) n) (up_to-le ps n)
  where
    go : (b : Bool) → up_to ps n ≤ length ps → length (cond b (p ∷ select (λ p. leb (length p) n) ps) (select (λ p. leb (length p) n) ps)) ≤ suc (length ps)
    go true ih = omega arith
    go false ih = omega arith

listed-up_to : (ps : PatternSet) → T (good_set ps) → (n : ℕ) (h : List ℕ) → length h ≤ n → length (listed ps h) ≤ up_to ps (length h)
listed-up_to ps g zero [] l = let e = ap length (listed_root ps g) in omega arith
listed-up_to ps g zero (x ∷ h) l = absurd (let z : ⊥ = omega arith in z)
listed-up_to ps g (suc n) [] l = let e = ap length (listed_root ps g) in omega arith
listed-up_to ps g (suc n) (x ∷ h) l =
    let f = failure ps (x ∷ h) in
    let s = failure_shorter ps (x ∷ h) (omega arith) in
    let ih = listed-up_to ps g n f (omega arith) in
    let e = ap length (listed_more ps (x ∷ h) (omega arith)) ∙ length-append (ending_at ps (x ∷ h)) (listed ps f) in
    omega (arith, ends_up_to ps (x ∷ h) (length f) s, length-ending_at ps (x ∷ h))

-- NO MORE PATTERNS ARE LISTED THAN THERE ARE
pub length-listed : (ps : PatternSet) → T (good_set ps) → (h : List ℕ) → length (listed ps h) ≤ length ps
length-listed ps g h = let a = listed-up_to ps g (length h) h (le_refl (length h)) in let b = up_to-le ps (length h) in omega arith
