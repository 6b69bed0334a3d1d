-- The root's child, and THE CHAIN OF A HEAD, with its first head where a pattern ends: as many
-- failure links as the head has distances are enough.

use Rattle.std.specs.Prelude.{◌≡◌, ◌∷◌, ◌≤◌, ◌<◌}
use Rattle.lists.proofs.Prelude.{◌∙◌, ap, refl, subst, Bool, true, false, cond, List, [], Memᴰ, Memᴰ-head, ℕ, zero, suc, T, eqb}
use Rattle.lists.proofs.Prelude.{eqb→eq, eqb-suc-zero, length, take, le_refl, arith, begins, any}
use Rattle.lists.proofs.Tests.{T-true}
use Rattle.lists.proofs.Members.{mem-any}
use Rattle.lists.proofs.Same.{eq_same}
use Rattle.realization.specs.Realization.{realizable}
use Rattle.realization.specs.Walk.{walk}
use Rattle.realization.proofs.Walk.{realizable-walk}
use Rattle.pattern_set.specs.PatternSet.{PatternSet, good_set}
use Rattle.pattern_set.proofs.Good.{good_pattern_lem}
use Rattle.matching.specs.Matching.{is_head, failure, chain_within, chain}
use Rattle.automaton_model.specs.Automaton.{nodes, head_of, node_of, ends_at, first_end}
use Rattle.automaton_model.proofs.Nodes.{head_node, node_head, empty_is_head, failure-is_head, failure_shorter}

-- a realizable list begins with distance 0
walk-zero : (p : List ℕ) → T (walk [] p) → 0 < length p → take 1 p ≡ 0 ∷ []
unfolding walk any
walk-zero [] t h = absurd (let z : ⊥ = omega arith in z)
walk-zero (zero ∷ p) t h = refl
walk-zero (suc d ∷ p) t h = absurd t

pub first_zero : (p : List ℕ) → T (realizable p) → 0 < length p → take 1 p ≡ 0 ∷ []
first_zero p t h = walk-zero p (subst T (realizable-walk p) t) h

pub zero-is_head : (ps : PatternSet) → T (good_set ps) → 0 < length ps → T (is_head ps (0 ∷ []))
unfolding is_head
zero-is_head [] g h = absurd (let z : ⊥ = omega arith in z)
zero-is_head (p ∷ ps) g h =
    let m : Memᴰ p (p ∷ ps) = Memᴰ-head refl in
    let k = good_pattern_lem (p ∷ ps) p g m in
    mem-any (λ p. begins p (0 ∷ [])) (p ∷ ps) p m (eq_same (take 1 p) (0 ∷ []) (first_zero p k.2 k.0))

pub chain_enough : (ps : PatternSet) (n m : ℕ) (h : List ℕ) → length h ≤ n → length h ≤ m → chain_within n ps h ≡ chain_within m ps h
unfolding chain_within
chain_enough ps zero zero h l k = refl
chain_enough ps zero (suc m) [] l k = refl
chain_enough ps (suc n) zero [] l k = refl
chain_enough ps (suc n) (suc m) [] l k = refl
chain_enough ps zero (suc m) (x ∷ h) l k = absurd (let z : ⊥ = omega arith in z)
chain_enough ps (suc n) zero (x ∷ h) l k = absurd (let z : ⊥ = omega arith in z)
chain_enough ps (suc n) (suc m) (x ∷ h) l k =
    let s = failure_shorter ps (x ∷ h) (omega arith) in
    ap (λ (c : List (List ℕ)). (x ∷ h) ∷ cond (eqb (length (x ∷ h)) 0) [] c) (chain_enough ps n m (failure ps (x ∷ h)) (omega arith) (omega arith))

pub chain_root : (ps : PatternSet) → chain ps [] ≡ [] ∷ []
unfolding chain_within
chain_root ps = refl

pub chain_more : (ps : PatternSet) (x : ℕ) (h : List ℕ) → chain ps (x ∷ h) ≡ (x ∷ h) ∷ chain ps (failure ps (x ∷ h))
unfolding chain_within
chain_more ps x h =
    let s = failure_shorter ps (x ∷ h) (omega arith) in
    let f = failure ps (x ∷ h) in
    rw (eqb-suc-zero (length h)) (ap (λ (c : List (List ℕ)). (x ∷ h) ∷ c) (chain_enough ps (length h) (length f) f (omega arith) (le_refl (length f))))

-- ---- the output

-- THE OUTPUT: the head itself where a pattern ends there
pub output_here : (ps : PatternSet) (h : List ℕ) → (ends_at ps h ≡ 0 → ⊥) → first_end ps (chain ps h) ≡ h
unfolding chain_within first_end
output_here ps h f = go (length h)
  where
    here : (b : Bool) → eqb (ends_at ps h) 0 ≡ b → (l : List (List ℕ)) → cond b (first_end ps l) h ≡ h
    here true e l = absurd (f (eqb→eq (ends_at ps h) 0 (T-true (eqb (ends_at ps h) 0) e)))
    here false e l = refl

    go : (k : ℕ) → first_end ps (chain_within k ps h) ≡ h
    go zero = here (eqb (ends_at ps h) 0) refl []
    go (suc k) = here (eqb (ends_at ps h) 0) refl (cond (eqb (length h) 0) [] (chain_within k ps (failure ps h)))

-- and that of its failure link where none does
pub output_falls : (ps : PatternSet) (h : List ℕ) → 0 < length h → ends_at ps h ≡ 0 → first_end ps (chain ps h) ≡ first_end ps (chain ps (failure ps h))
unfolding first_end
output_falls ps [] l e = absurd (let y : ⊥ = omega arith in y)
output_falls ps (x ∷ h) l e = ap (first_end ps) (chain_more ps x h) ∙ rw e refl

-- it is a head
pub output_is_head : (ps : PatternSet) → T (good_set ps) → 0 < length ps → (h : List ℕ) → T (is_head ps h) → T (is_head ps (first_end ps (chain ps h)))
unfolding chain_within first_end
output_is_head ps g z h t = within (length h) h t
  where
    within : (k : ℕ) (h : List ℕ) → T (is_head ps h) → T (is_head ps (first_end ps (chain_within k ps h)))
    within zero h t = go (eqb (ends_at ps h) 0)
      where
        go : (b : Bool) → T (is_head ps (cond b [] h))
        go true = empty_is_head ps z
        go false = t
    within (suc k) h t = go (eqb (ends_at ps h) 0) (eqb (length h) 0) (within k (failure ps h) (failure-is_head ps g h t))
      where
        go : (b c : Bool) → T (is_head ps (first_end ps (chain_within k ps (failure ps h))))
            → T (is_head ps (cond b (first_end ps (cond c [] (chain_within k ps (failure ps h)))) h))
        go true true ih = empty_is_head ps z
        go true false ih = ih
        go false c ih = t

-- so the output link of a node leads to a node, whose head it is
pub output_head : (ps : PatternSet) → T (good_set ps) → 0 < length ps → (n o : ℕ) → n < length (nodes ps) → o
    ≡ node_of ps (first_end ps (chain ps (head_of ps n)))
    → (o < length (nodes ps)) × (head_of ps o ≡ first_end ps (chain ps (head_of ps n)))
output_head ps g z n o h e =
    let p = head_node ps g (first_end ps (chain ps (head_of ps n))) (output_is_head ps g z (head_of ps n) (node_head ps n h).0) in
    (omega (arith, p.0), ap (head_of ps) e ∙ p.1)

-- at the root there is none
pub output_root : (ps : PatternSet) → first_end ps (chain ps []) ≡ []
unfolding chain_within first_end
output_root ps = go (eqb (ends_at ps []) 0)
  where
    go : (b : Bool) → ◌≡◌ {A = List ℕ} (cond b [] []) []
    go true = refl
    go false = refl
