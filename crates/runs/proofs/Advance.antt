-- ONE STEP OF THE AUTOMATON IS ONE STEP OF THE REFERENCE: from the head of the longest suffix the
-- failure links lead from one suffix with the tree of some head to the next shorter one, up to the
-- first that has it also with the value behind it; each of them costs one attempt.
use Rattle.std.specs.Prelude.{◌≡◌, ◌&&◌, ◌∷◌, ◌++◌, ◌≤◌, ◌<◌}
use Rattle.lists.proofs.Prelude.{◌∙◌, ap, sym, refl, ap₂, Bool, true, false, List, [], ℕ, zero, suc, pred, ℤ, T, leb, leb→le}
use Rattle.lists.proofs.Prelude.{le→leb, length, le_refl, dec_lt, arith, last_of, tabulate, last_below, select}
use Rattle.lists.proofs.Tests.{and_split, and_join, T-true, true-T}
use Rattle.lists.proofs.Parts.{length-last_of, last_of_snoc}
use Rattle.lists.proofs.LastBelow.{last_below-le, last_below_passes, last_below_none}
use Rattle.lists.proofs.Counting.{count_yes, count_skip, count}
use Rattle.gaps.specs.Gaps.{is_gap}
use Rattle.gaps.proofs.Laws.{snoc_none}
use Rattle.cartesian.specs.Cartesian.{distance_at, distances, cut}
use Rattle.cartesian.proofs.Seek.{length-distances}
use Rattle.pattern_set.specs.PatternSet.{PatternSet, good_set}
use Rattle.matching.specs.Matching.{is_head, head_tree, failure}
use Rattle.matching.proofs.Heads.{head_tree_whole, head_tree-is_head, failure_next}
use Rattle.automaton_model.specs.Automaton.{extended, advance_within, advance}
use Rattle.pattern_set.proofs.Good.{good_realizable}
use Rattle.runs.specs.ReferenceRun.{longest_extended, attempts, longest_head}
use Rattle.runs.proofs.Suffixes.{empty_suffix, extended_is}
use Rattle.runs.proofs.LongestHead.{head_suffix, extended_suffix, longest_head-le, longest_head_head, longest_head_none, longest_extended-le}
use Rattle.runs.proofs.LongestHead.{longest_extended_short, longest_extended_passes, longest_extended_none}

-- is the suffix of m values tried, where the one of q values is the last tried
abbrev pub tried : PatternSet → List ℤ → ℕ → ℕ → Bool
tried ps text q m = leb q m && head_tree ps (last_of m text)

-- the next shorter suffix that has the tree of some head
next_shorter : (ps : PatternSet) (text : List ℤ) (n : ℕ) → 0 < length ps → 0 < n
    → (r : ℕ) × (last_below (head_suffix ps text) n ≡ suc r) × (r < n) × T (head_suffix ps text r)
next_shorter ps text n z h = go (last_below (head_suffix ps text) n) refl
  where
    go : (k : ℕ) → last_below (head_suffix ps text) n ≡ k → (r : ℕ) × (last_below (head_suffix ps text) n ≡ suc r) × (r < n) × T (head_suffix ps text r)
    go zero e = absurd (last_below_none (head_suffix ps text) n 0 (let y : last_below (head_suffix ps text) n ≤ 0 = omega arith in y) h
        (empty_suffix ps text z))
    go (suc r) e = (r, e, omega (arith, last_below-le (head_suffix ps text) n), last_below_passes (head_suffix ps text) n r e)

-- the last suffix tried is the only one tried up to it
tried_last : (ps : PatternSet) (text : List ℤ) (q : ℕ) → T (head_suffix ps text q) → count (tried ps text q) (suc q) ≡ 1
unfolding tabulate select
tried_last ps text q t =
    count_yes (tried ps text q) q (and_join (leb q q) (head_suffix ps text q) (le→leb q q (le_refl q)) t)
    ∙ ap suc (count_skip (tried ps text q) 0 q (omega arith) (λ j a b s. below j b (leb→le q j (and_split (leb q j) (head_suffix ps text j) s).0)))
  where
    below : (j : ℕ) → j < q → q ≤ j → ⊥
    below j a b = omega arith

-- a longer one that is tried costs one attempt more than the next shorter one
tried_more : (ps : PatternSet) (text : List ℤ) (q n r : ℕ) → q ≤ n → T (head_suffix ps text n) → last_below (head_suffix ps text) n ≡ suc r → r < n
    → count (tried ps text q) (suc n) ≡ suc (count (tried ps text q) (suc r))
tried_more ps text q n r h t e l =
    count_yes (tried ps text q) n (and_join (leb q n) (head_suffix ps text n) (le→leb q n h) t)
    ∙ ap suc (count_skip (tried ps text q) (suc r) n l (λ j a b s. last_below_none (head_suffix ps text) n j (omega arith) b
    (and_split (leb q j) (head_suffix ps text j) s).1))

-- what is reached, and the attempts, where the last suffix tried is the first
last_attempt : (ps : PatternSet) (text : List ℤ) (x : ℤ) (d q n : ℕ) → n ≤ length text → n ≡ q
    → cut n d ≡ cut n (distance_at (text ++ (x ∷ [])) (length text)) → T (head_suffix ps text q)
    → ◌≡◌ {A = List ℕ × ℕ} (extended (distances (last_of n text)) d, 1) (distances (last_of q text ++ (x ∷ [])), count (tried ps text q) (suc n))
last_attempt ps text x d q n h e c t =
    ap₂ (λ (r : List ℕ) (a : ℕ). (r, a))
    (extended_is n text x d h c ∙ ap (λ (i : ℕ). distances (last_of i text ++ (x ∷ []))) e)
    (sym (ap (λ (i : ℕ). count (tried ps text q) (suc i)) e ∙ tried_last ps text q t))

-- one turn of the walk along the failure links: the branch is there, or is missing
advance_stops : (k : ℕ) (ps : PatternSet) (h : List ℕ) (d : ℕ) → is_head ps (extended h d) ≡ true → advance_within (suc k) ps h d ≡ (extended h d, 1)
unfolding advance_within
advance_stops k ps h d e = rw e refl

advance_falls : (k : ℕ) (ps : PatternSet) (h f : List ℕ) (d : ℕ) (reached : List ℕ) (made : ℕ) → is_head ps (extended h d) ≡ false → failure ps h ≡ f
    → advance_within k ps f d ≡ (reached, made)
    → advance_within (suc k) ps h d ≡ (reached, suc made)
unfolding advance_within
advance_falls k ps h f d reached made e u a = rw (e, u, a) refl

-- from the suffix of n values, where the longest one that has the tree of some head also with the
-- value behind it has q
advance_within_lem : (ps : PatternSet) (text : List ℤ) (x : ℤ) (d q : ℕ) → is_gap x ≡ false → T (good_set ps) → 0 < length ps
    → T (extended_suffix ps text x q)
    → (k n : ℕ) → n ≤ k → n ≤ length text → q ≤ n → T (head_suffix ps text n)
    → ((j : ℕ) → q < j → j ≤ n → T (extended_suffix ps text x j) → ⊥)
    → ((m : ℕ) → m ≤ n → cut m d ≡ cut m (distance_at (text ++ (x ∷ [])) (length text)))
    → advance_within k ps (distances (last_of n text)) d ≡ (distances (last_of q text ++ (x ∷ [])), count (tried ps text q) (suc n))
unfolding advance_within
advance_within_lem ps text x d q o g z s zero n l h b t f c =
    last_attempt ps text x d q n h (omega arith) (c n (le_refl n)) (and_split (head_suffix ps text q) (head_tree ps (last_of q text ++ (x ∷ []))) s).0
advance_within_lem ps text x d q o g z s (suc k) n l h b t f c = go (dec_lt q n) (advance_within_lem ps text x d q o g z s k)
  where
    split : T (head_suffix ps text q) × T (head_tree ps (last_of q text ++ (x ∷ [])))
    split = and_split (head_suffix ps text q) (head_tree ps (last_of q text ++ (x ∷ []))) s

    -- the extended head is a head exactly if the suffix has the tree of some head also with the
    -- value behind it
    extends : is_head ps (extended (distances (last_of n text)) d) ≡ head_tree ps (last_of n text ++ (x ∷ []))
    extends =
        ap (is_head ps) (extended_is n text x d h (c n (le_refl n)))
        ∙ sym (head_tree-is_head ps (last_of n text ++ (x ∷ [])) (snoc_none (last_of n text) x (head_tree_whole ps (last_of n text) t) o)
        (good_realizable ps g))

    stops : n ≡ q → advance_within (suc k) ps (distances (last_of n text)) d ≡ (distances (last_of q text ++ (x ∷ [])), count (tried ps text q) (suc n))
    stops e =
        let y : head_tree ps (last_of n text ++ (x ∷ [])) ≡ true = ap (λ (i : ℕ). head_tree ps (last_of i text ++ (x ∷ []))) e ∙ true-T
        (head_tree ps (last_of q text ++ (x ∷ []))) split.1 in
        advance_stops k ps (distances (last_of n text)) d (extends ∙ y) ∙ last_attempt ps text x d q n h e (c n (le_refl n)) split.0

    missing : q < n → (b : Bool) → head_tree ps (last_of n text ++ (x ∷ [])) ≡ b → b ≡ false
    missing y true e =
        absurd (f n y (le_refl n) (and_join (head_suffix ps text n) (head_tree ps (last_of n text ++ (x ∷ []))) t
        (T-true (head_tree ps (last_of n text ++ (x ∷ []))) e)))
    missing y false e = refl

    go : Dec (q < n)
        → ((n : ℕ) → n ≤ k → n ≤ length text → q ≤ n → T (head_suffix ps text n) → ((j : ℕ) → q < j → j ≤ n → T (extended_suffix ps text x j) → ⊥) →
        ((m : ℕ) → m ≤ n → cut m d ≡ cut m (distance_at (text ++ (x ∷ [])) (length text)))
        → advance_within k ps (distances (last_of n text)) d ≡ (distances (last_of q text ++ (x ∷ [])), count (tried ps text q) (suc n)))
        → advance_within (suc k) ps (distances (last_of n text)) d ≡ (distances (last_of q text ++ (x ∷ [])), count (tried ps text q) (suc n))
    go (no y) ih = stops (omega arith)
    go (yes y) ih =
        let r = next_shorter ps text n z (omega arith) in
        let i = r.0 in
        let li : i < n = r.2 in
        let v : q ≤ i = reach i r.1 in
        let u : failure ps (distances (last_of n text)) ≡ distances (last_of i text) = failure_next ps text n h (head_tree_whole ps (last_of n text) t) ∙ ap
        (λ (m : ℕ). distances (last_of (pred m) text)) r.1 in
        let a = ih i (omega arith) (omega arith) v r.3 (λ j p e. f j p (omega arith)) (λ m p. c m (omega arith)) in
        advance_falls k ps (distances (last_of n text)) (distances (last_of i text)) d (distances (last_of q text ++ (x ∷ [])))
        (count (tried ps text q) (suc i)) (extends ∙ missing y (head_tree ps (last_of n text ++ (x ∷ []))) refl) u a
        ∙ ap (λ (m : ℕ). (distances (last_of q text ++ (x ∷ [])), m)) (sym (tried_more ps text q n i b t r.1 li))
      where
        reach : (i : ℕ) → last_below (head_suffix ps text) n ≡ suc i → q ≤ i
        reach i e = here (dec_lt i q)
          where
            here : Dec (i < q) → q ≤ i
            here (yes p) = absurd (last_below_none (head_suffix ps text) n q (omega arith) y split.0)
            here (no p) = omega arith

-- the attempts are the suffixes tried, from the longest one with the tree of some head on
pub attempts-tried : (ps : PatternSet) (text : List ℤ) (x : ℤ) → is_gap x ≡ false
    → attempts ps text x ≡ count (tried ps text (longest_extended ps text x)) (suc (longest_head ps text))
unfolding attempts
attempts-tried ps text x o =
    let q = longest_extended ps text x in
    rw o (count_skip (tried ps text q) (suc (longest_head ps text)) (suc (length text)) (let l = longest_head-le ps text in omega arith)
    (λ j a b s. longest_head_none ps text j a (omega arith) (and_split (leb q j) (head_suffix ps text j) s).1))

-- ONE STEP of the automaton by a sample, from the head of the text's longest suffix that has one
pub advance_is : (ps : PatternSet) (text : List ℤ) (x : ℤ) (d : ℕ) → is_gap x ≡ false → T (good_set ps) → 0 < length ps
    → ((m : ℕ) → m ≤ longest_head ps text → cut m d ≡ cut m (distance_at (text ++ (x ∷ [])) (length text)))
    → advance ps (distances (last_of (longest_head ps text) text)) d ≡
    (distances (last_of (suc (longest_extended ps text x)) (text ++ (x ∷ []))), attempts ps text x)
advance_is ps text x d o g z c =
    let n = longest_head ps text in
    let q = longest_extended ps text x in
    let h = longest_head-le ps text in
    let l : length (distances (last_of n text)) ≡ n = length-distances (last_of n text) ∙ length-last_of n text h in
    advance_within_lem ps text x d q o g z (longest_extended_passes ps text x o g z) (length (distances (last_of n text))) n (omega arith) h
    (longest_extended-le ps text x o g z) (longest_head_head ps text z)
    (λ j a b. longest_extended_none ps text x j a (omega arith)) c
    ∙ ap₂ (λ (r : List ℕ) (a : ℕ). (r, a)) (ap distances (sym (last_of_snoc q text x (longest_extended_short ps text x)))) (sym (attempts-tried ps text x o))
