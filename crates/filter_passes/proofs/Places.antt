-- THE PATTERNS OF A PLACE, BY RANK: the members of a set of ranks, in their order, are the patterns
-- that pass its test in the order of the hits; so they are the place's hits, and as many as its
-- candidates. A place without candidates has no hit, and a gap has no candidates.
use Rattle.std.specs.Prelude.{◌≡◌, ◌&&◌, ◌∷◌, ◌+◌, ◌-◌, ◌/◌, ◌%◌, ◌≤◌, ◌<◌}
use Rattle.lists.proofs.Prelude.{◌∙◌, ap, sym, refl, subst, Bool, true, false, List, [], map, flatten, ℕ, suc, ℤ, pos, T}
use Rattle.lists.proofs.Prelude.{ltb, length, get_or, take, drop, length-append, length-map, length-take-le, length-drop, dec_lt, arith, lt-leb, lt-ltb, le-ltb}
use Rattle.lists.proofs.Prelude.{ltb-true, tabulate, select, drop-cons, drop_of_length-le, add-one}
use Rattle.lists.proofs.Tests.{and-false, and_split, and_join, T-true, true-T}
use Rattle.lists.proofs.Rows.{flatten-tabulate}
use Rattle.lists.proofs.Tables.{length-tabulate}
use Rattle.lists.proofs.Members.{get_or-mem, mem-get_or, map_ext, map-map}
use Rattle.lists.proofs.Select.{select_empty}
use Rattle.lists.proofs.Counting.{length-how_many, how_many-le, how_many_all}
use Rattle.bit_sets.specs.BitSets.{bit_at, bits}
use Rattle.bit_sets.proofs.Laws.{bits-zero, mem-bits}
use Rattle.bit_sets.proofs.Digits.{bit_at_none}
use Rattle.gaps.specs.Gaps.{is_gap}
use Rattle.pattern_set.specs.PatternSet.{PatternSet, good_set}
use Rattle.pattern_set.proofs.Good.{good_set_parts}
use Rattle.matching.specs.Matching.{last_hits, hits_at, shortest, is_candidate, candidates}
use Rattle.filter_plan.specs.Plan.{hit_order, is_hit}
use Rattle.filter_plan.proofs.HitOrder.{good_number, hit_order-lt, length-hit_order, last_hits_order}
use Rattle.filter_plan.proofs.Checks.{shortest_own, hit_candidate}
use Rattle.filter_plan.proofs.Candidates.{candidates_order, last_hits_candidates}
use Rattle.filter_tables.specs.Tables.{ranked, Ranks}
use Rattle.filter_tables.proofs.Lookup.{bits_ranks, ranks_order}
use Rattle.filter_checks.specs.Groups.{Groups}
use Rattle.filter_windows.specs.Looks.{SetOf}
use Rattle.filter_windows.proofs.Samples.{Since-gap, samples_fit}
use Rattle.filter_passes.specs.Passes.{is_marked, HitsMarked, MarkedIf, NoneFrom, candidates_below, rank_hits, place_hits}

-- ---- ranks

-- the members of a set by rank are the patterns that pass, in the order of the hits
rank_select : (ps : PatternSet) (test : List ℕ → Bool) (set : ℕ) → T (good_set ps) → SetOf ps test set
    → select (λ j. test (get_or ps j [])) (hit_order ps) ≡ map (λ r. get_or (hit_order ps) r 0) (bits set)
rank_select ps test set g s = sym (ap (map (λ r. get_or (hit_order ps) r 0)) (bits_ranks ps set test (good_set_parts ps g).0 s) ∙ ranks_order ps test g)

-- a rank of the set is that of a pattern of the set, which passes the test
rank_passes : (ps : PatternSet) (test : List ℕ → Bool) (set r : ℕ) → SetOf ps test set → r < 64 → T (bit_at set r) → (r < length ps) × T (test (ranked ps r))
rank_passes ps test set r s h t =
    let b = and_split (ltb r (length ps)) (test (ranked ps r)) (subst T (s r h) t) in
    (ltb-true r (length ps) (true-T (ltb r (length ps)) b.0), b.1)

-- ---- candidates

candidates_size : (ps : PatternSet) (b : ℕ) (text : List ℤ) (set : ℕ) → T (good_set ps) → SetOf ps (is_candidate b text) set
    → length (bits set) ≡ length (select (is_candidate b text) ps)
candidates_size ps b text set g s =
    sym (length-map (bits set) (λ r. get_or (hit_order ps) r 0))
    ∙ sym (ap length (rank_select ps (is_candidate b text) set g s))
    ∙ sym (candidates_order b ps text g)

-- one place more
pub candidates_next : (ps : PatternSet) (text : List ℤ) (p set : ℕ) → T (good_set ps)
    → SetOf ps (is_candidate (shortest 17 ps) (take (suc p) text)) set
    → candidates_below ps text (suc p) ≡ candidates_below ps text p + length (bits set)
candidates_next ps text p set g s =
    let f : ℕ → List (List ℕ) = λ q. select (is_candidate (shortest 17 ps) (take (suc q) text)) ps in
    ap length (flatten-tabulate p f)
    ∙ length-append (flatten (tabulate p f)) (f p)
    ∙ ap (λ (n : ℕ). candidates_below ps text p + n) (sym (candidates_size ps (shortest 17 ps) (take (suc p) text) set g s))

pub candidates_none : (ps : PatternSet) (text : List ℤ) → 0 ≡ candidates_below ps text 0
unfolding flatten tabulate
candidates_none ps text = refl

pub candidates_all : (ps : PatternSet) (text : List ℤ) (n : ℕ) → n ≡ length text → candidates_below ps text n ≡ candidates ps text
unfolding candidates
candidates_all ps text n e = rw e refl

-- at a gap no pattern is a candidate: no window fits there
pub gap_candidates : (ps : PatternSet) (text : List ℤ) (p : ℕ) → T (good_set ps) → p < length text → is_gap (get_or text p (pos 0)) ≡ true
    → SetOf ps (is_candidate (shortest 17 ps) (take (suc p) text)) 0
unfolding is_candidate
gap_candidates ps text p g lt gap r h = bit_at_none r ∙ sym (go (dec_lt r (length ps)))
  where
    go : Dec (r < length ps) → (ltb r (length ps) && is_candidate (shortest 17 ps) (take (suc p) text) (ranked ps r)) ≡ false
    go (yes l) =
        let q = ranked ps r in
        let inside = good_number ps (get_or (hit_order ps) r 0) g (hit_order-lt ps r (omega (arith, length-hit_order ps g))) in
        let fit = samples_fit text p (suc p) 0 lt (Since-gap text p (suc p) lt gap refl) (omega arith) q inside.1 in
        rw (fit, lt-leb (length q) 0 (omega (arith, inside.0))) (and-false (ltb r (length ps)))
    go (no f) = rw (le-ltb r (length ps) (omega arith)) refl

-- where there is no candidate, no pattern has a hit
no_hit : (ps : PatternSet) (text : List ℤ) (r : ℕ) → T (good_set ps) → SetOf ps (is_candidate (shortest 17 ps) text) 0 → r < length ps
    → T (is_hit text (ranked ps r)) → ⊥
no_hit ps text r g s h t =
    let j = get_or (hit_order ps) r 0 in
    let l = hit_order-lt ps r (omega (arith, length-hit_order ps g)) in
    let own = shortest_own ps (ranked ps r) (get_or-mem ps j [] l) in
    let c = hit_candidate (shortest 17 ps) text (ranked ps r) (omega (arith, own)) (good_number ps j g l).2 t in
    subst T (sym (s r (omega (arith, (good_set_parts ps g).0))) ∙ bit_at_none r)
    (and_join (ltb r (length ps)) (is_candidate (shortest 17 ps) text (ranked ps r)) (T-true (ltb r (length ps)) (lt-ltb r (length ps) h)) c)

-- ---- marks

module _ (ps : PatternSet) (text : List ℤ) (marks : List ℕ) (p : ℕ) (good : T (good_set ps)) (before : HitsMarked ps text marks p) where
  -- places without candidates
  pub marks_skip : (n : ℕ) → NoneFrom ps text p n → HitsMarked ps text marks n
  marks_skip n none q h r k t = go (dec_lt q p)
    where
      go : Dec (q < p) → T (is_marked marks (q / 64))
      go (yes l) = before q l r k t
      go (no f) = absurd (no_hit ps (take (suc q) text) r good (none q (omega arith) h) k t)

  -- a place of a block that is marked
  pub marks_stay : T (is_marked marks (p / 64)) → HitsMarked ps text marks (p + 1)
  marks_stay m q h r k t = go (dec_lt q p)
    where
      go : Dec (q < p) → T (is_marked marks (q / 64))
      go (yes l) = before q l r k t
      go (no f) = let e : q ≡ p = omega arith in rw e m

  -- a place that was looked at
  pub marks_next : (after : List ℕ) (found : ℕ) → SetOf ps (is_hit (take (suc p) text)) found → MarkedIf marks after p found → HitsMarked ps text after (p + 1)
  marks_next after found s m q h r k t = go (dec_lt q p)
    where
      go : Dec (q < p) → T (is_marked after (q / 64))
      go (yes l) = m.none_lost (q / 64) (before q l r k t)
      go (no f) =
          let e : q ≡ p = omega arith in
          let l : r < 64 = omega (arith, (good_set_parts ps good).0) in
          rw e
          (m.marked r l
          (subst T (sym (s r l))
          (and_join (ltb r (length ps)) (is_hit (take (suc p) text) (ranked ps r)) (T-true (ltb r (length ps)) (lt-ltb r (length ps) k))
          (subst (λ (n : ℕ). T (is_hit (take (suc n) text) (ranked ps r))) e t))))

-- ---- hits

-- the hits of a place, from the set of their ranks
pub hits_by_rank : (ps : PatternSet) (text : List ℤ) (p : ℕ) (numbers : List ℕ) (found : ℕ) → T (good_set ps) → Ranks ps numbers
    → SetOf ps (is_hit (take (suc p) text)) found → rank_hits numbers p (bits found) ≡ hits_at ps text p
unfolding hits_at rank_hits
hits_by_rank ps text p numbers found g n s =
    let t = take (suc p) text in
    sym (ap (map (λ j. (p, j))) (last_hits_order ps t g ∙ rank_select ps (is_hit t) found g s)
    ∙ map-map (λ r. get_or (hit_order ps) r 0) (λ j. (p, j)) (bits found)
    ∙ map_ext (λ r. (p, get_or (hit_order ps) r 0)) (λ r. (p, get_or numbers r 0)) (bits found)
    (λ r m. let b = (mem-bits found r).0 m in
    ap (λ (j : ℕ). (p, j)) (sym (n r (rank_passes ps (is_hit t) found r s b.0 b.1).0))))

pub length-rank_hits : (numbers : List ℕ) (p : ℕ) (ranks : List ℕ) → length (rank_hits numbers p ranks) ≡ length ranks
unfolding rank_hits
length-rank_hits numbers p ranks = length-map {B = ℕ × ℕ} ranks (λ r. (p, get_or numbers r 0))

-- a place has as many hits as there are ranks in their set
pub hits_at_size : (ps : PatternSet) (text : List ℤ) (p : ℕ) (numbers : List ℕ) (found : ℕ) → T (good_set ps) → Ranks ps numbers
    → SetOf ps (is_hit (take (suc p) text)) found → length (bits found) ≡ length (hits_at ps text p)
hits_at_size ps text p numbers found g n s = sym (length-rank_hits numbers p (bits found)) ∙ ap length (hits_by_rank ps text p numbers found g n s)

-- a set has at most 64 members
pub bits_le : (m : ℕ) → length (bits m) ≤ 64
unfolding bits
bits_le m =
    let below = tabulate 64 (λ i. i) in
    rw (length-how_many (bit_at m) below)
    (omega (arith, how_many-le (bit_at m) (λ x. true) below (λ a k u. tt), how_many_all below, length-tabulate 64 (λ i. i)))

-- the hits of numbers: the first, and the others from i on
pub length-place_hits : (p : ℕ) (numbers : List ℕ) → length (place_hits p numbers) ≡ length numbers
unfolding place_hits
length-place_hits p numbers = length-map {B = ℕ × ℕ} numbers (λ j. (p, j))

pub place_first : (p : ℕ) (numbers : List ℕ) (i : ℕ) → i < length numbers
    → place_hits p (drop i numbers) ≡ (p, get_or numbers i 0) ∷ place_hits p (drop (i + 1) numbers)
unfolding place_hits
place_first p numbers i h =
    ap (place_hits p) (drop-cons numbers i 0 h) ∙ ap (λ (n : ℕ). (p, get_or numbers i 0) ∷ place_hits p (drop n numbers)) (sym (add-one i))

pub place_none : (p : ℕ) (numbers : List ℕ) (i : ℕ) → length numbers ≤ i → place_hits p (drop i numbers) ≡ []
unfolding place_hits
place_none p numbers i h = ap (place_hits p) (drop_of_length-le numbers {i = i} h)

-- the numbers of ranks
pub place_ranks : (p : ℕ) (numbers ranks : List ℕ) → place_hits p (map (λ s. get_or numbers s 0) ranks) ≡ rank_hits numbers p ranks
unfolding place_hits rank_hits
place_ranks p numbers ranks = map-map (λ s. get_or numbers s 0) (λ j. (p, j)) ranks

-- as many as there are ranks
pub part_size : (grouped numbers ranks : List ℕ) (a n : ℕ) → a + n ≤ length grouped → take n (drop a grouped) ≡ map (λ s. get_or numbers s 0) ranks
    → n ≡ length ranks
part_size grouped numbers ranks a n h e =
    sym (length-take-le n (drop a grouped) (omega (arith, length-drop a grouped))) ∙ ap length e ∙ length-map ranks (λ s. get_or numbers s 0)

-- those of the ranks whose patterns equal that of rank r, from the table in which they lie side by
-- side
pub group_hits : (k : ℕ) (numbers equal grouped words : List ℕ) (p r : ℕ) → Groups k numbers equal grouped words → r < k →
    let word = get_or words r 0 in
    place_hits p (take (word % 64 + word / 64 - word % 64) (drop (word % 64) grouped)) ≡ rank_hits numbers p (bits (get_or equal r 0))
group_hits k numbers equal grouped words p r g h =
    let word = get_or words r 0 in
    let e : word % 64 + word / 64 - word % 64 ≡ word / 64 = omega arith in
    ap (λ (n : ℕ). place_hits p (take n (drop (word % 64) grouped))) e
    ∙ ap (place_hits p) (g r h).1
    ∙ place_ranks p numbers (bits (get_or equal r 0))

-- the hit of the first rank, and those of the others
pub rank_first : (numbers : List ℕ) (p r : ℕ) (ranks rest : List ℕ) → ranks ≡ r ∷ drop 1 ranks → rest ≡ drop 1 ranks
    → rank_hits numbers p ranks ≡ (p, get_or numbers r 0) ∷ rank_hits numbers p rest
unfolding rank_hits
rank_first numbers p r ranks rest e f = ap (rank_hits numbers p) e ∙ ap (λ (l : List ℕ). (p, get_or numbers r 0) ∷ rank_hits numbers p l) (sym f)

-- of an empty set there are none
pub rank_none : (numbers : List ℕ) (p set : ℕ) → set ≡ 0 → rank_hits numbers p (bits set) ≡ []
unfolding rank_hits
rank_none numbers p set e = rw (e, bits-zero) refl

-- no place has more hits than there are patterns
pub hits_at_count : (ps : PatternSet) (text : List ℤ) (p : ℕ) → T (good_set ps) → length (hits_at ps text p) ≤ length ps
unfolding hits_at
hits_at_count ps text p g =
    let t = take (suc p) text in
    rw (length-map {B = ℕ × ℕ} (last_hits ps t) (λ j. (p, j)), last_hits_order ps t g, length-how_many (λ j. is_hit t (get_or ps j [])) (hit_order ps))
    (omega (arith, how_many-le (λ j. is_hit t (get_or ps j [])) (λ x. true) (hit_order ps) (λ a k u. tt), how_many_all (hit_order ps), length-hit_order ps g))

pub hits_at-le : (ps : PatternSet) (text : List ℤ) (p : ℕ) → T (good_set ps) → length (hits_at ps text p) ≤ 64
hits_at-le ps text p g = omega (arith, hits_at_count ps text p g, (good_set_parts ps g).0)

-- nor more than candidates
pub hits_at_candidates : (ps : PatternSet) (text : List ℤ) (p set : ℕ) → T (good_set ps)
    → SetOf ps (is_candidate (shortest 17 ps) (take (suc p) text)) set → length (hits_at ps text p) ≤ length (bits set)
unfolding hits_at
hits_at_candidates ps text p set g s =
    let t = take (suc p) text in
    rw (length-map {B = ℕ × ℕ} (last_hits ps t) (λ j. (p, j)), candidates_size ps (shortest 17 ps) t set g s) (last_hits_candidates ps t g)

-- a place at which no pattern by rank has a hit has none
pub none_hit : (ps : PatternSet) (text : List ℤ) (p : ℕ) → T (good_set ps)
    → ((r : ℕ) → r < length ps → T (is_hit (take (suc p) text) (ranked ps r)) → ⊥) → hits_at ps text p ≡ []
unfolding hits_at
none_hit ps text p g none =
    let t = take (suc p) text in
    ap (map (λ j. (p, j))) (last_hits_order ps t g ∙ select_empty (λ j. is_hit t (get_or ps j [])) (hit_order ps)
    (λ j m h. let w = mem-get_or (hit_order ps) j 0 m in
    let k : w.0 < length ps = omega (arith, w.1, length-hit_order ps g) in
    none w.0 k (subst (λ (i : ℕ). T (is_hit t (get_or ps i []))) (sym w.2) h)))

-- so has one without candidates
pub no_candidate_hit : (ps : PatternSet) (text : List ℤ) (p : ℕ) → T (good_set ps) → SetOf ps (is_candidate (shortest 17 ps) (take (suc p) text)) 0
    → hits_at ps text p ≡ []
no_candidate_hit ps text p g s = none_hit ps text p g (λ r k t. no_hit ps (take (suc p) text) r g s k t)
