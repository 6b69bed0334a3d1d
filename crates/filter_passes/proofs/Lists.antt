-- THE LIST OF HITS, PART BY PART: place by place and block by block from the front, and the words
-- and rises that have been written when a part is still to come. A block that is not marked has no
-- hit.
use Rattle.std.specs.Prelude.{◌≡◌, ◌∷◌, ◌++◌, ◌+◌, ◌-◌, ◌*◌, ◌/◌, ◌≤◌, ◌<◌}
use Rattle.lists.proofs.Prelude.{◌∙◌, ap, sym, refl, subst, ap₂, false, List, [], map, append-nil, append_assoc, flatten, ℕ, zero, suc, min}
use Rattle.lists.proofs.Prelude.{ℤ, T, length, drop, set, length-append, length-map, sets, sets-eq, add-zero, add-mul, add-one}
use Rattle.lists.proofs.Prelude.{arith, tabulate}
use Rattle.lists.proofs.Parts.{map-append}
use Rattle.lists.proofs.Tables.{tabulate_ext, tabulate-cons}
use Rattle.pattern_set.specs.PatternSet.{PatternSet, good_set}
use Rattle.matching.specs.Matching.{hits_at, hits, hit_words}
use Rattle.matching.proofs.HitWords.{length-hit_words, hit_words-append}
use Rattle.filter_passes.specs.Passes.{is_marked, HitsMarked, hits_from, rest_hits}
use Rattle.filter_passes.proofs.Places.{hits_at-le, hits_at_count, none_hit}

-- ---- places

hits_from_next : (ps : PatternSet) (text : List ℤ) (a n : ℕ) → hits_from ps text a (suc n) ≡ hits_at ps text a ++ hits_from ps text (suc a) n
unfolding hits_from flatten
hits_from_next ps text a n =
    ap flatten (tabulate-cons n (λ i. hits_at ps text (a + i)))
    ∙ ap₂ (λ (x y : List (ℕ × ℕ)). x ++ y) (ap (hits_at ps text) (add-zero a))
    (ap flatten
    (tabulate_ext n (λ i. hits_at ps text (a + suc i)) (λ i. hits_at ps text (suc a + i))
    (λ i h. ap (hits_at ps text) (let e : a + suc i ≡ suc a + i = omega arith in e))))

hits_from_none : (ps : PatternSet) (text : List ℤ) (a : ℕ) → hits_from ps text a 0 ≡ []
unfolding hits_from flatten tabulate
hits_from_none ps text a = refl

hits_from_split : (ps : PatternSet) (text : List ℤ) (a m n : ℕ) → hits_from ps text a (m + n) ≡ hits_from ps text a m ++ hits_from ps text (a + m) n
hits_from_split ps text a zero n =
    let e : 0 + n ≡ n = omega arith in
    rw (e, add-zero a, hits_from_none ps text a) refl
hits_from_split ps text a (suc m) n =
    let e : suc m + n ≡ suc (m + n) = omega arith in
    let f : suc a + m ≡ a + suc m = omega arith in
    ap (hits_from ps text a) e
    ∙ hits_from_next ps text a (m + n)
    ∙ ap (λ (l : List (ℕ × ℕ)). hits_at ps text a ++ l)
    (hits_from_split ps text (suc a) m n ∙ ap (λ (k : ℕ). hits_from ps text (suc a) m ++ hits_from ps text k n) f)
    ∙ sym (append_assoc (hits_at ps text a) (hits_from ps text (suc a) m) (hits_from ps text (a + suc m) n))
    ∙ ap (λ (l : List (ℕ × ℕ)). l ++ hits_from ps text (a + suc m) n) (sym (hits_from_next ps text a m))

pub hits_from-le : (ps : PatternSet) (text : List ℤ) (a n : ℕ) → T (good_set ps) → length (hits_from ps text a n) ≤ 64 * n
hits_from-le ps text a zero g = rw (hits_from_none ps text a) (omega arith)
hits_from-le ps text a (suc n) g =
    rw (hits_from_next ps text a n, length-append (hits_at ps text a) (hits_from ps text (suc a) n))
    (omega (arith, hits_at-le ps text a g, hits_from-le ps text (suc a) n g))

-- the hits from place p up to end: those of place p, then the others
pub hits_step : (ps : PatternSet) (text : List ℤ) (p end : ℕ) → p < end
    → hits_from ps text p (end - p) ≡ hits_at ps text p ++ hits_from ps text (p + 1) (end - (p + 1))
hits_step ps text p end h =
    let e : end - p ≡ suc (end - (p + 1)) = omega arith in
    ap (hits_from ps text p) e
    ∙ hits_from_next ps text p (end - (p + 1))
    ∙ ap (λ (k : ℕ). hits_at ps text p ++ hits_from ps text k (end - (p + 1))) (sym (add-one p))

-- no place is left
pub hits_end : (ps : PatternSet) (text : List ℤ) (p end : ℕ) → end ≤ p → hits_from ps text p (end - p) ≡ []
hits_end ps text p end h = let e : end - p ≡ 0 = omega arith in ap (hits_from ps text p) e ∙ hits_from_none ps text p

pub hits_all : (ps : PatternSet) (text : List ℤ) → rest_hits ps text 0 ≡ hits ps text
unfolding hits_from hits
hits_all ps text =
    let e : length text - 0 ≡ length text = omega arith in
    ap (λ (n : ℕ). flatten (tabulate n (λ i. hits_at ps text (0 + i)))) e
    ∙ ap flatten (tabulate_ext (length text) (λ i. hits_at ps text (0 + i)) (hits_at ps text)
    (λ i h. ap (hits_at ps text) (let z : 0 + i ≡ i = omega arith in z)))

-- no more hits than patterns at every place
hits_from_count : (ps : PatternSet) (text : List ℤ) (a n : ℕ) → T (good_set ps) → length (hits_from ps text a n) ≤ n * length ps
hits_from_count ps text a zero g = rw (hits_from_none ps text a) (omega arith)
hits_from_count ps text a (suc n) g =
    let k = length ps in
    let m : (n + 1) * k ≡ n * k + 1 * k = add-mul n 1 k in
    let e : suc n * k ≡ n * k + 1 * k = ap (λ (z : ℕ). z * k) (sym (add-one n)) ∙ m in
    rw (hits_from_next ps text a n, length-append (hits_at ps text a) (hits_from ps text (suc a) n), e)
    (omega (arith, hits_at_count ps text a g, hits_from_count ps text (suc a) n g))

pub hits_count : (ps : PatternSet) (text : List ℤ) (n : ℕ) → T (good_set ps) → n ≡ length text → length (hits ps text) ≤ n * length ps
hits_count ps text n g e =
    let z : length text - 0 ≡ n = omega arith in
    subst (λ (m : ℕ). m ≤ n * length ps) (ap (λ (v : ℕ). length (hits_from ps text 0 v)) (sym z) ∙ ap length (hits_all ps text)) (hits_from_count ps text 0 n g)

-- ---- blocks

-- the hits from a block's first place on: those of the block, then the others
block_step : (ps : PatternSet) (text : List ℤ) (a : ℕ) → a < length text
    → rest_hits ps text a ≡ hits_from ps text a (min (length text) (a + 64) - a) ++ rest_hits ps text (a + 64)
block_step ps text a h =
    let n = length text in
    let m = min n (a + 64) - a in
    let e : n - a ≡ m + (n - (a + 64)) = omega arith in
    ap (hits_from ps text a) e ∙ hits_from_split ps text a m (n - (a + 64)) ∙ ap (λ (l : List (ℕ × ℕ)). hits_from ps text a m ++ l) (same (n - (a + 64)) refl)
  where
    same : (k : ℕ) → length text - (a + 64) ≡ k → hits_from ps text (a + (min (length text) (a + 64) - a)) k ≡ hits_from ps text (a + 64) k
    same zero q = hits_from_none ps text (a + (min (length text) (a + 64) - a)) ∙ sym (hits_from_none ps text (a + 64))
    same (suc k) q = let e : a + (min (length text) (a + 64) - a) ≡ a + 64 = omega arith in ap (λ (i : ℕ). hits_from ps text i (suc k)) e

pub block_step_to : (ps : PatternSet) (text : List ℤ) (a e : ℕ) → a < length text → e ≡ min (length text) (a + 64)
    → rest_hits ps text a ≡ hits_from ps text a (e - a) ++ rest_hits ps text (a + 64)
block_step_to ps text a e h q = block_step ps text a h ∙ ap (λ (k : ℕ). hits_from ps text a (k - a) ++ rest_hits ps text (a + 64)) (sym q)

pub length_block_step : (ps : PatternSet) (text : List ℤ) (a e : ℕ) → a < length text → e ≡ min (length text) (a + 64)
    → length (rest_hits ps text a) ≡ length (hits_from ps text a (e - a)) + length (rest_hits ps text (a + 64))
length_block_step ps text a e h q = ap length (block_step_to ps text a e h q) ∙ length-append (hits_from ps text a (e - a)) (rest_hits ps text (a + 64))

-- a block that is not marked has no hit
block_none : (ps : PatternSet) (text : List ℤ) (marks : List ℕ) (a block n : ℕ) → T (good_set ps) → HitsMarked ps text marks (length text)
    → is_marked marks block ≡ false → a ≡ block * 64 → n ≤ 64 → a + n ≤ length text → hits_from ps text a n ≡ []
block_none ps text marks a block n g l u e h k = go n h k
  where
    go : (n : ℕ) → n ≤ 64 → a + n ≤ length text → hits_from ps text a n ≡ []
    go zero h k = hits_from_none ps text a
    go (suc n) h k =
        let p = a + n in
        let q : p / 64 ≡ block = omega arith in
        let s : suc n ≡ n + 1 = omega arith in
        let o : hits_from ps text p 1 ≡ hits_at ps text p =
        hits_from_next ps text p 0 ∙ ap (λ (v : List (ℕ × ℕ)). hits_at ps text p ++ v) (hits_from_none ps text (suc p)) ∙ append-nil (hits_at ps text p) in
        ap (hits_from ps text a) s
        ∙ hits_from_split ps text a n 1
        ∙ ap₂ (λ (x y : List (ℕ × ℕ)). x ++ y) (go n (omega arith) (omega arith))
        (o ∙ none_hit ps text p g (λ r m t. subst T (ap (is_marked marks) q ∙ u) (l p (omega arith) r m t)))

-- so the hits from it on are those from the next one on
pub block_pass : (ps : PatternSet) (text : List ℤ) (marks : List ℕ) (a block : ℕ) → T (good_set ps) → HitsMarked ps text marks (length text)
    → is_marked marks block ≡ false → a ≡ block * 64 → a < length text → rest_hits ps text a ≡ rest_hits ps text (a + 64)
block_pass ps text marks a block g l u e h =
    block_step ps text a h
    ∙ ap (λ (v : List (ℕ × ℕ)). v ++ rest_hits ps text (a + 64))
    (block_none ps text marks a block (min (length text) (a + 64) - a) g l u e (omega arith) (omega arith))

-- a place without hits
pub rest_none : (ps : PatternSet) (text : List ℤ) (p : ℕ) → p < length text → hits_at ps text p ≡ [] → rest_hits ps text p ≡ rest_hits ps text (p + 1)
rest_none ps text p lt e = hits_step ps text p (length text) lt ∙ ap (λ (v : List (ℕ × ℕ)). v ++ rest_hits ps text (p + 1)) e

-- ---- words and rises

sets-append : {A : Type 0} (a b l : List A) (i : ℕ) → sets l i (a ++ b) ≡ sets (sets l i a) (i + length a) b
sets-append [] b l i = ap (λ (k : ℕ). sets l k b) (sym (add-zero i))
sets-append (x ∷ a) b l i =
    let e : suc i + length a ≡ i + length (x ∷ a) = omega arith in
    sets-append a b (set l i x) (suc i) ∙ ap (λ (k : ℕ). sets (sets (set l i x) (suc i) a) k b) e

module _ (xs ys zs : List (ℕ × ℕ)) (to next : ℕ) (split : zs ≡ xs ++ ys) (n : next ≡ to + length xs) where
  -- a part's words are written, the rest is to come
  pub words_step : (out after : List ℕ) → after ≡ sets out (2 * to) (hit_words xs) → sets after (2 * next) (hit_words ys) ≡ sets out (2 * to) (hit_words zs)
  words_step out after a =
      let l = length-hit_words xs in
      let k : 2 * next ≡ 2 * to + length (hit_words xs) = omega arith in
      rw (a, k)
      (sym (ap (λ (v : List (ℕ × ℕ)). sets out (2 * to) (hit_words v)) split
      ∙ ap (sets out (2 * to)) (hit_words-append xs ys)
      ∙ sets-append (hit_words xs) (hit_words ys) out (2 * to)))

  -- and so are the rises over its hits
  pub rises_step : (f : ℕ × ℕ → ℤ) (out after : List ℤ) → after ≡ sets out to (map f xs) → sets after next (map f ys) ≡ sets out to (map f zs)
  rises_step f out after a =
      let k : next ≡ to + length (map f xs) = rw (length-map xs f) n in
      rw (a, k)
      (sym (ap (λ (v : List (ℕ × ℕ)). sets out to (map f v)) split
      ∙ ap (sets out to) (map-append f xs ys)
      ∙ sets-append (map f xs) (map f ys) out to))

-- nothing is to come
pub words_end : (zs : List (ℕ × ℕ)) (out : List ℕ) (to : ℕ) → zs ≡ [] → sets out to (hit_words zs) ≡ out
unfolding hit_words
words_end zs out to e = rw e refl

pub rises_end : (f : ℕ × ℕ → ℤ) (zs : List (ℕ × ℕ)) (out : List ℤ) (to : ℕ) → zs ≡ [] → sets out to (map f zs) ≡ out
rises_end f zs out to e = rw e refl

-- from the front of an array
sets_front : {A : Type 0} (vs l : List A) → length vs ≤ length l → sets l 0 vs ≡ vs ++ drop (length vs) l
sets_front vs l h =
    let z : 0 + length vs ≡ length vs = omega arith in
    sets-eq vs l 0 (omega arith) ∙ ap (λ (k : ℕ). vs ++ drop k l) z

pub front_words : (zs : List (ℕ × ℕ)) (out : List ℕ) → 2 * length zs ≤ length out → sets out 0 (hit_words zs) ≡ hit_words zs ++ drop (length (hit_words zs)) out
front_words zs out h = sets_front (hit_words zs) out (omega (arith, length-hit_words zs))

pub front_rises : (f : ℕ × ℕ → ℤ) (zs : List (ℕ × ℕ)) (out : List ℤ) → length zs ≤ length out → sets out 0 (map f zs) ≡ map f zs ++ drop (length (map f zs)) out
front_rises f zs out h = sets_front (map f zs) out (rw (length-map zs f) h)
