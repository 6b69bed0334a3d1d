-- A LIST THAT IS WRITTEN PART BY PART, and the rises over its hits with it: what has been written,
-- with the words and the rises of the hits that are still to come behind it, is the whole list.
use Rattle.std.specs.Prelude.{◌≡◌, ◌∷◌, ◌++◌, ◌+◌, ◌-◌, ◌*◌, ◌≤◌, ◌<◌}
use borrow.Rule.Slice.PartMut.{put_mid}
use Rattle.std.proofs.lemmas.List.Edits.{sets-eq}
use Rattle.lists.proofs.Prelude.{◌∙◌, ap, ap₂, sym, refl, List, [], map, ℕ, suc, ℤ, T, length, take, drop, set, length-append, length-map, length-take}
use Rattle.lists.proofs.Prelude.{length-drop, drop-drop, drop_of_length-le, take_all, append-nil, append_assoc}
use Rattle.lists.proofs.Prelude.{sets, length-sets, add-one, arith}
use Rattle.bit_sets.specs.BitSets.{bits}
use Rattle.pattern_set.specs.PatternSet.{PatternSet, good_set}
use Rattle.matching.specs.Matching.{hits_at, hit_words}
use Rattle.filter_plan.specs.Plan.{is_hit}
use Rattle.filter_tables.specs.Tables.{Ranks}
use Rattle.filter_windows.specs.Looks.{SetOf}
use Rattle.filter_passes.specs.Passes.{hits_from}
use Rattle.filter_passes.proofs.Places.{hits_by_rank, length-rank_hits}
use Rattle.matching.proofs.HitWords.{length-hit_words}
use Rattle.filter_passes.proofs.Lists.{hits_step, words_step, words_end, rises_step, rises_end}

-- `all` is written to the front of `old`, and the rises f over its hits to that of `old_rises`; so
-- far this has given `out` and `rises` with `to` hits, and `rest` is to come
pub record Written (f : ℕ × ℕ → ℤ) (old out : List ℕ) (old_rises rises : List ℤ) (to : ℕ) (all rest : List (ℕ × ℕ)) : Type 0 where
  -- the arrays have kept their lengths
  pub size : length out ≡ length old
  pub rises_size : length rises ≡ length old_rises
  -- each hit is written or to come
  pub next : to + length rest ≡ length all
  -- there is room for all
  pub room : (2 * length all ≤ length old) × (length all ≤ length old_rises)
  -- with the words that are to come it is the array with the whole list
  pub words : sets out (2 * to) (hit_words rest) ≡ sets old 0 (hit_words all)
  -- and with the rises that are to come the one with all rises
  pub risen : sets rises to (map f rest) ≡ sets old_rises 0 (map f all)

pub Written-start : (f : ℕ × ℕ → ℤ) (old : List ℕ) (old_rises : List ℤ) (all : List (ℕ × ℕ)) → 2 * length all ≤ length old
    → length all ≤ length old_rises → Written f old old old_rises old_rises 0 all all
Written-start f old old_rises all h k = record { size = refl; rises_size = refl; next = omega arith; room = (h, k); words = refl; risen = refl }

-- what is written to the front of the part behind `at` is written there
pub put_sets : {A : Type 0} (at k : ℕ) (l part vs : List A) → k ≡ length l - at → at + length vs ≤ length l → part ≡ sets (take k (drop at l)) 0 vs
    → put_mid at k l part ≡ sets l at vs
put_sets {A = A} at k l part vs e h p =
    let whole : take k (drop at l) ≡ drop at l = take_all k (drop at l) (omega (arith, length-drop at l, e)) in
    let z : 0 + length vs ≡ length vs = omega arith in
    let front : part ≡ vs ++ drop (at + length vs) l =
    p
    ∙ ap (λ (x : List A). sets x 0 vs) whole
    ∙ sets-eq vs (drop at l) 0 (omega (arith, length-drop at l, h))
    ∙ ap (λ (n : ℕ). vs ++ drop n (drop at l)) z
    ∙ ap (λ (x : List A). vs ++ x) (drop-drop (length vs) at l) in
    let behind : drop k (drop at l) ≡ [] = drop-drop k at l ∙ drop_of_length-le l (omega (arith, e, h)) in
    ap₂ (λ (x y : List A). take at l ++ (x ++ y)) front behind
    ∙ ap (λ (x : List A). take at l ++ x) (append-nil (vs ++ drop (at + length vs) l))
    ∙ sym (append_assoc (take at l) vs (drop (at + length vs) l))
    ∙ sym (sets-eq vs l at h)

module _ (f : ℕ × ℕ → ℤ) (old out : List ℕ) (old_rises rises : List ℤ) (to : ℕ) (all rest : List (ℕ × ℕ))
    (before : Written f old out old_rises rises to all rest) where
  -- nothing is to come
  pub written_end : rest ≡ [] → (to ≡ length all) × (out ≡ sets old 0 (hit_words all)) × (rises ≡ sets old_rises 0 (map f all))
  written_end e = (
    omega (arith, before.next, ap length e),
    sym (words_end rest out (2 * to) e) ∙ before.words,
    sym (rises_end f rest rises to e) ∙ before.risen,
  )

  -- nothing was to be written
  pub Written-none : (rest' : List (ℕ × ℕ)) → rest ≡ rest' → Written f old out old_rises rises to all rest'
  Written-none rest' e = record {
    size = before.size;
    rises_size = before.rises_size;
    next = omega (arith, before.next, ap length e);
    room = before.room;
    words = rw (← e) before.words;
    risen = rw (← e) before.risen;
  }

  module _ (part rest' : List (ℕ × ℕ)) (split : rest ≡ part ++ rest') where
    lengths : length rest ≡ length part + length rest'
    lengths = ap length split ∙ length-append part rest'

    -- there is room for the next part behind what is written
    pub written_room : (2 * (to + length part) ≤ length out) × (to + length part ≤ length rises)
    written_room = (
      omega (arith, before.room.0, lengths, before.next, before.size),
      omega (arith, before.room.1, lengths, before.next, before.rises_size),
    )

    pub part_room : (2 * length part ≤ length (take (length out - 2 * to) (drop (2 * to) out))) ×
        (length part ≤ length (take (length rises - to) (drop to rises)))
    part_room =
        let w = written_room in
        let a : 2 * length part ≤ length (take (length out - 2 * to) (drop (2 * to) out)) = rw (length-take, length-drop) (omega (arith, w.0)) in
        let b : length part ≤ length (take (length rises - to) (drop to rises)) = rw (length-take, length-drop) (omega (arith, w.1)) in
        (a, b)

    -- a part is written
    pub Written-part : (out' : List ℕ) (rises' : List ℤ) (to' : ℕ) → out' ≡ sets out (2 * to) (hit_words part) → rises' ≡ sets rises to (map f part)
        → to' ≡ to + length part → Written f old out' old_rises rises' to' all rest'
    Written-part out' rises' to' o r t = record {
      size = ap length o ∙ length-sets out (2 * to) (hit_words part) ∙ before.size;
      rises_size = ap length r ∙ length-sets rises to (map f part) ∙ before.rises_size;
      next = omega (arith, t, lengths, before.next);
      room = before.room;
      words = words_step part rest' rest to to' split t out out' o ∙ before.words;
      risen = rises_step part rest' rest to to' split t f rises rises' r ∙ before.risen;
    }

    -- it is written to the fronts of the parts behind what is written
    pub Written-behind : (words : List ℕ) (risen : List ℤ) (n : ℕ) → words ≡ sets (take (length out - 2 * to) (drop (2 * to) out)) 0 (hit_words part)
        → risen ≡ sets (take (length rises - to) (drop to rises)) 0 (map f part) → n ≡ length part
        → Written f old (put_mid (2 * to) (length out - 2 * to) out words) old_rises (put_mid to (length rises - to) rises risen) (to + n) all rest'
    Written-behind words risen n w r e =
        Written-part _ _ (to + n) (put_sets (2 * to) _ out words (hit_words part) refl (omega (arith, written_room.0, length-hit_words part)) w)
        (put_sets to _ rises risen (map f part) refl (omega (arith, written_room.1, length-map part f)) r) (ap (λ (k : ℕ). to + k) e)

  -- one hit is written, as two words, and the rise v over it
  module _ (h : ℕ × ℕ) (rest' : List (ℕ × ℕ)) (split : rest ≡ h ∷ rest') where
    pub one_more : (2 * to + 1 < length out) × (to < length rises)
    one_more = let r = written_room (h ∷ []) rest' split in (omega (arith, r.0), omega (arith, r.1))

    pub Written-hit : (v : ℤ) → v ≡ f h → Written f old (set (set out (2 * to) h.0) (2 * to + 1) h.1) old_rises (set rises to v) (to + 1) all rest'
    unfolding hit_words
    Written-hit v q =
        Written-part (h ∷ []) rest' split _ _ (to + 1) (ap (λ (k : ℕ). set (set out (2 * to) h.0) k h.1) (add-one (2 * to)))
        (ap (set rises to) q) refl

-- ---- the hits of one place

-- place p of those up to end
module _ (ps : PatternSet) (text : List ℤ) (p end : ℕ) (lt : p < end) where
  -- the hits from p on, and those behind p
  abbrev from : List (ℕ × ℕ)
  from = hits_from ps text p (end - p)

  abbrev behind : List (ℕ × ℕ)
  behind = hits_from ps text (p + 1) (end - (p + 1))

  -- as many as `found` has patterns that have a hit at p, and those behind p
  pub place_length : T (good_set ps) → (numbers : List ℕ) (found : ℕ) → Ranks ps numbers → SetOf ps (is_hit (take (suc p) text)) found
      → length from ≡ length (bits found) + length behind
  place_length good numbers found ranks hit =
      ap length (hits_step ps text p end lt)
      ∙ length-append (hits_at ps text p) behind
      ∙ ap (λ (n : ℕ). n + length behind)
      (ap length (sym (hits_by_rank ps text p numbers found good ranks hit)) ∙ length-rank_hits numbers p (bits found))
