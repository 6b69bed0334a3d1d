-- THE VALUES KEPT of a search over a text: what one value more does to them, what is kept for a
-- place, that they pass check 8, and that a call finds the values of the text by them. So the rises
-- over its hits are those in the text.
use Rattle.std.specs.Prelude.{◌≡◌, ◌||◌, ◌∷◌, ◌++◌, ◌+◌, ◌-◌, ◌%◌, ◌≤◌, ◌<◌}
use Rattle.lists.proofs.Prelude.{◌∙◌, ap, sym, refl, subst, ap₂, Bool, true, false, cond, List, [], map, append-nil, append_assoc}
use Rattle.lists.proofs.Prelude.{Memᴰ, Memᴰ-append_right, ℕ, suc, ℤ, pos, eq_z, T, eqb, ltb, length, get_or, take, set, replicate}
use Rattle.lists.proofs.Prelude.{length-append, length-set, length-take-le, get_or-append, get_or-append-add, get_or-append_seam, get_or-take, get_or-set_same}
use Rattle.lists.proofs.Prelude.{get_or-set_other, ext_get_or, get_or-replicate, length-replicate, dec_lt, arith, eq-eqb, lt-ltb, le-ltb, eqb-true, eqb-false}
use Rattle.lists.proofs.Prelude.{leb, leb→le, lt→ltb, tabulate, last_below, all}
use Rattle.lists.proofs.Tests.{T-true, true-T, and_split, and_join, or_left, or_right}
use Rattle.lists.proofs.Order.{eq_z_refl}
use Rattle.lists.proofs.Parts.{length_snoc}
use Rattle.lists.proofs.LastBelow.{last_below-le, last_below_is, last_below-zero}
use Rattle.lists.proofs.Members.{get_or-mem, below_all, map_ext}
use Rattle.lists.proofs.Tables.{length-tabulate, get_or-tabulate}
use Rattle.pattern_set.specs.PatternSet.{PatternSet, good_set}
use Rattle.pattern_set.proofs.Good.{good_pattern_lem}
use Rattle.matching.specs.Matching.{hits}
use Rattle.matching.specs.Rise.{rise, rise_in}
use Rattle.matching.proofs.Rise.{rise_same}
use Rattle.matching.proofs.HitsIff.{hits_iff}
use Rattle.search_model.specs.Ring.{Ring, place_at, value_at}
use Rattle.search_model.specs.Recent.{kept_for, keeping, good_recent, found_at}
use Rattle.runs.specs.ReferenceRun.{recent_of, is_open}
use Rattle.runs.proofs.Minima.{Minima, Minima-Selected, Minima-value}

-- what slot s holds
abbrev slot_of : List ℤ → ℕ → ℤ
slot_of text s = get_or (pos 0 ∷ text) (last_below (λ p. eqb (p % 256) s) (length text)) (pos 0)

pub length-recent_of : (text : List ℤ) → length (recent_of text) ≡ 256
unfolding recent_of
length-recent_of text = length-tabulate 256 _

recent_of_slot : (text : List ℤ) (s : ℕ) → s < 256 → get_or (recent_of text) s (pos 0) ≡ slot_of text s
unfolding recent_of
recent_of_slot text s h = get_or-tabulate 256 (slot_of text) (pos 0) s h

-- ---- one value more

slot_more : (text : List ℤ) (x : ℤ) (s : ℕ) → slot_of (text ++ (x ∷ [])) s ≡ cond (eqb (length text % 256) s) x (slot_of text s)
unfolding last_below
slot_more text x s =
    ap (λ (n : ℕ). get_or (pos 0 ∷ (text ++ (x ∷ []))) (last_below test n) (pos 0)) (length_snoc text x) ∙ go (test (length text))
  where
    test : ℕ → Bool
    test p = eqb (p % 256) s

    go : (b : Bool) → get_or (pos 0 ∷ (text ++ (x ∷ []))) (cond b (suc (length text)) (last_below test (length text))) (pos 0) ≡ cond b x (slot_of text s)
    go true = get_or-append_seam text x [] (pos 0)
    go false = get_or-append (pos 0 ∷ text) (x ∷ []) (pos 0) (last_below test (length text)) (omega (arith, last_below-le test (length text)))

recent_of_more : (text : List ℤ) (x : ℤ) → recent_of (text ++ (x ∷ [])) ≡ set (recent_of text) (length text % 256) x
recent_of_more text x =
    ext_get_or (pos 0) (recent_of (text ++ (x ∷ []))) (set (recent_of text) (length text % 256) x)
    (length-recent_of (text ++ (x ∷ [])) ∙ sym (length-set (recent_of text) (length text % 256) x ∙ length-recent_of text))
    (λ s h.
    let l : s < 256 = omega (arith, length-recent_of (text ++ (x ∷ []))) in
    recent_of_slot (text ++ (x ∷ [])) s l ∙ slot_more text x s ∙ go s l (eqb (length text % 256) s) refl)
  where
    go : (s : ℕ) → s < 256 → (b : Bool) → eqb (length text % 256) s ≡ b
        → cond b x (slot_of text s) ≡ get_or (set (recent_of text) (length text % 256) x) s (pos 0)
    go s l true e =
        sym (ap (λ (k : ℕ). get_or (set (recent_of text) (length text % 256) x) k (pos 0)) (sym (eqb-true (length text % 256) s e))
        ∙ get_or-set_same (recent_of text) (length text % 256) x (pos 0) (omega (arith, length-recent_of text)))
    go s l false e =
        sym (get_or-set_other (recent_of text) (length text % 256) s x (pos 0) (λ q. eqb-false (length text % 256) s e (sym q)) ∙ recent_of_slot text s l)

-- so values that are taken are kept
pub recent_of-keeping : (vs text : List ℤ) → keeping (length text) (recent_of text) vs ≡ recent_of (text ++ vs)
unfolding keeping
recent_of-keeping [] text = ap recent_of (sym (append-nil text))
recent_of-keeping (x ∷ vs) text =
    ap₂ (λ (n : ℕ) (recent : List ℤ). keeping n recent vs) (sym (length_snoc text x)) (sym (recent_of_more text x))
    ∙ recent_of-keeping vs (text ++ (x ∷ []))
    ∙ ap recent_of (append_assoc text (x ∷ []) vs)

-- ---- what is kept

-- the value of each of the last 256 places
pub recent_of_at : (text : List ℤ) (p : ℕ) → p < length text → length text ≤ p + 256 → kept_for (recent_of text) p ≡ get_or text p (pos 0)
recent_of_at text p h l =
    let test : ℕ → Bool = λ q. eqb (q % 256) (p % 256) in
    recent_of_slot text (p % 256) (omega arith)
    ∙ ap (λ (n : ℕ). get_or (pos 0 ∷ text) n (pos 0))
    (last_below_is test (length text) p h (T-true (test p) (eq-eqb (p % 256) (p % 256) refl))
    (λ j k m t. later j k m (eqb-true (j % 256) (p % 256) (true-T _ t))))
  where
    later : (j : ℕ) → p < j → j < length text → j % 256 ≡ p % 256 → ⊥
    later j k m e = omega arith

-- and 0 where none is kept yet
pub recent_of_unfilled : (text : List ℤ) (s : ℕ) → s < 256 → length text ≤ s → get_or (recent_of text) s (pos 0) ≡ pos 0
recent_of_unfilled text s h l =
    recent_of_slot text s h
    ∙ ap (λ (n : ℕ). get_or (pos 0 ∷ text) n (pos 0))
    (last_below-zero (λ q. eqb (q % 256) s) (length text) (λ j k t. before j k (eqb-true (j % 256) s (true-T _ t))))
  where
    before : (j : ℕ) → j < length text → j % 256 ≡ s → ⊥
    before j k e = omega arith

-- a new search keeps nothing yet
pub recent_of_new : replicate 256 (pos 0) ≡ recent_of []
recent_of_new =
    ext_get_or (pos 0) (replicate 256 (pos 0)) (recent_of []) (length-replicate 256 (pos 0) ∙ sym (length-recent_of []))
    (λ s h.
    let l : s < 256 = omega (arith, length-replicate 256 (pos 0)) in
    get_or-replicate 256 s (pos 0) (pos 0) l ∙ sym (recent_of_unfilled [] s l (omega arith)))

-- ---- the check

pub recent_good : (text : List ℤ) (r : Ring) → Minima text r → T (good_recent (length text) r (recent_of text))
unfolding good_recent
recent_good text r m =
    and_join (all zeros (tabulate 256 (λ i. i))) (all carried (tabulate r.minima (λ i. i)))
    (below_all zeros 256 (λ i h. unfilled i h (dec_lt i (length text))))
    (below_all carried r.minima carries)
  where
    zeros : ℕ → Bool
    zeros i = ltb i (length text) || eq_z (get_or (recent_of text) i (pos 0)) (pos 0)

    carried : ℕ → Bool
    carried i = eq_z (value_at r i) (kept_for (recent_of text) (place_at r i))

    unfilled : (i : ℕ) → i < 256 → Dec (i < length text) → T (zeros i)
    unfilled i h (yes l) = or_left (ltb i (length text)) (eq_z (get_or (recent_of text) i (pos 0)) (pos 0)) (lt→ltb i (length text) l)
    unfilled i h (no f) =
        or_right (ltb i (length text)) (eq_z (get_or (recent_of text) i (pos 0)) (pos 0))
        (rw (recent_of_unfilled text i h (omega arith)) (T-true _ (eq_z_refl (pos 0))))

    carries : (i : ℕ) → i < r.minima → T (carried i)
    carries i h =
        let s = Minima-Selected text r m in
        let p = place_at r i in
        let recent = leb→le (length text) (p + 256) (and_split (leb (length text) (p + 256)) (is_open text p) (s.passes i h)).0 in
        let e : value_at r i ≡ kept_for (recent_of text) p = Minima-value text r m i h ∙ sym (recent_of_at text p (s.below i h) recent) in
        subst (λ (v : ℤ). T (eq_z (value_at r i) v)) e (T-true _ (eq_z_refl (value_at r i)))

-- ---- the values that a call finds

-- after the text, a call that is handed xs and takes vs of them
module _ (text xs vs : List ℤ) (front : vs ≡ take (length vs) xs) where
  found_at_lem : (p : ℕ) → p < length (text ++ vs) → length text ≤ p + 256 → found_at (length text) (recent_of text) xs p ≡ get_or (text ++ vs) p (pos 0)
  found_at_lem p h l = go (dec_lt p (length text))
    where
      go : Dec (p < length text) → found_at (length text) (recent_of text) xs p ≡ get_or (text ++ vs) p (pos 0)
      go (yes k) = rw (lt-ltb p (length text) k) (recent_of_at text p k l ∙ sym (get_or-append text vs (pos 0) p k))
      go (no f) =
          let k : p - length text < length vs = omega (arith, length-append text vs) in
          let e : length text + (p - length text) ≡ p = omega arith in
          rw (le-ltb p (length text) (omega arith))
          (sym (ap (λ (n : ℕ). get_or (text ++ vs) n (pos 0)) (sym e)
          ∙ get_or-append-add text vs (p - length text) (pos 0)
          ∙ ap (λ (l : List ℤ). get_or l (p - length text) (pos 0)) front
          ∙ get_or-take (length vs) xs (p - length text) (pos 0) k))

  -- THE RISES over the hits that the text has more, which end behind it, are those in the text
  pub rises_found : (ps : PatternSet) → T (good_set ps) → (hs : List (ℕ × ℕ)) → hits ps (text ++ vs) ≡ hits ps text ++ hs
      → ((h : ℕ × ℕ) → Memᴰ h hs → length text ≤ h.0)
      → map (rise ps (found_at (length text) (recent_of text) xs)) hs ≡ map (rise_in ps (text ++ vs)) hs
  rises_found ps g hs more later =
      map_ext (rise ps (found_at (length text) (recent_of text) xs)) (rise_in ps (text ++ vs)) hs
      (λ h m.
      let k = (hits_iff ps (text ++ vs) h.0 h.1).0 (subst (λ (l : List (ℕ × ℕ)). Memᴰ h l) (sym more) (Memᴰ-append_right (hits ps text) m)) in
      let p = get_or ps h.1 [] in
      let small = (good_pattern_lem ps p g (get_or-mem ps h.1 [] k.1)).1 in
      let l = later h m in
      let full = length-take-le (suc h.0) (text ++ vs) k.0 in
      rise_same ps (found_at (length text) (recent_of text) xs) (λ q. get_or (text ++ vs) q (pos 0)) h
      (found_at_lem h.0 k.0 (omega arith))
      (found_at_lem (suc h.0 - length p) (omega (arith, k.0, k.2.0)) (omega (arith, small, k.2.1))))

-- the rises over the hits of a text stay where values go to its end
pub rises_before : (ps : PatternSet) (text vs : List ℤ) → map (rise_in ps (text ++ vs)) (hits ps text) ≡ map (rise_in ps text) (hits ps text)
rises_before ps text vs =
    map_ext (rise_in ps (text ++ vs)) (rise_in ps text) (hits ps text)
    (λ h m.
    let k = (hits_iff ps text h.0 h.1).0 m in
    rise_same ps (λ q. get_or (text ++ vs) q (pos 0)) (λ q. get_or text q (pos 0)) h (get_or-append text vs (pos 0) h.0 k.0)
    (get_or-append text vs (pos 0) (suc h.0 - length (get_or ps h.1 [])) (omega (arith, k.0, k.2.0))))
