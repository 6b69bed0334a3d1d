-- Adding in place: the words of a set, moved up by one word from the first distance on, with the
-- new offset, the new counts and the new distances, are the words of the set with one pattern more;
-- what lies behind them is as it was.
use Rattle.std.specs.Prelude.{◌≡◌, ◌∷◌, ◌++◌, ◌+◌, ◌-◌, ◌≤◌}
use Rattle.lists.proofs.Prelude.{◌∙◌, ap, sym, refl, ap₂, List, [], append_assoc, flatten, ℕ, length, get_or, take, drop, set}
use Rattle.lists.proofs.Prelude.{length-append, take-suc, append_snoc, take_at, set_at, drop_at, drop-append-add, take-append-add, arith}
use Rattle.lists.proofs.Parts.{paste}
use Rattle.lists.proofs.Rows.{flatten_snoc}
use Rattle.std.specs.List.{copy_within}
use Rattle.pattern_set.specs.PatternSet.{IsSet, PatternSet, offsets, patterns_of, set_words}
use Rattle.pattern_set.proofs.Words.{length-offsets, length-set_words}
use Rattle.set_access.proofs.Laws.{words_and_rest}
use Rattle.set_arrays.specs.Moved.{with_room, with_set}

offsets_snoc : (o : ℕ) (ps : PatternSet) (p : List ℕ) → offsets o (ps ++ (p ∷ [])) ≡ offsets o ps ++ ((o + length (flatten ps) + length p) ∷ [])
unfolding offsets flatten
offsets_snoc o [] p = let e : o + length p ≡ o + 0 + length p = omega arith in ap (λ (a : ℕ). o ∷ a ∷ []) e
offsets_snoc o (q ∷ ps) p =
    let e : o + length q + length (flatten ps) + length p ≡ o + length (q ++ flatten ps) + length p = simp length-append (omega arith) in
    ap (λ (l : List ℕ). o ∷ l) (offsets_snoc (o + length q) ps p ∙ ap (λ (a : ℕ). offsets (o + length q) ps ++ (a ∷ [])) e)

module _ (ws rest ds : List ℕ) (ps : PatternSet) (is : ws ≡ set_words ps ++ rest) (h : 1 ≤ length rest) where
  abbrev k : ℕ
  k = length ps

  abbrev n : ℕ
  n = length (flatten ps)

  abbrev v : ℕ
  v = n + length ds

  abbrev front : List ℕ
  front = k ∷ n ∷ offsets 0 ps

  length-front : length front ≡ 3 + k
  length-front = let e = length-offsets 0 ps in omega arith

  words_front : ws ≡ front ++ (flatten ps ++ rest)
  unfolding set_words
  words_front = is ∙ append_assoc front (flatten ps) rest

  -- the distances moved up by one word
  moved : copy_within ws (3 + k) (3 + k + n) (3 + k + 1) ≡ front ++ (get_or (flatten ps ++ rest) 0 0 ∷ (flatten ps ++ drop 1 rest))
  moved =
      let f : List ℕ = flatten ps ++ rest in
      let x = get_or f 0 0 in
      let c : 3 + k + n - (3 + k) ≡ n = omega arith in
      let a1 : 3 + k + 1 ≡ length front + 1 = omega (arith, length-front) in
      let a2 : 3 + k + 1 + n ≡ length front + (n + 1) = omega (arith, length-front) in
      let t1 : take 1 f ≡ x ∷ [] = take-suc f 0 0 (simp length-append (omega arith)) in
      let b1 : take (3 + k + 1) (front ++ f) ≡ front ++ (x ∷ []) = rw a1 (take-append-add front f 1) ∙ ap (λ (l : List ℕ). front ++ l) t1 in
      let b2 : take n (drop (3 + k) (front ++ f)) ≡ flatten ps = ap (take n) (drop_at front f (3 + k) length-front) ∙ take_at (flatten ps) rest n refl in
      let b3 : drop (3 + k + 1 + n) (front ++ f) ≡ drop 1 rest = rw a2 (drop-append-add front f (n + 1)) ∙ drop-append-add (flatten ps) rest 1 in
      ap (λ (l : List ℕ). copy_within l (3 + k) (3 + k + n) (3 + k + 1)) words_front
      ∙ ap (λ (i : ℕ). take (3 + k + 1) (front ++ f) ++ take i (drop (3 + k) (front ++ f)) ++ drop (3 + k + 1 + i) (front ++ f)) c
      ∙ ap₂ (λ (l r : List ℕ). l ++ r) (ap₂ (λ (l r : List ℕ). l ++ r) b1 b2) b3
      ∙ append_assoc (front ++ (x ∷ [])) (flatten ps) (drop 1 rest)
      ∙ append_snoc front x (flatten ps ++ drop 1 rest)

  -- the words up to the new distances
  abbrev pub up_to : List ℕ
  up_to = (k + 1) ∷ v ∷ ((offsets 0 ps ++ (v ∷ [])) ++ flatten ps)

  pub length-up_to : length up_to ≡ 4 + k + n
  length-up_to =
      let e : length ((offsets 0 ps ++ (v ∷ [])) ++ flatten ps) ≡ length (offsets 0 ps) + 1 + n = simp length-append in
      let o = length-offsets 0 ps in
      omega arith

  pub room : with_room k n (length ds) ws ≡ up_to ++ drop (4 + k + n) ws
  room =
      let x = get_or (flatten ps ++ rest) 0 0 in
      let r : List ℕ = flatten ps ++ drop 1 rest in
      let e : 4 + k + n ≡ length (set_words ps) + 1 = omega (arith, length-set_words ps) in
      ap (λ (l : List ℕ). set (set l 0 (k + 1)) 1 v) (ap (λ (l : List ℕ). set l (3 + k) v) moved ∙ set_at front x r v (3 + k) length-front)
      ∙ ap (λ (l : List ℕ). (k + 1) ∷ v ∷ l) (sym (append_snoc (offsets 0 ps) v r) ∙ sym (append_assoc (offsets 0 ps ++ (v ∷ [])) (flatten ps) (drop 1 rest)))
      ∙ ap (λ (l : List ℕ). up_to ++ l) (sym (ap (drop (4 + k + n)) is ∙ rw e (drop-append-add (set_words ps) rest 1)))

  words_up_to : set_words (ps ++ (ds ∷ [])) ≡ up_to ++ ds
  unfolding set_words
  words_up_to =
      let a : length (ps ++ (ds ∷ [])) ≡ k + 1 = length-append ps (ds ∷ []) in
      let b : length (flatten (ps ++ (ds ∷ []))) ≡ v = ap length (flatten_snoc ps ds) ∙ length-append (flatten ps) ds in
      let z : 0 + n + length ds ≡ v = omega arith in
      let o : offsets 0 (ps ++ (ds ∷ [])) ≡ offsets 0 ps ++ (v ∷ []) = offsets_snoc 0 ps ds ∙ ap (λ (a : ℕ). offsets 0 ps ++ (a ∷ [])) z in
      ap₂ (λ (x y : ℕ). x ∷ y ∷ (offsets 0 (ps ++ (ds ∷ [])) ++ flatten (ps ++ (ds ∷ [])))) a b
      ∙ ap₂ (λ (l r : List ℕ). (k + 1) ∷ v ∷ (l ++ r)) o (flatten_snoc ps ds)
      ∙ ap (λ (l : List ℕ). (k + 1) ∷ v ∷ l) (sym (append_assoc (offsets 0 ps ++ (v ∷ [])) (flatten ps) ds))

  -- with the new distances behind them they are the words of the larger set
  pub with_distances : (up_to ++ ds) ++ drop (4 + k + n + length ds) ws ≡ with_set (ps ++ (ds ∷ [])) ws
  with_distances =
      let q : 4 + k + n + length ds ≡ length (up_to ++ ds) = omega (arith, length-append up_to ds, length-up_to) in
      ap (λ (i : ℕ). (up_to ++ ds) ++ drop i ws) q ∙ ap (λ (l : List ℕ). l ++ drop (length l) ws) (sym words_up_to)

-- the part behind the words up to there was lent, and y is what came back of it
pub append_words : (ws ds w y : List ℕ) (count total m at rest : ℕ) → IsSet ws → count ≡ length (patterns_of ws) → total ≡ length (flatten (patterns_of ws))
    → m ≡ length ds → 4 + count + total + m ≤ length ws → w ≡ with_room count total m ws → at ≡ 4 + count + total → rest ≡ length w - at
    → y ≡ ds ++ drop m (take rest (drop at w)) → take at w ++ (y ++ drop rest (drop at w)) ≡ with_set (patterns_of ws ++ (ds ∷ [])) ws
append_words ws ds w y count total m at rest good ek en em h e a r q =
    let ps = patterns_of ws in
    let b = words_and_rest ws good in
    let one : 1 ≤ length b.0 = omega (arith, ap length b.1, length-append (set_words ps) b.0, length-set_words ps) in
    let up : List ℕ = up_to ws b.0 ds ps b.1 one in
    let len = length-up_to ws b.0 ds ps b.1 one in
    let is : w ≡ up ++ drop (4 + length ps + length (flatten ps)) ws = e ∙ rw (ek, en, em) (room ws b.0 ds ps b.1 one) in
    let at_is : 4 + length ps + length (flatten ps) ≡ at = omega (arith, a, ek, en) in
    paste up ds ws w y at m rest (len ∙ at_is) (sym em) (is ∙ ap (λ (i : ℕ). up ++ drop i ws) at_is) r q
    ∙ ap₂ (λ (i l : ℕ). (up ++ ds) ++ drop (i + l) ws) (sym at_is) em
    ∙ with_distances ws b.0 ds ps b.1 one
