-- Withdrawing in place: the array is written from the front on, and what is written is always the
-- front of the words of the smaller set, so that the rest can still be read as it was.
use Rattle.std.specs.Prelude.{◌≡◌, ◌∷◌, ◌++◌, ◌+◌, ◌-◌}
use Rattle.lists.proofs.Prelude.{◌∙◌, ap, sym, refl, ap₂, List, [], map, append_assoc, flatten, ℕ, suc, length, take, drop, set}
use Rattle.lists.proofs.Prelude.{length-append, append_snoc, take_at, drop-drop, drop_at, drop-append-add, drop-append_seam, arith}
use Rattle.lists.proofs.Rows.{flatten-append}
use Rattle.pattern_set.specs.PatternSet.{PatternSet, offsets, set_words}
use Rattle.pattern_set.proofs.Words.{length-offsets}
use Rattle.pattern_set.proofs.Offsets.{starts, offsets_first, length-starts, offsets_lowered}
use Rattle.withdraw_pattern.specs.Replaced.{replaced}
use Rattle.withdraw_pattern.proofs.Replacing.{Over, drop-Over, replaced_behind}

-- ---- the front that is written, step by step, where the patterns b and a are left

abbrev pub counted : PatternSet → PatternSet → List ℕ
counted b a = (length b + length a) ∷ length (flatten b ++ flatten a) ∷ starts 0 b

abbrev pub lowered : PatternSet → PatternSet → List ℕ
lowered b a = counted b a ++ offsets (length (flatten b)) a

abbrev pub joined : PatternSet → PatternSet → List ℕ
joined b a = lowered b a ++ flatten b

module _ (b a : PatternSet) where
  pub length-counted : length (counted b a) ≡ 2 + length b
  length-counted = omega (arith, length-starts 0 b)

  pub length-lowered : length (lowered b a) ≡ 3 + length b + length a
  length-lowered = length-append (counted b a) (offsets (length (flatten b)) a) ∙ (omega (arith, length-counted, length-offsets (length (flatten b)) a))

  pub length-joined : length (joined b a) ≡ 3 + length b + length a + length (flatten b)
  length-joined = length-append (lowered b a) (flatten b) ∙ (omega (arith, length-lowered))

  -- all of it
  words_joined : set_words (b ++ a) ≡ joined b a ++ flatten a
  unfolding set_words
  words_joined =
      let e : length (b ++ a) ≡ length b + length a = length-append b a in
      let os : offsets 0 (b ++ a) ≡ starts 0 b ++ offsets (length (flatten b)) a = offsets_first b a in
      ap₂ (λ (n : ℕ) (l : List ℕ). n ∷ length l ∷ (offsets 0 (b ++ a) ++ l)) e (flatten-append b a)
      ∙ ap (λ (l : List ℕ). (length b + length a) ∷ length (flatten b ++ flatten a) ∷ (l ++ (flatten b ++ flatten a))) os
      ∙ sym (append_assoc (lowered b a) (flatten b) (flatten a))

-- ---- the set of the patterns b, p and a, in the array old, of which p is withdrawn

module _ (b a : PatternSet) (p old rest : List ℕ) (is : old ≡ set_words (b ++ (p ∷ a)) ++ rest) where
  abbrev o : ℕ
  o = length (flatten b)

  abbrev m : ℕ
  m = length p

  -- what lies behind the offsets of the patterns b and of p
  behind_first : drop (3 + length b) old ≡ offsets (o + m) a ++ (flatten b ++ (p ++ (flatten a ++ rest)))
  unfolding set_words offsets flatten
  behind_first =
      let ps : PatternSet = b ++ (p ∷ a) in
      let front : List ℕ = length ps ∷ length (flatten ps) ∷ (starts 0 b ++ (o ∷ [])) in
      let l : length front ≡ 3 + length b = simp length-append (omega (arith, length-starts 0 b)) in
      let os : offsets 0 ps ≡ starts 0 b ++ (o ∷ offsets (o + m) a) = offsets_first b (p ∷ a) in
      let fs : flatten ps ≡ flatten b ++ (p ++ flatten a) = flatten-append b (p ∷ a) in
      let e : set_words ps ++ rest ≡ front ++ (offsets (o + m) a ++ (flatten b ++ (p ++ (flatten a ++ rest)))) =
      ap (λ (l : List ℕ). length ps ∷ length (flatten ps) ∷ l)
      (ap₂ (λ (l r : List ℕ). l ++ r ++ rest) os fs
      ∙ append_assoc (starts 0 b ++ (o ∷ offsets (o + m) a)) (flatten b ++ (p ++ flatten a)) rest
      ∙ append_assoc (starts 0 b) (o ∷ offsets (o + m) a) (flatten b ++ (p ++ flatten a) ++ rest)
      ∙ sym (append_snoc (starts 0 b) o (offsets (o + m) a ++ (flatten b ++ (p ++ flatten a) ++ rest)))
      ∙ ap (λ (l : List ℕ). starts 0 b ++ (o ∷ []) ++ (offsets (o + m) a ++ l))
      (append_assoc (flatten b) (p ++ flatten a) rest ∙ ap (λ (l : List ℕ). flatten b ++ l) (append_assoc p (flatten a) rest))) in
      ap (drop (3 + length b)) (is ∙ e) ∙ drop_at front (offsets (o + m) a ++ (flatten b ++ (p ++ (flatten a ++ rest)))) (3 + length b) l

  -- behind all offsets, and behind p
  behind_offsets : drop (4 + length b + length a) old ≡ flatten b ++ (p ++ (flatten a ++ rest))
  behind_offsets =
      let e : 4 + length b + length a ≡ 3 + length b + suc (length a) = omega arith in
      ap (λ (n : ℕ). drop n old) e
      ∙ sym (drop-drop (suc (length a)) (3 + length b) old)
      ∙ ap (drop (suc (length a))) behind_first
      ∙ drop_at (offsets (o + m) a) (flatten b ++ (p ++ (flatten a ++ rest))) (suc (length a)) (length-offsets (o + m) a)

  behind_pattern : drop (4 + length b + length a + (o + m)) old ≡ flatten a ++ rest
  behind_pattern =
      sym (drop-drop (o + m) (4 + length b + length a) old)
      ∙ ap (drop (o + m)) behind_offsets
      ∙ drop-append-add (flatten b) (p ++ (flatten a ++ rest)) m
      ∙ drop_at p (flatten a ++ rest) m refl

  -- the counts are stored
  pub count_less : (k n : ℕ) → k ≡ length b + length a → n ≡ length (flatten b ++ flatten a) → Over (counted b a) old (set (set old 0 k) 1 n)
  unfolding set_words
  count_less k n e q =
      let ps : PatternSet = b ++ (p ∷ a) in
      let y : List ℕ = offsets o (p ∷ a) ++ (flatten ps ++ rest) in
      let s : offsets 0 ps ++ flatten ps ++ rest ≡ starts 0 b ++ y =
      append_assoc (offsets 0 ps) (flatten ps) rest
      ∙ ap (λ (l : List ℕ). l ++ (flatten ps ++ rest)) (offsets_first b (p ∷ a))
      ∙ append_assoc (starts 0 b) (offsets o (p ∷ a)) (flatten ps ++ rest) in
      ap (λ (l : List ℕ). set (set l 0 k) 1 n) is
      ∙ ap₂ (λ (i j : ℕ). i ∷ j ∷ (offsets 0 ps ++ flatten ps ++ rest)) e q
      ∙ ap (λ (l : List ℕ). (length b + length a) ∷ length (flatten b ++ flatten a) ∷ l) s
      ∙ sym (ap (λ (l : List ℕ). counted b a ++ l) (ap (drop (length (starts 0 b))) s ∙ drop-append_seam (starts 0 b) y))
      ∙ sym (ap (λ (l : List ℕ). counted b a ++ drop (length (counted b a)) l) is)

  -- the offsets behind are lowered and moved down
  pub lower : (ws : List ℕ) (at n d : ℕ) → at ≡ 2 + length b → n ≡ suc (length a) → d ≡ m → Over (counted b a) old ws
      → Over (lowered b a) old (replaced at (map (λ w. w - d) (take n (drop (at + 1) ws))) ws)
  lower ws at n d e q r w =
      let g : at + 1 ≡ 3 + length b = omega arith in
      let t : take n (drop (at + 1) ws) ≡ offsets (o + m) a =
      ap (take n) (drop-Over (counted b a) old ws (at + 1) w (omega (arith, length-counted b a)) ∙ ap (λ (i : ℕ). drop i old) g ∙ behind_first)
      ∙ take_at (offsets (o + m) a) (flatten b ++ (p ++ (flatten a ++ rest))) n (length-offsets (o + m) a ∙ sym q) in
      let x : map (λ w. w - d) (take n (drop (at + 1) ws)) ≡ offsets o a =
      ap₂ (λ (i : ℕ) (l : List ℕ). map (λ w. w - i) l) r t ∙ offsets_lowered o m a in
      ap (λ (l : List ℕ). replaced at l ws) x ∙ replaced_behind (counted b a) (offsets o a) old ws at (omega (arith, length-counted b a)) w

  -- the distances before p are moved down by one word
  pub join : (ws : List ℕ) (at n : ℕ) → at ≡ 3 + length b + length a → n ≡ o → Over (lowered b a) old ws
      → Over (joined b a) old (replaced at (take n (drop (at + 1) ws)) ws)
  join ws at n e q w =
      let g : at + 1 ≡ 4 + length b + length a = omega arith in
      let t : take n (drop (at + 1) ws) ≡ flatten b =
      ap (take n) (drop-Over (lowered b a) old ws (at + 1) w (omega (arith, length-lowered b a)) ∙ ap (λ (i : ℕ). drop i old) g ∙ behind_offsets)
      ∙ take_at (flatten b) (p ++ (flatten a ++ rest)) n (sym q) in
      ap (λ (l : List ℕ). replaced at l ws) t ∙ replaced_behind (lowered b a) (flatten b) old ws at (omega (arith, length-lowered b a)) w

  -- those behind p by the words of p more
  pub close : (ws : List ℕ) (at by n : ℕ) → at ≡ 3 + length b + length a + o → by ≡ 1 + m → n ≡ length (flatten a) → Over (joined b a) old ws
      → Over (set_words (b ++ a)) old (replaced at (take n (drop (at + by) ws)) ws)
  close ws at by n e d q w =
      let g : at + by ≡ 4 + length b + length a + (o + m) = omega arith in
      let t : take n (drop (at + by) ws) ≡ flatten a =
      ap (take n) (drop-Over (joined b a) old ws (at + by) w (omega (arith, length-joined b a)) ∙ ap (λ (i : ℕ). drop i old) g ∙ behind_pattern)
      ∙ take_at (flatten a) rest n (sym q) in
      ap (λ (l : List ℕ). replaced at l ws) t
      ∙ replaced_behind (joined b a) (flatten a) old ws at (omega (arith, length-joined b a)) w
      ∙ ap (λ (l : List ℕ). l ++ drop (length l) old) (sym (words_joined b a))
