-- One call of the program leaves the next piece: its refusal, or the lines of its hits.
use Rattle.lists.proofs.Prelude.{◌∙◌, ap, sym, refl, subst, ap₂, Bool, true, false, not, List, [], ℕ, zero, suc, min}
use Rattle.std.specs.Prelude.{Ok, Err, ◌≡◌, ◌||◌, ◌∷◌, ◌++◌, ◌+◌, ◌-◌, ◌*◌, ◌%◌, ◌^◌, ◌≤◌, ◌<◌}
use Rattle.lists.proofs.Prelude.{ℤ, pos, eqb, ltb, le-ltb, length, length-append, length-replicate, length-take, length-drop, take, take_all, drop}
use Rattle.lists.proofs.Prelude.{drop_of_length-le}
use Rattle.lists.proofs.Prelude.{replicate, dec_lt, arith, inl, inr}
use Rattle.answers.specs.declared.{SearchState.{SearchState}, Refusal.{Refusal}}
use Rattle.answers.specs.Told.{number}
use Rattle.answers.proofs.Refusals.{number_positive}
use Rattle.pattern_set.specs.PatternSet.{patterns_of}
use Rattle.search_model.specs.Search.{Position, position_of, good_state, Called, step, call, state_after}
use Rattle.search_model.proofs.Feed.{EndedOrFull, feed_rule}
use Rattle.entries.specs.Entries.{first_met, unless, search_conditions, is_short, stream_conditions}
use Rattle.hits_output.specs.Output.{hit_lines, closing_line, refused_line}
use Rattle.hits_calls.specs.declared.calls.{Step.{Step}, Batch.{Batch}}
use Rattle.hits_calls.specs.Called.{hit_front, summed, summary, told_batch, bytes_of, IsCalled}
use Rattle.hits_printed.specs.Pieces as pieces
use Rattle.hits_printed.specs.Pieces.{next_piece}
use Rattle.hits_pieces.specs.declared.search.Progress.{Progress}
use Rattle.hits_pieces.specs.declared.search.Piece.{Piece}
use Rattle.hits_pieces.specs.Said.{progress_of, IsNext}

-- the values from a place on, or none where it is behind the end
pub from_place : (t : ℕ) (xs : List ℤ) → take (length xs - min t (length xs)) (drop (min t (length xs)) xs) ≡ drop t xs
from_place t xs =
    let m = min t (length xs) in
    take_all (length xs - m) (drop m xs) (omega (arith, length-drop m xs)) ∙ go (dec_lt t (length xs))
  where
    go : Dec (t < length xs) → drop (min t (length xs)) xs ≡ drop t xs
    go (yes h) = ap (λ (k : ℕ). drop k xs) (let e : min t (length xs) ≡ t = omega arith in e)
    go (no h) =
        ap (λ (k : ℕ). drop k xs) (let e : min t (length xs) ≡ length xs = omega arith in e)
        ∙ drop_of_length-le xs {i = length xs} (omega arith)
        ∙ sym (drop_of_length-le xs {i = t} (omega arith))

-- a refusal does not depend on what the arrays hold, nor on how long the second is where it is long
-- enough
same_refusal : (ws automaton : List ℕ) (st : SearchState) (xs : List ℤ) (a b : List ℕ) (c d : List ℤ) → length a ≡ length b → is_short a c ≡ false
    → is_short b d ≡ false → first_met (stream_conditions ws automaton st xs a c) ≡ first_met (stream_conditions ws automaton st xs b d)
unfolding stream_conditions
same_refusal ws automaton st xs a b c d e f g =
    let ps = patterns_of ws in
    ap₂ (λ (n : ℕ) (short : Bool). first_met (search_conditions ws automaton ++ ((8, not (good_state ps st)) ∷ (9, ltb 1048576 (st.taken + length xs))
    ∷ (10, ltb n (2 * length ps) || short) ∷ []))) e (f ∙ sym g)

-- the values have ended
pub piece_closing : (ws automaton : List ℕ) (text : List ℤ) (p : Progress) (hits out : List ℕ) {last : List ℕ} (n : ℕ) → p.ended ≡ true
    → n ≡ length (closing_line p.attempts) → last ≡ closing_line p.attempts ++ drop (length (closing_line p.attempts)) out
    → IsNext (next_piece ws automaton text (length (hit_front hits out)) (progress_of p)) out last (record { bytes = n; more = false; progress = p })
unfolding next_piece
piece_closing ws automaton text p hits out {last} n e l w = rw e (record { bytes = l; text = w; more = refl; progress = refl })

module _ (ws automaton : List ℕ) (text : List ℤ) (p : Progress) (hits : List ℕ) (rises : List ℤ) (out : List ℕ) (going : p.ended ≡ false)
    (long : length hits ≤ 2 * length rises) where
  abbrev xs : List ℤ
  xs = drop p.state.taken text

  abbrev array : List ℕ
  array = hit_front hits out

  abbrev C : Called Position
  C = call (patterns_of ws) (position_of p.state) (length array) xs

  abbrev refusal : ℕ
  refusal = first_met (stream_conditions ws automaton p.state xs array rises)

  abbrev Q : pieces.Piece
  Q = next_piece ws automaton text (length array) (progress_of p)

  abbrev gone_on : pieces.Progress
  gone_on = record { state = state_after p.state xs C; attempts = (p.attempts + C.attempts) % 2 ^ 64; ended = eqb C.ended 1 }

  next_is : Q ≡ unless refusal (record { text = hit_lines (patterns_of ws) C.hits; more = true; progress = gone_on })
      (record { text = refused_line refusal; more = false; progress = progress_of p })
  unfolding next_piece
  next_is = rw (going, sym same) refl
    where
      same : refusal ≡ first_met (stream_conditions ws automaton p.state xs (replicate (length array) 0) (replicate (length array) (pos 0)))
      same =
          let l = length-replicate {A = ℕ} (length array) 0 in
          let m = length-replicate (length array) (pos 0) in
          same_refusal ws automaton p.state xs array (replicate (length array) 0) rises (replicate (length array) (pos 0)) (sym l)
          (le-ltb (2 * length rises) (length array) (let w : length array ≤ 2 * length rises = simp length-take (omega arith) in w))
          (le-ltb (2 * length (replicate (length array) (pos 0))) (length (replicate {A = ℕ} (length array) 0)) (omega (arith, l, m)))

  -- what the call tells of its refusal
  told_refusal : {hits_after out_after : List ℕ} {left : List ℤ} {s : Step} → IsCalled ws automaton p.state xs hits rises out hits_after left out_after s
      → (told_batch s.answer).0 ≡ refusal
  told_refusal c = ap (λ (t : ℕ × (Bool × ℕ × ℕ)). t.0) c.answer

  -- the call was refused
  pub piece_refused : {hits_after out_after last : List ℕ} {left : List ℤ} {s : Step} (n k : ℕ) (e : Refusal)
      → IsCalled ws automaton p.state xs hits rises out hits_after left out_after s → s.answer ≡ Err e → k ≡ number e
      → n ≡ length (refused_line k) → last ≡ refused_line k ++ drop (length (refused_line k)) out_after
      → IsNext Q out last (record { bytes = n; more = false; progress = p })
  piece_refused {hits_after} {out_after} {last} {left} {s} n k e c z q m w = go k refl (omega (arith, q, number_positive e))
    where
      go : (j : ℕ) → k ≡ j → 0 < j → IsNext Q out last (record { bytes = n; more = false; progress = p })
      go zero d h = absurd (let y : ⊥ = omega arith in y)
      go (suc j) d h =
          let f : refusal ≡ suc j = sym (told_refusal c) ∙ ap (λ a. (told_batch a).0) z ∙ sym q ∙ d in
          let kept : out_after ≡ out = c.text ∙ ap (λ (r : ℕ). lines r ++ drop (length (lines r)) out) f in
          let at : Q ≡ record { text = refused_line (suc j); more = false; progress = progress_of p } =
          next_is ∙ ap (λ (r : ℕ). unless r (record { text = hit_lines (patterns_of ws) C.hits; more = true; progress = gone_on })
          (record { text = refused_line r; more = false; progress = progress_of p })) f in
          subst (λ (x : pieces.Piece). IsNext x out last (record { bytes = n; more = false; progress = p })) (sym at)
          (record {
            bytes = m ∙ ap (λ (r : ℕ). length (refused_line r)) d;
            text = w ∙ ap (λ (r : ℕ). refused_line r ++ drop (length (refused_line r)) out_after) d
                ∙ ap (λ (o : List ℕ). refused_line (suc j) ++ drop (length (refused_line (suc j))) o) kept;
            more = refl;
            progress = refl;
          })
        where
          lines : ℕ → List ℕ
          lines r = unless r (hit_lines (patterns_of ws) C.hits) []

  -- more is told where the values have not ended
  not-ended : not (eqb C.ended 0) ≡ eqb C.ended 1
  not-ended = go (feed_rule (step (patterns_of ws)) (2 * length (patterns_of ws)) (position_of p.state) (length array) xs)
    where
      go : EndedOrFull (step (patterns_of ws)) (2 * length (patterns_of ws)) (length array) xs C → not (eqb C.ended 0) ≡ eqb C.ended 1
      go (inl (a, b)) = rw a refl
      go (inr (a, b, f)) = rw a refl

  -- it was accepted
  pub piece_called : {hits_after out_after : List ℕ} {left : List ℤ} {s : Step} (a : ℕ) (b : Batch)
      → IsCalled ws automaton p.state xs hits rises out hits_after left out_after s → s.answer ≡ Ok b → a ≡ (p.attempts + b.attempts) % 2 ^ 64
      → IsNext Q out out_after (record { bytes = b.bytes; more = true; progress = record { state = s.state; attempts = a; ended = not b.more } })
  piece_called {hits_after} {out_after} {left} {s} a b c z m =
      let f : refusal ≡ 0 = sym (told_refusal c) ∙ ap (λ a. (told_batch a).0) z in
      let t : summed 0 b.more b.hits b.attempts ≡ summed 0 (eqb C.ended 0) (length C.hits) C.attempts =
      sym (ap told_batch z) ∙ c.answer ∙ ap (λ (r : ℕ). summary (r, unless r (C.ended, C.taken, length C.hits, C.attempts) (0, 0, 0, 0))) f in
      let q : Q ≡ record { text = hit_lines (patterns_of ws) C.hits; more = true; progress = gone_on } =
      next_is ∙ ap (λ (r : ℕ). unless r (record { text = hit_lines (patterns_of ws) C.hits; more = true; progress = gone_on })
      (record { text = refused_line r; more = false; progress = progress_of p })) f in
      let st : s.state ≡ state_after p.state xs C = c.state ∙ ap (λ (r : ℕ). unless r (state_after p.state xs C) p.state) f in
      let at : a ≡ (p.attempts + C.attempts) % 2 ^ 64 = m ∙ ap (λ (u : ℕ × (Bool × ℕ × ℕ)). (p.attempts + u.1.2) % 2 ^ 64) t in
      let en : not b.more ≡ eqb C.ended 1 = ap (λ (u : ℕ × (Bool × ℕ × ℕ)). not u.1.0) t ∙ not-ended in
      subst (λ (x : pieces.Piece). IsNext x out out_after
      (record { bytes = b.bytes; more = true; progress = record { state = s.state; attempts = a; ended = not b.more } })) (sym q)
      (record {
        bytes = sym (ap bytes_of z) ∙ c.bytes ∙ ap (λ (r : ℕ). length (lines r)) f;
        text = c.text ∙ ap (λ (r : ℕ). lines r ++ drop (length (lines r)) out) f;
        more = refl;
        progress = λ i. record { state = st i; attempts = at i; ended = en i };
      })
    where
      lines : ℕ → List ℕ
      lines r = unless r (hit_lines (patterns_of ws) C.hits) []

-- the piece lies in the buffer
pub next_within : {q : pieces.Piece} {out out_after : List ℕ} {r : Piece} → IsNext q out out_after r → r.bytes ≤ length out_after
next_within {q} {out} {out_after} {r} n =
    omega (arith, n.bytes, ap length n.text ∙ length-append q.text (drop (length q.text) out))

-- a hit array and a buffer for the hits of one value, at most 64, are what the theorem asks for
pub room_enough : (hits out : List ℕ) → 128 ≤ length hits → 4032 ≤ length out → 128 ≤ length (hit_front hits out)
room_enough hits out h o = simp length-take (omega arith)
