-- The pieces of a search are the lines of the text's hits and the attempts: each call takes what
-- the reference takes (`call_takes`), at least one value, and its hits are those that the text has
-- more.
use Rattle.std.specs.Prelude.{◌≡◌, ◌++◌, ◌+◌, ◌*◌, ◌%◌, ◌^◌, ◌≤◌, ◌<◌}
use Rattle.lists.proofs.Prelude.{◌∙◌, ap, sym, refl, subst, Bool, true, false, cond, List, [], append-nil, append_assoc, flatten, map, ℕ, zero, suc}
use Rattle.lists.proofs.Prelude.{ℤ, pos, eqb, length, length-append, length-replicate, drop, drop_at, take, replicate, arith}
use Rattle.lists.proofs.Prelude.{le-ltb, ne_eqb}
use Rattle.lists.proofs.Prelude.{length-drop, drop_of_length-le, eqb_refl, eqb-true, eqb-false, le_refl, tabulate}
use Rattle.lists.proofs.Parts.{map-append}
use Rattle.lists.proofs.Rows.{flatten-append}
use Rattle.lists.proofs.Tests.{true-T}
use Rattle.answers.specs.declared.SearchState.{SearchState}
use Rattle.pattern_set.specs.PatternSet.{PatternSet}
use Rattle.matching.specs.Matching.{hits}
use Rattle.search_model.specs.Search.{Position, position_of, good_state, Called, step, call, state_after}
use Rattle.search_model.proofs.Feed.{feed_takes}
use Rattle.entries.specs.Entries.{first_met, stream_conditions}
use Rattle.runs.specs.ReferenceRun.{attempts_on, taking}
use Rattle.runs.proofs.State.{Stands, Stands-new, Stands-good, Stands-after}
use Rattle.runs.proofs.Call.{Agrees, call_takes}
use Rattle.runs.proofs.Taken.{taking_front, attempts_on-append, attempts_on_bound}
use Rattle.hits_output.specs.Output.{hit_line, hit_lines, closing_line}
use Rattle.hits_printed.specs.Pieces.{Progress, Piece, start, next_piece, Prints, last, before}
use Rattle.hits_printed.proofs.Refusals.{Searchable}

lines_append : (ps : PatternSet) (hs gs : List (ℕ × ℕ)) → hit_lines ps (hs ++ gs) ≡ hit_lines ps hs ++ hit_lines ps gs
unfolding hit_lines
lines_append ps hs gs = ap flatten (map-append (hit_line ps) hs gs) ∙ flatten-append (map (hit_line ps) hs) (map (hit_line ps) gs)

module _ (set automaton : List ℕ) (text : List ℤ) (room : ℕ) (ps : PatternSet) (s : Searchable set automaton ps) (short : length text ≤ 1048576)
    (enough : 2 * length ps ≤ room) where
  -- the next piece, where the values have ended, and where one call more is accepted
  next_closes : (p : Progress) → p.ended ≡ true → next_piece set automaton text room p ≡ record { text = closing_line p.attempts; more = false; progress = p }
  unfolding next_piece
  next_closes p e = rw e refl

  abbrev gone_on : Progress → List ℤ → Called Position → Progress
  gone_on p xs c = record { state = state_after p.state xs c; attempts = (p.attempts + c.attempts) % 2 ^ 64; ended = eqb c.ended 1 }

  next_calls : (p : Progress) (xs : List ℤ) → p.ended ≡ false → drop p.state.taken text ≡ xs
      → first_met (stream_conditions set automaton p.state xs (replicate room 0) (replicate room (pos 0))) ≡ 0
      → let c = call ps (position_of p.state) room xs in
      next_piece set automaton text room p ≡ record { text = hit_lines ps c.hits; more = true; progress = gone_on p xs c }
  unfolding next_piece
  next_calls p xs e d f = rw (e, d, f, s.patterns) refl

  -- a call from the state of a search over the front R is accepted
  call_accepted : (R rest : List ℤ) (st : SearchState) → text ≡ R ++ rest → Stands ps R st
      → first_met (stream_conditions set automaton st rest (replicate room 0) (replicate room (pos 0))) ≡ 0
  unfolding stream_conditions
  call_accepted R rest st t r =
      let l : length R + length rest ≤ 1048576 = omega (arith, ap length t ∙ length-append R rest, short) in
      rw (
        s.is_set,
        s.patterns,
        ne_eqb (length ps) 0 (λ q. let w : ⊥ = omega (arith, s.some) in w),
        s.many,
        s.words,
        true-T (good_state ps st) (Stands-good ps s.good s.some R st r (omega arith)),
        r.position.count,
        le-ltb 1048576 (length R + length rest) l,
        length-replicate {A = ℕ} room 0,
        length-replicate room (pos 0),
        le-ltb room (2 * length ps) enough,
        le-ltb (2 * room) room (let w : room ≤ 2 * room = omega arith in w),
      ) refl

  -- what is printed behind the header
  abbrev whole : List ℕ
  whole = hit_lines ps (hits ps text) ++ closing_line (attempts_on ps [] text)

  -- the pieces from p on, behind the lines of the hits of R
  abbrev Rest : Progress → List ℤ → Type 0
  Rest p R = (tail : List ℕ) × Prints set automaton text room (next_piece set automaton text room p) tail × (hit_lines ps (hits ps R) ++ tail ≡ whole)

  -- the search has taken R, of which rest is left
  record Reached (p : Progress) (R rest : List ℤ) : Type 0 where
    all : text ≡ R ++ rest
    state : Stands ps R p.state
    attempts : p.attempts ≡ attempts_on ps [] R

  -- the values have ended
  closes : (p : Progress) (R : List ℤ) → Reached p R [] → p.ended ≡ true → Rest p R
  closes p R r e =
      let t : R ≡ text = sym (r.all ∙ append-nil R) in (
        closing_line p.attempts,
        subst (λ (q : Piece). Prints set automaton text room q (closing_line p.attempts)) (sym (next_closes p e)) (last refl refl),
        ap (λ (l : List ℤ). hit_lines ps (hits ps l) ++ closing_line p.attempts) t
            ∙ ap (λ (n : ℕ). hit_lines ps (hits ps text) ++ closing_line n) (r.attempts ∙ ap (attempts_on ps []) t),
      )

  -- one call more
  module _ (p : Progress) (R rest : List ℤ) (r : Reached p R rest) (e : p.ended ≡ false) where
    abbrev C : Called Position
    C = call ps (position_of p.state) room rest

    abbrev vs : List ℤ
    vs = taking ps R room rest

    abbrev then : Progress
    then = gone_on p rest C

    A : Agrees ps R rest C vs
    A = call_takes ps s.good s.some rest R (position_of p.state) room r.state.position

    left : drop p.state.taken text ≡ rest
    left = ap (drop p.state.taken) r.all ∙ drop_at R rest p.state.taken (sym r.state.position.count)

    gone : Reached then (R ++ vs) (drop (length vs) rest)
    gone =
        let t : text ≡ (R ++ vs) ++ drop (length vs) rest =
        r.all ∙ ap (λ (l : List ℤ). R ++ l) (sym (taking_front ps rest R room)) ∙ sym (append_assoc R vs (drop (length vs) rest)) in
        let a : p.attempts + C.attempts ≡ attempts_on ps [] (R ++ vs) =
        (omega (arith, r.attempts, A.attempts)) ∙ sym (attempts_on-append ps R vs []) in
        let l : length (R ++ vs) ≤ 1048576 = omega (arith, ap length t ∙ length-append (R ++ vs) (drop (length vs) rest), short) in
        let b = attempts_on_bound ps s.good s.some (R ++ vs) in
        let st = Stands-after ps s.good s.some R rest vs p.state C r.state A.state
        (A.front ∙ ap (λ (n : ℕ). take n rest) (sym A.taken)) in
        record { all = t; state = st; attempts = (omega (arith, a, b, l)) }

    called : Rest then (R ++ vs) → Rest p R
    called (tail, printed, e') = (
      hit_lines ps C.hits ++ tail,
      subst (λ (q : Piece). Prints set automaton text room q (hit_lines ps C.hits ++ tail))
          (sym (next_calls p rest e left (call_accepted R rest p.state r.all r.state))) (before refl refl printed),
      sym (append_assoc (hit_lines ps (hits ps R)) (hit_lines ps C.hits) tail)
          ∙ ap (λ (l : List ℕ). l ++ tail) (sym (lines_append ps (hits ps R) C.hits) ∙ ap (hit_lines ps) (sym A.more))
          ∙ e',
    )

    -- all values were taken
    ended-true : length vs ≡ length rest → then.ended ≡ true
    ended-true q =
        let same = true-T (eqb (length rest) (length rest)) (eqb_refl (length rest)) in
        ap (λ (n : ℕ). eqb n 1) (A.ended ∙ ap (λ (b : Bool). cond {A = ℕ} b 1 0) (ap (λ (n : ℕ). eqb n (length rest)) q ∙ same))

    ended-false : (length vs ≡ length rest → ⊥) → then.ended ≡ false
    ended-false q = ap (λ (n : ℕ). eqb n 1) (A.ended ∙ ap (λ (b : Bool). cond {A = ℕ} b 1 0) (ne_eqb (length vs) (length rest) q))

    -- a call that is handed a value takes one
    takes : 0 < length rest → 0 < length vs
    takes h = omega (arith, feed_takes (step ps) (2 * length ps) (position_of p.state) room rest enough h, A.taken)

    -- the last call
    ends : length vs ≡ length rest → Rest p R
    ends q =
        let none_left : drop (length vs) rest ≡ [] = drop_of_length-le rest {i = length vs} (omega arith) in
        called (closes then (R ++ vs) (subst (Reached then (R ++ vs)) none_left gone) (ended-true q))

  search_prints : (n : ℕ) (p : Progress) (R rest : List ℤ) → length rest ≤ n → Reached p R rest → p.ended ≡ false → Rest p R
  search_prints zero p R rest l r e = ends p R rest r e (omega (arith, (A p R rest r e).within))
  search_prints (suc n) p R rest l r e = go (eqb (length (vs p R rest r e)) (length rest)) refl (search_prints n)
    where
      go : (b : Bool) → eqb (length (vs p R rest r e)) (length rest) ≡ b
          → ((p : Progress) (R rest : List ℤ) → length rest ≤ n → Reached p R rest → p.ended ≡ false → Rest p R) → Rest p R
      go true q ih = ends p R rest r e (eqb-true (length (vs p R rest r e)) (length rest) q)
      go false q ih =
          let v = vs p R rest r e in
          let other = eqb-false (length v) (length rest) q in
          let less : length v < length rest = omega (arith, (A p R rest r e).within, other) in
          let one = takes p R rest r e (omega arith) in
          called p R rest r e (ih (then p R rest r e) (R ++ v) (drop (length v) rest)
          (omega (arith, length-drop (length v) rest, less, one)) (gone p R rest r e)
          (ended-false p R rest r e other))

-- THE SEARCH: from the state of a new search the pieces are the lines of all hits and the attempts
pub whole_search : (set automaton : List ℕ) (text : List ℤ) (room : ℕ) (ps : PatternSet) → Searchable set automaton ps → length text ≤ 1048576
    → 2 * length ps ≤ room
    → Prints set automaton text room (next_piece set automaton text room start) (hit_lines ps (hits ps text) ++ closing_line (attempts_on ps [] text))
unfolding attempts_on hits hit_lines tabulate flatten
whole_search set automaton text room ps s short enough =
    let r = search_prints set automaton text room ps s short enough (length text) start [] text (le_refl (length text))
    (record { all = refl; state = Stands-new ps s.good s.some; attempts = refl }) refl in
    subst (λ (l : List ℕ). Prints set automaton text room (next_piece set automaton text room start) l) r.2 r.1
