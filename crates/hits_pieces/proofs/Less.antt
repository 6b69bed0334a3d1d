-- Every piece behind which more follows brings the search nearer to its end.
use Rattle.std.specs.Prelude.{◌≡◌, ◌+◌, ◌-◌, ◌*◌, ◌%◌, ◌^◌, ◌≤◌, ◌<◌}
use Rattle.lists.proofs.Prelude.{refl, subst, Bool, true, false, cond, List, ℕ, zero, suc, ℤ, pos, eqb, length}
use Rattle.lists.proofs.Prelude.{length-replicate, length-drop, drop, replicate, arith, inl, inr}
use Rattle.lists.proofs.Tests.{clash}
use Rattle.pattern_set.specs.PatternSet.{patterns_of}
use Rattle.search_model.specs.Search.{Position, position_of, Called, step, call, state_after}
use Rattle.search_model.proofs.Feed.{EndedOrFull, feed_takes, feed_rule, call-taken}
use Rattle.entries.specs.Entries.{first_met, unless, stream_conditions}
use Rattle.entries.proofs.Stream.{accepted_room}
use Rattle.hits_output.specs.Output.{hit_lines, closing_line, refused_line}
use Rattle.hits_printed.specs.Pieces.{Progress, Piece, next_piece}
use Rattle.hits_pieces.specs.Said.{left}

module _ (ws automaton : List ℕ) (text : List ℤ) (room : ℕ) (p : Progress) where
  abbrev xs : List ℤ
  xs = drop p.state.taken text

  abbrev C : Called Position
  C = call (patterns_of ws) (position_of p.state) room xs

  abbrev refusal : ℕ
  refusal = first_met (stream_conditions ws automaton p.state xs (replicate room 0) (replicate room (pos 0)))

  -- the search after an accepted call
  called_less : refusal ≡ 0 → p.ended ≡ false
      → cond (eqb C.ended 1) 0 (suc (length text - C.state.taken)) < cond p.ended 0 (suc (length text - p.state.taken))
  called_less r e =
      rw e (go (feed_rule (step (patterns_of ws)) (2 * length (patterns_of ws)) (position_of p.state) room xs))
    where
      go : EndedOrFull (step (patterns_of ws)) (2 * length (patterns_of ws)) room xs C
          → cond (eqb C.ended 1) 0 (suc (length text - C.state.taken)) < suc (length text - p.state.taken)
      go (inl (a, b)) = rw a (omega arith)
      go (inr (a, b, f)) =
          let l = length-drop p.state.taken text in
          let enough : 2 * length (patterns_of ws) ≤ room =
          subst (λ (n : ℕ). 2 * length (patterns_of ws) ≤ n) (length-replicate {A = ℕ} room 0)
          (accepted_room ws automaton p.state xs (replicate room 0) (replicate room (pos 0)) r) in
          let one = feed_takes (step (patterns_of ws)) (2 * length (patterns_of ws)) (position_of p.state) room xs enough (omega arith) in
          rw a (omega (arith, call-taken (patterns_of ws) xs (position_of p.state) room, one, b, l))

  pub next_less : (next_piece ws automaton text room p).more ≡ true → left (length text) (next_piece ws automaton text room p).progress < left (length text) p
  unfolding next_piece
  next_less m = ended_or p.ended refl m
    where
      after : Progress
      after = record { state = state_after p.state xs C; attempts = (p.attempts + C.attempts) % 2 ^ 64; ended = eqb C.ended 1 }

      by_refusal : (n : ℕ) → refusal ≡ n → p.ended ≡ false
          → (unless {A = Piece} n (record { text = hit_lines (patterns_of ws) C.hits; more = true; progress = after })
          (record { text = refused_line n; more = false; progress = p })).more ≡ true
          → left (length text) (unless {A = Piece} n (record { text = hit_lines (patterns_of ws) C.hits; more = true; progress = after })
          (record { text = refused_line n; more = false; progress = p })).progress < left (length text) p
      by_refusal zero r e m = called_less r e
      by_refusal (suc n) r e m = clash m refl

      ended_or : (b : Bool) → p.ended ≡ b
          → (cond {A = Piece} b (record { text = closing_line p.attempts; more = false; progress = p })
          (unless refusal (record { text = hit_lines (patterns_of ws) C.hits; more = true; progress = after })
          (record { text = refused_line refusal; more = false; progress = p }))).more ≡ true
          → left (length text) (cond {A = Piece} b (record { text = closing_line p.attempts; more = false; progress = p })
          (unless refusal (record { text = hit_lines (patterns_of ws) C.hits; more = true; progress = after })
          (record { text = refused_line refusal; more = false; progress = p }))).progress < left (length text) p
      ended_or true e m = clash m refl
      ended_or false e m = by_refusal refusal refl e m
