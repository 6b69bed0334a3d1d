-- THE THEOREM OF THE PIECES: `bad input` and a refusal are all; else the header is followed by the
-- pieces of the search.
use Rattle.std.specs.Prelude.{◌≡◌, ◌≤◌}
use Rattle.lists.proofs.Prelude.{refl, Option, None, Some, List, [], map, ℕ, zero, suc, length, arith, ne_eqb}
use Rattle.cartesian.specs.Cartesian.{distances}
use Rattle.pattern_set.proofs.Good.{good_set_parts}
use Rattle.hits_input.specs.Input.{Input, read_input}
use Rattle.hits_calls.specs.Prepared.{make_set, make_both}
use Rattle.hits_printed.specs.Printed.{refusal_of, answer_to, answer_or_bad, printed}
use Rattle.hits_printed.specs.Pieces.{set_for, automaton_for, text_for, first_piece, Prints, last, before, PiecesTheorem}
use Rattle.hits_printed.proofs.Sizes.{Sized, input-Sized}
use Rattle.hits_printed.proofs.Refusals.{Prepared, prepared}
use Rattle.hits_printed.proofs.Searching.{whole_search}

-- an input that was read
module _ (i : Input) (set automaton : List ℕ) (room : ℕ) (l : 1090 ≤ length set) (m : 16384 ≤ length automaton) (k : 128 ≤ room) (z : Sized i) where
  abbrev Said : List ℕ → Type 0
  Said bytes = Prints (set_for (Some i) set) (automaton_for (Some i) set automaton) i.text room (first_piece (Some i) set automaton) bytes

  P : Prepared i.patterns set automaton
  P = prepared i.patterns set automaton l m z.patterns

  -- some call is refused
  refused : (r : ℕ) → refusal_of [] i.patterns ≡ suc r → Said (answer_to i)
  unfolding answer_to
  refused r e =
      let n = ne_eqb (suc r) 0 (λ q. let w : ⊥ = omega arith in w) in
      rw (P.refusal, e, n) (last refl refl)

  -- none is
  accepted : refusal_of [] i.patterns ≡ 0 → Said (answer_to i)
  unfolding answer_to
  accepted e =
      let s = P.ready e in
      let few = (good_set_parts (map distances i.patterns) s.good).0 in
      rw (P.refusal, e)
      (before refl refl (whole_search (make_set i.patterns set).1 (make_both i.patterns set automaton).1 i.text room (map distances i.patterns) s
      (omega (arith, z.text)) (omega (arith, few))))

  answered : Said (answer_to i)
  answered = go (refusal_of [] i.patterns) refl
    where
      go : (r : ℕ) → refusal_of [] i.patterns ≡ r → Said (answer_to i)
      go zero e = accepted e
      go (suc r) e = refused r e

pub pieces_theorem : PiecesTheorem
unfolding printed
pieces_theorem bytes set automaton room l m k = go (read_input bytes) refl
  where
    go : (o : Option Input) → read_input bytes ≡ o
        → Prints (set_for o set) (automaton_for o set automaton) (text_for o) room (first_piece o set automaton) (answer_or_bad o)
    go None e = last refl refl
    go (Some i) e = answered i set automaton room l m k (input-Sized bytes i e)
