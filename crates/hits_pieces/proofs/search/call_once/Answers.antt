-- The part of the text that is handed over is what is left, and what the call leaves is the next
-- piece.
use Rattle.std.specs.Prelude.{◌≡◌, ◌-◌}
use Rattle.lists.proofs.Prelude.{◌∙◌, ap, subst, List, ℕ, ℤ, length, take, drop}
use Rattle.hits_calls.specs.Called.{IsCalled}
use Rattle.hits_pieces.proofs.Next.{from_place, piece_refused, piece_called}
use Rattle.hits_pieces.proofs.search.call_once.Goals.{After-make_call-s}
use Rattle.hits_pieces.proofs.search.call_once.Goals as goal

-- the call was handed what is left of the text
called : (m : After-make_call-s)
    → IsCalled m.args.set.now m.args.automaton.now m.args.p.state
    (drop m.args.p.state.taken m.args.text.now) m.args.hits.now m.args.rises.now
    m.args.out.now m.make_call-s.new.hits m.make_call-s.new.rises m.make_call-s.new.out
    m.make_call-s.result
called m =
    let a = m.args in
    let part : take (length a.text.now - m.min-from.result) (drop m.min-from.result a.text.now) ≡ drop a.p.state.taken a.text.now =
    ap (λ (k : ℕ). take (length a.text.now - k) (drop k a.text.now)) m.min-from.ensures ∙ from_place a.p.state.taken a.text.now in
    subst (λ (xs : List ℤ). IsCalled a.set.now a.automaton.now a.p.state xs a.hits.now a.rises.now a.out.now
    m.make_call-s.new.hits m.make_call-s.new.rises m.make_call-s.new.out m.make_call-s.result)
    part m.make_call-s.ensures.called

pub returns-in-Err : goal.returns-in-Err
returns-in-Err c =
    let a = c.args in
    let w = c.write_refused-bytes in
    piece_refused a.set.now a.automaton.now a.text.now a.p a.hits.now a.rises.now a.out.now c.requires.1
    c.requires.2 w.result c.from.result c.in-Err.r (called (goal.at.returns-in-Err c).After-make_call-s) c.in-Err.is c.from.ensures
    w.ensures.value.0 w.ensures.out_after

pub returns-in-Ok : goal.returns-in-Ok
returns-in-Ok c =
    let a = c.args in
    piece_called a.set.now a.automaton.now a.text.now a.p a.hits.now a.rises.now a.out.now c.requires.1
    c.requires.2 c.wrapping_add_u64.result c.in-Ok.batch (called (goal.at.returns-in-Ok c).After-make_call-s) c.in-Ok.is
    c.wrapping_add_u64.ensures.value
