-- `take` meets its contract: the values that a call gets are those of the text up to the end, as
-- far as it reaches, behind those taken.
use Rattle.std.specs.Prelude.{◌≡◌, ◌+◌, ◌-◌}
use Rattle.std.proofs.lemmas.List.{take_min, drop_min, drop-take}
use Rattle.lists.proofs.Prelude.{◌∙◌, ap, sym, List, ℕ, ℤ, min, length, length-take, take, drop, arith}
use Rattle.entries.specs.Entries.{told, after, stream_entry, stream_rises, stream_state}
use Rattle.test_sets.proofs.take.Goals as goal

part : (xs : List ℤ) (e a end taken : ℕ) → e ≡ min end (length xs) → a ≡ min taken e → take (e - a) (drop a xs) ≡ drop taken (take end xs)
part xs e a end taken p q =
    let both : a + (e - a) ≡ e = omega arith in
    let front : take e xs ≡ take end xs = ap (λ (k : ℕ). take k xs) p ∙ take_min end xs in
    let behind : a ≡ min taken (length (take end xs)) = rw length-take (omega arith) in
    sym (drop-take a (e - a) xs)
    ∙ ap (λ (k : ℕ). drop a (take k xs)) both
    ∙ ap (drop a) front
    ∙ ap (λ (k : ℕ). drop k (take end xs)) behind
    ∙ drop_min taken (take end xs)

pub returns-clause-answer_value : goal.returns-clause-answer_value
returns-clause-answer_value c =
    let a = c.args in
    let s = a.search in
    c.stream_search.ensures.answer_value
    ∙ ap
    (λ (xs : List ℤ). told {C = ℕ × ℕ × ℕ × ℕ} (0, 0, 0, 0) (stream_entry s.set.now s.automaton.now a.state xs a.hits.now a.rises.now))
    (part s.text.now c.min-e.result c.min-a.result a.end a.state.taken (omega (arith, c.min-e.ensures)) (omega (arith, c.min-a.ensures)))

pub returns-clause-state_value : goal.returns-clause-state_value
returns-clause-state_value c =
    let a = c.args in
    let s = a.search in
    c.stream_search.ensures.state_value
    ∙ ap (λ (xs : List ℤ). stream_state s.set.now s.automaton.now a.state xs a.hits.now a.rises.now)
    (part s.text.now c.min-e.result c.min-a.result a.end a.state.taken (omega (arith, c.min-e.ensures)) (omega (arith, c.min-a.ensures)))

pub returns-clause-hits_after : goal.returns-clause-hits_after
returns-clause-hits_after c =
    let a = c.args in
    let s = a.search in
    c.stream_search.ensures.hits_after
    ∙ ap (λ (xs : List ℤ). after (stream_entry s.set.now s.automaton.now a.state xs a.hits.now a.rises.now) a.hits.now)
    (part s.text.now c.min-e.result c.min-a.result a.end a.state.taken (omega (arith, c.min-e.ensures)) (omega (arith, c.min-a.ensures)))

pub returns-clause-rises_after : goal.returns-clause-rises_after
returns-clause-rises_after c =
    let a = c.args in
    let s = a.search in
    c.stream_search.ensures.rises_after
    ∙ ap (λ (xs : List ℤ). after (stream_rises s.set.now s.automaton.now a.state xs a.hits.now a.rises.now) a.rises.now)
    (part s.text.now c.min-e.result c.min-a.result a.end a.state.taken (omega (arith, c.min-e.ensures)) (omega (arith, c.min-a.ensures)))
