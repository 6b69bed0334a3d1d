-- `call` meets its contract: each refusal is that of the first condition met, and where none is,
-- the call takes its values.
use Rattle.lists.proofs.Prelude.{rules}
use Rattle.stream_search.proofs.Entries.{Answers, unchecked, declined, answers}
use Rattle.answers.specs.Told.{number, told_streamed}
use Rattle.std.specs.Prelude.{Ok}
use Rattle.stream_search.proofs.call.Goals.{In_err-view, In_err-check_call, After-progress_of}
use Rattle.stream_search.proofs.call.Goals as goal

-- set or automaton is refused
first : (c : In_err-view) →
    let a = c.args in
    Answers a.set.now a.automaton.now a.search.now.state a.values.now a.hits.now a.rises.now
    (number c.in_err-view.field-0.0, (0, 0, 0, 0)) a.search.now.state a.hits.now a.rises.now
first c =
    let a = c.args in
    unchecked a.set.now a.automaton.now a.search.now.state a.values.now a.hits.now a.rises.now c.in_err-view.field-0.0 c.in_err-view.ensures

pub returns-in_err-view-clause-answer : goal.returns-in_err-view-clause-answer
returns-in_err-view-clause-answer c = let e = (first (goal.at.returns-in_err-view-clause-answer c).In_err-view).0 in search rules

pub returns-in_err-view-clause-state : goal.returns-in_err-view-clause-state
returns-in_err-view-clause-state c = (first (goal.at.returns-in_err-view-clause-state c).In_err-view).1

pub returns-in_err-view-clause-hits_after : goal.returns-in_err-view-clause-hits_after
returns-in_err-view-clause-hits_after c = (first (goal.at.returns-in_err-view-clause-hits_after c).In_err-view).2

pub returns-in_err-view-clause-rises_after : goal.returns-in_err-view-clause-rises_after
returns-in_err-view-clause-rises_after c = (first (goal.at.returns-in_err-view-clause-rises_after c).In_err-view).3

-- the state, the values or the arrays are
then : (c : In_err-check_call) →
    let a = c.args in
    Answers a.set.now a.automaton.now a.search.now.state a.values.now a.hits.now a.rises.now
    (number c.in_err-check_call.field-0.0, (0, 0, 0, 0)) a.search.now.state a.hits.now a.rises.now
then c =
    let a = c.args in
    declined a.set.now a.automaton.now a.search.now.state a.values.now a.hits.now a.rises.now c.in_ok-view.ensures.0 _ c.in_ok-view.ensures.1.0
    c.in_err-check_call.field-0.0 c.in_err-check_call.ensures

pub returns-in_err-check_call-clause-answer : goal.returns-in_err-check_call-clause-answer
returns-in_err-check_call-clause-answer c = let e = (then (goal.at.returns-in_err-check_call-clause-answer c).In_err-check_call).0 in search rules

pub returns-in_err-check_call-clause-state : goal.returns-in_err-check_call-clause-state
returns-in_err-check_call-clause-state c = (then (goal.at.returns-in_err-check_call-clause-state c).In_err-check_call).1

pub returns-in_err-check_call-clause-hits_after : goal.returns-in_err-check_call-clause-hits_after
returns-in_err-check_call-clause-hits_after c = (then (goal.at.returns-in_err-check_call-clause-hits_after c).In_err-check_call).2

pub returns-in_err-check_call-clause-rises_after : goal.returns-in_err-check_call-clause-rises_after
returns-in_err-check_call-clause-rises_after c = (then (goal.at.returns-in_err-check_call-clause-rises_after c).In_err-check_call).3

-- none is
done : (c : After-progress_of) →
    let a = c.args in
    let s = c.search_values-counts in
    Answers a.set.now a.automaton.now a.search.now.state a.values.now a.hits.now a.rises.now
    (told_streamed (Ok c.progress_of.result)) s.new.search.state s.new.hits s.new.rises
done c =
    let a = c.args in
    let s = c.search_values-counts in
    answers a.set.now a.automaton.now a.search.now.state a.values.now a.hits.now a.rises.now c.in_ok-view.ensures.0 _ c.in_ok-view.ensures.1.0
    c.in_ok-check_call.ensures.0 s.new.hits s.new.rises s.new.search.state s.result _ s.ensures.state s.ensures.done c.progress_of.ensures

pub returns-clause-answer : goal.returns-clause-answer
returns-clause-answer c = (done (goal.at.returns-clause-answer c).After-progress_of).0

pub returns-clause-state : goal.returns-clause-state
returns-clause-state c = (done (goal.at.returns-clause-state c).After-progress_of).1

pub returns-clause-hits_after : goal.returns-clause-hits_after
returns-clause-hits_after c = (done (goal.at.returns-clause-hits_after c).After-progress_of).2

pub returns-clause-rises_after : goal.returns-clause-rises_after
returns-clause-rises_after c = (done (goal.at.returns-clause-rises_after c).After-progress_of).3
