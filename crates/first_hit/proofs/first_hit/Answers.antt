-- `first_hit` meets its contract: there are at most 64 patterns, so that the list has room for a
-- hit of each.
use Rattle.std.specs.Prelude.{◌≤◌}
use Rattle.lists.proofs.Prelude.{length-take, arith, rules}
use Rattle.pattern_set.proofs.Good.{good_set_parts}
use Rattle.automaton_lookup.specs.View.{patterns}
use Rattle.automaton_lookup.proofs.Words.{made_good}
use Rattle.first_hit.proofs.first_hit.Goals as goal

pub slice_bounds-list-end : goal.slice_bounds-list-end
slice_bounds-list-end c =
    let m = c.in_ok-view.view.records.begun in
    let f : c.in_ok-view.view.records.k ≤ 64 = omega (arith, m.patterns, (good_set_parts (patterns c.in_ok-view.view.records) (made_good m)).0) in
    search rules

pub slice_bounds-first_of_call-end : goal.slice_bounds-first_of_call-end
slice_bounds-first_of_call-end c =
    let m = c.in_ok-view.view.records.begun in
    let f : c.in_ok-view.view.records.k ≤ 64 = omega (arith, m.patterns, (good_set_parts (patterns c.in_ok-view.view.records) (made_good m)).0) in
    simp length-take (omega arith)

pub first_of_call-requires-clause-list : goal.first_of_call-requires-clause-list
first_of_call-requires-clause-list c =
    let m = c.in_ok-view.view.records.begun in
    let f : c.in_ok-view.view.records.k ≤ 64 = omega (arith, m.patterns, (good_set_parts (patterns c.in_ok-view.view.records) (made_good m)).0) in
    simp length-take (omega (arith, m.patterns))
