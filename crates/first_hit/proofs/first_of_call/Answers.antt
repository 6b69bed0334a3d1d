-- `first_of_call` meets its contract: a call from a new state with so much room stops at the first
-- hit (`none_found`, `first_found`).
use Rattle.std.specs.Prelude.{◌≡◌, ◌++◌, ◌*◌}
use Rattle.lists.proofs.Prelude.{◌∙◌, ap, ap₂, sym, [], ℕ, length, drop, arith}
use Rattle.lists.proofs.Tests.{true-T}
use Rattle.answers.specs.Told.{new_search}
use Rattle.answers.specs.declared.SearchState.{SearchState}
use Rattle.automaton_lookup.specs.View.{patterns}
use Rattle.matching.specs.Matching.{hit_words}
use Rattle.search_model.specs.Search.{position_of, call, good_state}
use Rattle.pattern_set.proofs.Good.{good_set_parts}
use Rattle.automaton_lookup.proofs.Words.{made_good}
use Rattle.runs.proofs.State.{Stands-new, Stands-good}
use Rattle.first_hit.proofs.Stopping.{called, none_found, first_found, first_place}
use Rattle.first_hit.proofs.first_of_call.Goals.{After-search_values-counts}
use Rattle.first_hit.proofs.first_of_call.Goals as goal

-- what the call leaves, by its room
left : (c : After-search_values-counts) →
    let ps = patterns c.args.automaton.now.records in
    let m = c.args.automaton.now.records.begun in
    let h = called ps (made_good m) m.filled c.args.text.now in
    let n = c.search_values-counts.result in
    (n.taken ≡ h.taken) × (n.hits ≡ length h.hits)
left c =
    let ps = patterns c.args.automaton.now.records in
    let text = c.args.text.now in
    let r = c.search_values-counts.ensures.done in (
      r.taken ∙ ap₂ (λ (st : SearchState) (n : ℕ). (call ps (position_of st) n text).taken) c.new.ensures c.requires.list,
      r.hits ∙ ap₂ (λ (st : SearchState) (n : ℕ). length (call ps (position_of st) n text).hits) c.new.ensures c.requires.list,
    )

-- the words of its list
listed : (c : After-search_values-counts) →
    let m = c.args.automaton.now.records.begun in
    let h = called (patterns c.args.automaton.now.records) (made_good m) m.filled c.args.text.now in
    c.search_values-counts.new.hits ≡ hit_words h.hits ++ drop (2 * length h.hits) c.args.list.now
listed c =
    let ps = patterns c.args.automaton.now.records in
    let text = c.args.text.now in
    c.search_values-counts.ensures.done.words
    ∙ ap₂ (λ (st : SearchState) (n : ℕ). let q = call ps (position_of st) n text in hit_words q.hits ++ drop (2 * length q.hits) c.args.list.now)
    c.new.ensures c.requires.list

pub search_values-counts-requires-clause-good : goal.search_values-counts-requires-clause-good
search_values-counts-requires-clause-good c =
    let m = c.args.automaton.now.records.begun in
    let ps = patterns c.args.automaton.now.records in
    let new = Stands-new ps (made_good m) m.filled in
    ap (good_state ps) c.new.ensures ∙ true-T (good_state ps new_search) (Stands-good ps (made_good m) m.filled [] new_search new (omega arith))

pub search_values-counts-requires-clause-arrays : goal.search_values-counts-requires-clause-arrays
search_values-counts-requires-clause-arrays c =
    omega (arith, c.requires.list, (good_set_parts (patterns c.args.automaton.now.records) (made_good c.args.automaton.now.records.begun)).0)

pub returns-then-counts-eq0 : goal.returns-then-counts-eq0
returns-then-counts-eq0 c =
    let m = c.args.automaton.now.records.begun in
    let e = left (goal.at.returns-then-counts-eq0 c).After-search_values-counts in
    none_found (patterns c.args.automaton.now.records) (made_good m) m.filled c.args.text.now c.search_values-counts.result.taken e.0
    (sym e.1 ∙ c.if-counts-eq0.true)

pub overflow_add-result : goal.overflow_add-result
overflow_add-result c =
    let m = c.args.automaton.now.records.begun in
    let l = listed (goal.at.overflow_add-result c).After-search_values-counts in
    let p =
    first_place (patterns c.args.automaton.now.records) (made_good m) m.filled c.args.text.now _ _ l
    (omega (arith, (left (goal.at.overflow_add-result c).After-search_values-counts).1, c.if-counts-eq0.false)) in
    omega (arith, p, c.requires.text)

pub returns : goal.returns
returns c =
    let m = c.args.automaton.now.records.begun in
    let ps = patterns c.args.automaton.now.records in
    let text = c.args.text.now in
    first_found ps (made_good m) m.filled text _ _ (listed (goal.at.returns c).After-search_values-counts)
    (omega (arith, (left (goal.at.returns c).After-search_values-counts).1, c.if-counts-eq0.false))
