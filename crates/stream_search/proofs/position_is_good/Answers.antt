-- `position_is_good` meets its contract: each test refuses what makes the position bad, and where
-- none does the open minima decide.
use Rattle.lists.proofs.Prelude.{◌∙◌, sym, arith}
use Rattle.automaton_lookup.specs.View.{patterns}
use Rattle.search_model.specs.Search.{position_of}
use Rattle.search_model.proofs.Accepted.{state_outside, state_deep, state_long, state_empty, state_minima}
use Rattle.stream_search.proofs.position_is_good.Goals as goal

pub returns-then-at-automaton : goal.returns-then-at-automaton
returns-then-at-automaton c =
    state_outside (patterns c.args.automaton.now.records) (position_of c.args.search.now.state)
    (omega (arith, c.if-at-automaton.true, c.args.automaton.now.whole))

pub returns-then-depth-search : goal.returns-then-depth-search
returns-then-depth-search c =
    state_deep (patterns c.args.automaton.now.records) (position_of c.args.search.now.state)
    (omega (arith, c.if-at-automaton.false, c.args.automaton.now.whole))
    (omega (arith, c.depth.ensures, c.if-depth-search.true))

pub returns-then-search-gt1048576 : goal.returns-then-search-gt1048576
returns-then-search-gt1048576 c =
    state_long (patterns c.args.automaton.now.records) (position_of c.args.search.now.state)
    (omega (arith, c.if-at-automaton.false, c.args.automaton.now.whole))
    (omega (arith, c.depth.ensures, c.if-depth-search.false)) c.if-search-gt1048576.true

pub returns-then-not-has_minimum : goal.returns-then-not-has_minimum
returns-then-not-has_minimum c =
    state_empty (patterns c.args.automaton.now.records) (position_of c.args.search.now.state) (sym c.has_minimum.ensures ∙ c.if-not-has_minimum.true)

pub returns : goal.returns
returns c =
    c.minima_are_good.ensures
    ∙ state_minima (patterns c.args.automaton.now.records) (position_of c.args.search.now.state)
    (omega (arith, c.if-at-automaton.false, c.args.automaton.now.whole))
    (omega (arith, c.depth.ensures, c.if-depth-search.false)) c.if-search-gt1048576.false
    (sym c.has_minimum.ensures ∙ c.if-not-has_minimum.false)
