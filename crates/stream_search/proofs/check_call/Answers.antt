-- `check_call` meets its contract: there are at most 64 patterns.
use Rattle.lists.proofs.Prelude.{arith}
use Rattle.pattern_set.proofs.Good.{good_set_parts}
use Rattle.automaton_lookup.specs.View.{patterns}
use Rattle.automaton_lookup.proofs.Words.{made_good}
use Rattle.stream_search.proofs.check_call.Goals as goal

pub are_short-requires : goal.are_short-requires
are_short-requires c =
    let m = c.args.automaton.now.records.begun in
    omega (arith, m.patterns, (good_set_parts (patterns c.args.automaton.now.records) (made_good m)).0)
