-- THE ROOM that is asked for holds the automaton of a good set: all patterns begin with one
-- distance, so that there is a node for each distance but the first ones, one for these, and the
-- root.
use Rattle.std.specs.Prelude.{◌+◌, ◌*◌, ◌≤◌, ◌<◌}
use Rattle.lists.proofs.Prelude.{List, flatten, ℕ, length, arith}
use Rattle.automaton_model.specs.Automaton.{automaton_words}
use Rattle.automaton_model.proofs.Lengths.{length-nodes_few, length_automaton}
use Rattle.pattern_set.specs.PatternSet.{patterns_of, IsSet}
use Rattle.pattern_set.proofs.IsSet.{set_good}

pub automaton_fits : (ws : List ℕ) → IsSet ws → 0 < length (patterns_of ws)
    → length (automaton_words (patterns_of ws)) ≤ 16 * (1 + length (flatten (patterns_of ws)))
automaton_fits ws good some =
    let ps = patterns_of ws in
    omega (arith, length_automaton ps, length-nodes_few ps (set_good ws good))
