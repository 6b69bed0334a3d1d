-- `check_automaton` meets its contract: over a set that may be searched the automaton decides, and
-- where the array begins with its words it has all its records.
use Rattle.std.specs.Prelude.{◌≡◌}
use Rattle.lists.proofs.Prelude.{◌∙◌, sym, true, length, arith, not-false, begins}
use Rattle.automaton_model.specs.Automaton.{nodes, automaton_words}
use Rattle.pattern_set.specs.PatternSet.{patterns_of}
use Rattle.pattern_set.proofs.MaySearch.{may_search_parts}
use Rattle.search_check.proofs.Begun.{begun}
use Rattle.search_check.proofs.Conditions.{other, none}
use Rattle.search_check.proofs.check_automaton.Goals.{Else-not-is_automaton}
use Rattle.search_check.proofs.check_automaton.Goals as goal

-- the array begins with the automaton of the set
whole : (c : Else-not-is_automaton) → begins c.args.automaton.now (automaton_words (patterns_of c.args.set.now)) ≡ true
whole c = sym c.is_automaton.ensures ∙ not-false _ c.if-not-is_automaton.false-raw

pub is_automaton-requires : goal.is_automaton-requires
is_automaton-requires c = record {
  set = c.requires.0;
  nonzero = (may_search_parts (patterns_of c.args.set.now) c.requires.1).1;
}

pub returns-then-not-is_automaton : goal.returns-then-not-is_automaton
returns-then-not-is_automaton c =
    other c.args.set.now c.args.automaton.now c.requires.0 c.requires.1 (sym c.is_automaton.ensures ∙ c.if-not-is_automaton.true)

pub begun-requires : goal.begun-requires
begun-requires c =
    let some = (may_search_parts (patterns_of c.args.set.now) c.requires.1).1 in
    begun c.args.set.now c.args.automaton.now _ c.requires.0 c.requires.2 some (whole (goal.at.begun-requires c).Else-not-is_automaton) 0 (omega arith)

pub returns : goal.returns
returns c =
    let n : c.node_count.result ≡ length (nodes (patterns_of c.args.set.now)) = rw c.begun.ensures.set at c.node_count.ensures in
    let some = (may_search_parts (patterns_of c.args.set.now) c.requires.1).1 in (
      none c.args.set.now c.args.automaton.now c.requires.0 c.requires.1 (whole (goal.at.returns c).Else-not-is_automaton),
      record {
        made = begun c.args.set.now c.args.automaton.now _ c.requires.0 c.requires.2 some (whole (goal.at.returns c).Else-not-is_automaton) _
            (omega (arith, n));
        nodes = n;
      },
    )
