-- `are_records` meets its contract: with the root's record there, the words begin with the
-- automaton where no node behind the root is wrong.
use Rattle.std.specs.Prelude.{◌+◌, ◌*◌, ◌≤◌}
use Rattle.lists.proofs.Prelude.{◌∙◌, sym, arith}
use Rattle.lists.proofs.Same.{true-same}
use Rattle.automaton_model.proofs.Lengths.{length_automaton, length_record}
use Rattle.pattern_set.specs.PatternSet.{patterns_of}
use Rattle.set_access.proofs.Laws.{count_le}
use Rattle.automaton.proofs.Records.{Made-more, begins_not}
use Rattle.automaton.proofs.Walk.{root_there, Along-start, begins_where, none-result}
use Rattle.lists.proofs.Prelude.{rules}
use Rattle.automaton.proofs.checking.are_records.Goals.{Start}
use Rattle.automaton.proofs.checking.are_records.Goals as goal

-- the number of patterns is not large
few : (c : Start) → c.args.k ≤ 64
few c =
    omega (arith, count_le c.args.set.now c.requires.made.is_set, c.requires.made.patterns)

pub overflow_mul-k : goal.overflow_mul-k
overflow_mul-k c =
    let s = few (goal.at.overflow_mul-k c).Start in
    search rules

pub overflow_add-k : goal.overflow_add-k
overflow_add-k c =
    let s = few (goal.at.overflow_add-k c).Start in
    search rules

pub is_record-requires : goal.is_record-requires
is_record-requires c =
    omega (arith, c.requires.made.room, length_automaton (patterns_of c.args.set.now), root_there c.requires.made, c.requires.made.patterns)

pub returns-then-not-is_record : goal.returns-then-not-is_record
returns-then-not-is_record c =
    let size = sym (length_record (patterns_of c.args.set.now) 0) in
    sym
    (begins_not c.requires.made 0 (root_there c.requires.made) _ (2 * c.args.k + 1) 8 (omega arith) c.root_record-root.ensures size
    (sym c.is_record.ensures ∙ c.if-not-is_record.true))

pub first_wrong-requires-clause-along : goal.first_wrong-requires-clause-along
first_wrong-requires-clause-along c =
    let size = sym (length_record (patterns_of c.args.set.now) 0) in
    Along-start c.requires.count_value
    (Made-more c.requires.made (root_there c.requires.made) (2 * c.args.k + 1) 8 (omega arith) size
    (true-same _ _ (sym c.is_record.ensures ∙ c.if-not-is_record.false) ∙ c.root_record-root.ensures))

pub returns : goal.returns
returns c =
    none-result _ _ c.is_none.ensures ∙ begins_where c.args.set.now c.args.words.now c.args.k c.args.count c.requires.count_value 1 c.first_wrong.result
    (omega arith) c.first_wrong.ensures
