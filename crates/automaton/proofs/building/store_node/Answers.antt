-- `store_node` meets its contract: the record behind the row.
use Rattle.std.specs.Prelude.{◌++◌, ◌+◌}
use Rattle.lists.proofs.Prelude.{◌∙◌, ap, List, ℕ, take, drop}
use Rattle.automaton_records.specs.Words.{record_words}
use Rattle.automaton.proofs.EightWords.{store_both}
use Rattle.automaton.proofs.building.store_node.Goals as goal

pub returns : goal.returns
returns c =
    let xs = c.args.out.now in
    let at = c.args.at in
    let rec = record_words c.args.r in
    c.store_record.ensures
    ∙ ap (λ (l : List ℕ). take (at + 8) l ++ rec ++ drop (at + 8 + 8) l) c.store_eight.ensures
    ∙ store_both xs c.args.row.now rec at c.told-row c.requires
