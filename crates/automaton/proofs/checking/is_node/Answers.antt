-- `is_node` meets its contract: the row and the record are compared one after the other.
use Rattle.std.specs.Prelude.{◌≡◌, ◌&&◌, ◌++◌, ◌+◌}
use Rattle.lists.proofs.Prelude.{◌∙◌, ap, sym, Bool, take, drop, same}
use Rattle.automaton_records.specs.Words.{record_words}
use Rattle.automaton.proofs.EightWords.{both_same}
use Rattle.automaton.proofs.checking.is_node.Goals.{After-is_eight}
use Rattle.automaton.proofs.checking.is_node.Goals as goal

-- the comparison of both, from the places where the row is compared
both : (c : After-is_eight) →
    let xs = c.args.words.now in
    let row = c.args.row.now in
    let at = c.args.at in
    same (take 16 (drop at xs)) (row ++ record_words c.args.r) ≡ c.is_eight.result && same (take 8 (drop (at + 8) xs)) (record_words c.args.r)
both c =
    let xs = c.args.words.now in
    let rec = record_words c.args.r in
    both_same xs c.args.row.now rec c.args.at c.told-row c.requires
    ∙ ap (λ (b : Bool). b && same (take 8 (drop (c.args.at + 8) xs)) rec) (sym c.is_eight.ensures)

pub returns-then-not-is_eight : goal.returns-then-not-is_eight
returns-then-not-is_eight c =
    let rec = same (take 8 (drop (c.args.at + 8) c.args.words.now)) (record_words c.args.r) in
    sym (both (goal.at.returns-then-not-is_eight c).After-is_eight ∙ ap (λ (b : Bool). b && rec) (c.if-not-is_eight.true))

pub returns : goal.returns
returns c =
    let rec = same (take 8 (drop (c.args.at + 8) c.args.words.now)) (record_words c.args.r) in
    c.is_record.ensures ∙ sym (both (goal.at.returns c).After-is_eight ∙ ap (λ (b : Bool). b && rec) (c.if-not-is_eight.false))
