-- The numbers of the group are those of its ranks, one by one or from the table.
use Rattle.lists.proofs.Prelude.{◌∙◌, ap, List, map, ℕ, ℤ, sets, length, get_or, w32, to_z, of_z}
use Rattle.lists.proofs.Order.{back_i32}
use Rattle.bit_sets.specs.BitSets.{bits}
use Rattle.matching.specs.Matching.{hit_words}
use Rattle.filter_windows.specs.Patterns.{patterns}
use Rattle.filter_passes.specs.Passes.{rank_hits}
use Rattle.filter_passes.proofs.Places.{group_hits}
use Rattle.filter_passes.proofs.place.write_group.Goals as goal

pub returns-clause-out_after : goal.returns-clause-out_after
returns-clause-out_after c =
    let a = c.args in
    let t = a.tables.now in
    let w = t.tables.windows in
    c.write_many.ensures.out_after
    ∙ ap (λ (l : List (ℕ × ℕ)). sets a.out.now 0 (hit_words l))
    (group_hits (length (patterns t.tables)) w.numbers.now w.equal.now t.grouped.now t.words.now a.p a.r t.groups c.requires.r_in_bounds.0)

pub returns-clause-rises_after : goal.returns-clause-rises_after
returns-clause-rises_after c =
    let a = c.args in
    let t = a.tables.now in
    let w = t.tables.windows in
    let all = rank_hits w.numbers.now a.p (bits (get_or w.equal.now a.r 0)) in
    c.write_many.ensures.rises_after
    ∙ ap (λ (l : List (ℕ × ℕ)). sets a.rises.now 0 (map (λ _. to_z w32 (of_z w32 a.rise)) l))
    (group_hits (length (patterns t.tables)) w.numbers.now w.equal.now t.grouped.now t.words.now a.p a.r t.groups c.requires.r_in_bounds.0)
    ∙ ap (λ (v : ℤ). sets a.rises.now 0 (map (λ _. v) all)) (back_i32 c.ranges.rise)
