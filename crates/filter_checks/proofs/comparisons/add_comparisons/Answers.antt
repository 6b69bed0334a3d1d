-- The global parents of the pattern are written to the front of an array, and its words from its
-- offset on.
use Rattle.std.specs.Prelude.{◌≡◌, ◌-◌}
use Rattle.lists.proofs.Prelude.{◌∙◌, ap, sym, refl, [], flatten, suc, length, get_or, take, length-take, length-take-le, length-drop, arith}
use Rattle.global_parents.specs.GlobalParents.{global_parents}
use Rattle.global_parents.proofs.Parents.{length-global_parents, global_parents_places}
use Rattle.pattern_set.specs.PatternSet.{PatternSet, patterns_of}
use Rattle.set_access.proofs.Laws.{offset_le, offset_next}
use Rattle.filter_checks.proofs.Places.{known, parents_front, words_placed}
use Rattle.filter_checks.proofs.comparisons.add_comparisons.Goals.{After-global_parents, After-pattern-pattern}
use Rattle.filter_checks.proofs.comparisons.add_comparisons.Goals as goal

-- the slice is the pattern
is_pattern : (c : After-pattern-pattern) →
    c.pattern-pattern.result.now ≡ get_or (patterns_of c.args.set.now) c.args.j []
is_pattern c = c.pattern-pattern.ensures.pattern ∙ ap (λ (ps : PatternSet). get_or ps c.args.j []) c.of-patterns.ensures

-- the front of the array is its global parents
parents_are : (c : After-global_parents) →
    take (length c.pattern-pattern.result.now) c.global_parents.new.out ≡ global_parents c.pattern-pattern.result.now
parents_are c =
    let xs = c.pattern-pattern.result.now in
    parents_front xs xs c.global_parents.new.out c.args.parents.now (length xs) refl refl c.global_parents.ensures

pub global_parents-requires-clause-ds_value : goal.global_parents-requires-clause-ds_value
global_parents-requires-clause-ds_value c =
    (known c.args.set.now c.requires.set c.args.j c.pattern-pattern.result.now
    (is_pattern (goal.at.global_parents-requires-clause-ds_value c).After-pattern-pattern) c.requires.j_in_bounds.0).0

pub global_parents-requires-clause-ds_len_bound : goal.global_parents-requires-clause-ds_len_bound
global_parents-requires-clause-ds_len_bound c =
    let k = known c.args.set.now c.requires.set c.args.j c.pattern-pattern.result.now
    (is_pattern (goal.at.global_parents-requires-clause-ds_len_bound c).After-pattern-pattern) c.requires.j_in_bounds.0 in
    (k.2, omega (arith, k.2, c.requires.j_in_bounds.1))

pub slice_bounds-write_words-end : goal.slice_bounds-write_words-end
slice_bounds-write_words-end c =
    let k = known c.args.set.now c.requires.set c.args.j c.pattern-pattern.result.now
    (is_pattern (goal.at.slice_bounds-write_words-end c).After-pattern-pattern) c.requires.j_in_bounds.0 in
    omega (arith, k.2, c.requires.j_in_bounds.1, c.global_parents.auto.out)

pub slice_bounds-write_words-end-2 : goal.slice_bounds-write_words-end-2
slice_bounds-write_words-end-2 c =
    let k = known c.args.set.now c.requires.set c.args.j c.pattern-pattern.result.now
    (is_pattern (goal.at.slice_bounds-write_words-end-2 c).After-pattern-pattern) c.requires.j_in_bounds.0 in
    sym (length-take-le (length c.pattern-pattern.result.now) c.global_parents.new.out
    (omega (arith, k.2, c.requires.j_in_bounds.1, c.global_parents.auto.out)))

pub write_words-requires-clause-in_bounds : goal.write_words-requires-clause-in_bounds
write_words-requires-clause-in_bounds c =
    let xs = c.pattern-pattern.result.now in
    let k = known c.args.set.now c.requires.set c.args.j xs
    (is_pattern (goal.at.write_words-requires-clause-in_bounds c).After-pattern-pattern) c.requires.j_in_bounds.0 in
    let l = length-global_parents xs in
    rw (parents_are (goal.at.write_words-requires-clause-in_bounds c).After-global_parents)
    (omega (arith, l, k.1), omega (arith, l, k.2), global_parents_places xs)

pub write_words-requires-clause-parents_in_bounds : goal.write_words-requires-clause-parents_in_bounds
write_words-requires-clause-parents_in_bounds c =
    let xs = c.pattern-pattern.result.now in
    let ws = c.args.set.now in
    let is = is_pattern (goal.at.write_words-requires-clause-parents_in_bounds c).After-pattern-pattern in
    let k = known ws c.requires.set c.args.j xs is c.requires.j_in_bounds.0 in
    let l = length-global_parents xs in
    let at = c.offset-at.ensures.offset ∙ ap (λ (ps : PatternSet). length (flatten (take c.args.j ps))) c.of-patterns.ensures in
    rw (parents_are (goal.at.write_words-requires-clause-parents_in_bounds c).After-global_parents, length-take, length-drop) (
      omega (arith, l, k.3),
      omega (
        arith,
        l,
        at,
        ap length is,
        offset_next ws c.requires.set c.args.j c.requires.j_in_bounds.0,
        offset_le ws c.requires.set (suc c.args.j),
        c.requires.set_in_bounds,
      ),
    )

pub returns-clause-out_after : goal.returns-clause-out_after
returns-clause-out_after c =
    let ps = patterns_of c.args.set.now in
    let at = c.offset-at.result in
    let out = c.args.out.now in
    words_placed ps c.args.j out (take (length c.pattern-pattern.result.now) c.global_parents.new.out) c.write_words.new.out at (length out - at)
    (parents_are (goal.at.returns-clause-out_after c).After-global_parents
    ∙ ap global_parents (is_pattern (goal.at.returns-clause-out_after c).After-pattern-pattern))
    (c.offset-at.ensures.offset ∙ ap (λ (ps : PatternSet). length (flatten (take c.args.j ps))) c.of-patterns.ensures) refl c.write_words.ensures
