-- With a rank that was not seen those that equal it get their group.
use Rattle.std.specs.Prelude.{◌+◌, ◌*◌, ◌≤◌, ◌<◌}
use Rattle.lists.proofs.Prelude.{◌∙◌, ap, sym, List, ℕ, length, get_or, arith}
use Rattle.bit_sets.specs.BitSets.{bit_at, bits}
use Rattle.pattern_set.specs.PatternSet.{patterns_of}
use Rattle.set_access.proofs.Laws.{count_le}
use Rattle.filter_checks.proofs.Grouping.{grouped_start, grouped_pass, group_room, grouped_more}
use Rattle.filter_checks.proofs.groups.fill_groups.Goals.{Then-not-has, then-not-has, else-not-has}
use Rattle.filter_checks.proofs.groups.fill_groups.Goals as goal

-- there is room for the group of a rank that was not seen
room : (c : Then-not-has) →
    let members = get_or c.args.equal.now c.loop-r.r 0 in
    (0 < length (bits members)) × (c.loop-r.at + length (bits members) ≤ 64)
room c =
    let L = c.loop-r in
    let a = c.args in
    group_room (patterns_of a.set.now) a.numbers.now a.equal.now (count_le a.set.now c.requires.set) c.requires.equal_ranks L.r L.seen L.at
    L.grouped L.words (omega (arith, c.loop-r-test.true, c.len-r-end.ensures.count, ap length c.of.ensures)) (sym c.has.ensures ∙ c.if-not-has.true) L.invariant

pub loop-r-init : goal.loop-r-init
loop-r-init c =
    let a = c.args in
    grouped_start (patterns_of a.set.now) a.numbers.now a.equal.now a.grouped.now a.words.now c.requires.grouped_len.0

pub overflow_mul-size : goal.overflow_mul-size
overflow_mul-size c = omega (arith, c.size.ensures, (room (goal.at.overflow_mul-size c).Then-not-has).1)

pub overflow_add-size : goal.overflow_add-size
overflow_add-size c = omega (arith, c.size.ensures, (room (goal.at.overflow_add-size c).Then-not-has).1)

pub overflow_cast-size : goal.overflow_cast-size
overflow_cast-size c = omega (arith, c.size.ensures, (room (goal.at.overflow_cast-size c).Then-not-has).1)

pub put_numbers-at-requires-clause-members_bound : goal.put_numbers-at-requires-clause-members_bound
put_numbers-at-requires-clause-members_bound c = (room (goal.at.put_numbers-at-requires-clause-members_bound c).Then-not-has).1

pub loop-r-preserved : goal.loop-r-preserved
loop-r-preserved c =
    let L = c.loop-r in
    let a = c.args in
    let ps = patterns_of a.set.now in
    let J = c.if-not-has in
    elim J.branch [
      | then-not-has w ↦ grouped_more ps a.numbers.now a.equal.now (count_le a.set.now c.requires.set) c.requires.equal_ranks L.r L.seen L.at L.grouped
          L.words (omega (arith, c.loop-r-test.true, c.len-r-end.ensures.count, ap length c.of.ensures)) (sym c.has.ensures ∙ w.if-not-has.true)
          L.invariant (64 * w.size.result + L.at) J.seen J.at J.grouped J.words (ap (λ (n : ℕ). 64 * n + L.at) w.size.ensures)
          (λ j h. ap (λ (m : ℕ). bit_at m j) w.seen-is ∙ w.either-seen.ensures j h) (w.at-is ∙ w.put_numbers-at.ensures.value)
          (w.grouped-is ∙ w.put_numbers-at.ensures.grouped_after)
          (λ j h. ap (λ (l : List ℕ). get_or l j 0) w.words-is ∙ w.put_at_members.ensures j h 0)
      | else-not-has w ↦ rw (w.grouped-is, w.words-is, w.seen-is, w.at-is) (grouped_pass ps a.numbers.now a.equal.now L.r L.seen L.at L.grouped L.words
          (sym c.has.ensures ∙ w.if-not-has.false) L.invariant)
    ]
