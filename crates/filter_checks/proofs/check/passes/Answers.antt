-- The words of the pattern begin where its distances begin, and the first tells where the parts of
-- the two sides end.
use Rattle.std.specs.Prelude.{◌≡◌, ◌+◌, ◌-◌, ◌%◌, ◌/◌, ◌≤◌}
use Rattle.lists.proofs.Prelude.{◌∙◌, ap, sym, subst, [], flatten, ℕ, List, length, get_or, take, drop, all, false, true, arith}
use Rattle.pattern_set.specs.PatternSet.{PatternSet, patterns_of}
use Rattle.set_access.proofs.Laws.{pattern_le}
use Rattle.global_parents.specs.GlobalParents.{global_parents}
use Rattle.global_parents.proofs.Parents.{length-global_parents, global_parents_places}
use Rattle.filter_checks.specs.Comparisons.{left_words, right_words, passes_left, passes_right, WordsArePlaces}
use Rattle.filter_checks.proofs.Places.{left_few, count_word, left_part, right_part}
use Rattle.filter_checks.proofs.Passing.{side_places, both_pass, left_fails}
use Rattle.filter_checks.proofs.check.passes.Goals.{After-offset-at}
use Rattle.filter_checks.proofs.check.passes.Goals as goal

after : (a n : ℕ) → a + n - a ≡ n
after a n = omega arith

-- where the words begin
begins_at : (c : After-offset-at) →
    c.offset-at.result ≡ length (flatten (take c.args.j (patterns_of c.args.set.now)))
begins_at c = c.offset-at.ensures.offset ∙ ap (λ (ps : PatternSet). length (flatten (take c.args.j ps))) c.of.ensures

-- how many words each side has
counts : (c : After-offset-at) →
    let gs = global_parents (get_or (patterns_of c.args.set.now) c.args.j []) in
    let word = get_or c.args.words.now c.offset-at.result 0 in
    (word % 256 ≡ length (left_words gs)) × (word / 256 ≡ length (right_words gs))
counts c =
    let ws = c.args.set.now in
    let e = ap (λ (n : ℕ). get_or c.args.words.now n 0) (begins_at c)
    ∙ count_word (patterns_of ws) c.args.words.now c.requires.j_in_bounds.1 c.args.j c.requires.j_in_bounds.0 in
    let few = left_few ws c.requires.set c.args.j c.requires.j_in_bounds.0 in
    (omega (arith, e, few), omega (arith, e, few))

-- the parts are the words of the sides
lefts : (c : After-offset-at) →
    let at = c.offset-at.result in
    let word = get_or c.args.words.now at 0 in
    take (at + 1 + word % 256 - (at + 1)) (drop (at + 1) c.args.words.now) ≡ left_words (global_parents (get_or (patterns_of c.args.set.now) c.args.j []))
lefts c =
    let at = c.offset-at.result in
    let word = get_or c.args.words.now at 0 in
    left_part (patterns_of c.args.set.now) c.args.words.now c.requires.j_in_bounds.1 c.args.j c.requires.j_in_bounds.0 (at + 1)
    (at + 1 + word % 256 - (at + 1)) (ap (λ (n : ℕ). n + 1) (begins_at c)) (after (at + 1) (word % 256) ∙ (counts c).0)

rights : (c : After-offset-at) →
    let word = get_or c.args.words.now c.offset-at.result 0 in
    let right = c.offset-at.result + 1 + word % 256 in
    take (right + word / 256 - right) (drop right c.args.words.now) ≡ right_words (global_parents (get_or (patterns_of c.args.set.now) c.args.j []))
rights c =
    let word = get_or c.args.words.now c.offset-at.result 0 in
    let right = c.offset-at.result + 1 + word % 256 in
    right_part (patterns_of c.args.set.now) c.args.words.now c.requires.j_in_bounds.1 c.args.j c.requires.j_in_bounds.0 right
    (right + word / 256 - right) (omega (arith, begins_at c, (counts c).0)) (after right (word / 256) ∙ (counts c).1)

-- their places are places of the window
places : (c : After-offset-at) →
    let gs = global_parents (get_or (patterns_of c.args.set.now) c.args.j []) in
    WordsArePlaces (left_words gs) (length c.args.window.now) × WordsArePlaces (right_words gs) (length c.args.window.now)
places c =
    let ws = c.args.set.now in
    let p = get_or (patterns_of ws) c.args.j [] in
    let gs = global_parents p in
    let n : length gs ≡ length c.args.window.now = length-global_parents p ∙ sym c.requires.window_len in
    let few : length gs ≤ 256 = omega (arith, length-global_parents p, pattern_le ws c.requires.set c.args.j c.requires.j_in_bounds.0) in (
      subst (WordsArePlaces (left_words gs)) n (side_places false (length gs - 17) gs few (global_parents_places p)),
      subst (WordsArePlaces (right_words gs)) n (side_places true (length gs - 17) gs few (global_parents_places p)),
    )

pub passes_left-requires : goal.passes_left-requires
passes_left-requires c =
    let d = (goal.at.passes_left-requires c).After-offset-at in
    subst (λ (v : List ℕ). WordsArePlaces v (length c.args.window.now)) (sym (lefts d)) (places d).0

pub passes_right-requires : goal.passes_right-requires
passes_right-requires c =
    let d = (goal.at.passes_right-requires c).After-offset-at in
    subst (λ (v : List ℕ). WordsArePlaces v (length c.args.window.now)) (sym (rights d)) (places d).1

pub returns-then-passes_left : goal.returns-then-passes_left
returns-then-passes_left c =
    let a = c.args in
    let d = (goal.at.returns-then-passes_left c).After-offset-at in
    both_pass (global_parents (get_or (patterns_of a.set.now) a.j [])) a.window.now
    (sym (c.passes_left.ensures ∙ ap (all (passes_left a.window.now)) (lefts d)) ∙ c.if-passes_left.true)
    (c.passes_right.ensures ∙ ap (all (passes_right a.window.now)) (rights d))

pub returns-else-passes_left : goal.returns-else-passes_left
returns-else-passes_left c =
    let a = c.args in
    let d = (goal.at.returns-else-passes_left c).After-offset-at in
    c.if-passes_left.false
    ∙ left_fails (global_parents (get_or (patterns_of a.set.now) a.j [])) a.window.now
    (sym (c.passes_left.ensures ∙ ap (all (passes_left a.window.now)) (lefts d)) ∙ c.if-passes_left.false)
