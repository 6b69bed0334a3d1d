-- `remove` stores the counts and moves the words, one part after the other. After each call the
-- array begins with what is known of the smaller set and goes on as it was.
use Rattle.lists.proofs.Prelude.{◌∙◌, [], ap, List, ℕ, arith, flatten, get_or, length, length-set, take}
use Rattle.pattern_set.specs.PatternSet.{PatternSet, patterns_of}
use Rattle.pattern_set.proofs.Without.{length-without, distances_without}
use Rattle.withdraw_pattern.proofs.Sizes.{Sizes, bounds}
use Rattle.withdraw_pattern.proofs.Withdrawing.{Lowered, Joined, Closed, Cleared, is-Counted, is-Lowered, is-Joined, is-Closed, is-Cleared, offsets_ge}
use Rattle.withdraw_pattern.proofs.Withdrawing.{Lowered-length, Joined-length, Closed-length, Cleared-after}
use Rattle.withdraw_pattern.proofs.remove.Goals.{After-clear, After-lower_offsets, After-move_down, After-move_down-2, After-offset}
use Rattle.withdraw_pattern.proofs.remove.Goals as goal

sizes : (c : After-offset) → Sizes c.args.words.now c.args.j c.len-k.result c.total-n.result c.offset.result (length c.pattern-m.result.now)
sizes c = record {
  good = c.requires.0;
  below = c.requires.1;
  patterns = c.len-k.ensures.count ∙ ap (λ (ps : PatternSet). length ps) c.of-set.ensures;
  distances = c.total-n.ensures.total ∙ ap (λ (ps : PatternSet). length (flatten ps)) c.of-set.ensures;
  begins = c.offset.ensures.offset ∙ ap (λ (ps : PatternSet). length (flatten (take c.args.j ps))) c.of-set.ensures;
  long = ap (λ (l : List ℕ). length l) c.pattern-m.ensures.pattern ∙ ap (λ (ps : PatternSet). length (get_or ps c.args.j [])) c.of-set.ensures;
}

-- the array after the offsets are lowered
lowered : (c : After-lower_offsets) → Lowered (sizes (goal.at.After-lower_offsets c).After-offset) c.lower_offsets.new.words
lowered c =
    let z = sizes (goal.at.After-lower_offsets c).After-offset in
    c.lower_offsets.ensures ∙ is-Lowered z _ (is-Counted z)

-- after the distances before the pattern are moved
joined : (c : After-move_down) → Joined (sizes (goal.at.After-move_down c).After-offset) c.move_down.new.words
joined c =
    let z = sizes (goal.at.After-move_down c).After-offset in
    c.move_down.ensures ∙ is-Joined z c.lower_offsets.new.words (lowered (goal.at.After-move_down c).After-lower_offsets)

-- after those behind it are
closed : (c : After-move_down-2) → Closed (sizes (goal.at.After-move_down-2 c).After-offset) c.move_down-2.new.words
closed c =
    let z = sizes (goal.at.After-move_down-2 c).After-offset in
    c.move_down-2.ensures ∙ is-Closed z c.move_down.new.words (joined (goal.at.After-move_down-2 c).After-move_down)

-- and after the unused words are cleared
cleared : (c : After-clear) → Cleared (sizes (goal.at.After-clear c).After-offset) c.clear.new.words
cleared c =
    let z = sizes (goal.at.After-clear c).After-offset in
    c.clear.ensures ∙ is-Cleared z c.move_down-2.new.words (closed (goal.at.After-clear c).After-move_down-2)

-- ---- the goals
pub bounds-words-0 : goal.bounds-words-0
bounds-words-0 c = omega (arith, bounds (sizes (goal.at.bounds-words-0 c).After-offset))

pub bounds-words-1 : goal.bounds-words-1
bounds-words-1 c = simp length-set (omega (arith, bounds (sizes (goal.at.bounds-words-1 c).After-offset)))

pub lower_offsets-requires-clause-n_in_bounds : goal.lower_offsets-requires-clause-n_in_bounds
lower_offsets-requires-clause-n_in_bounds c =
    simp (length-set, length-set) (omega (arith, bounds (sizes (goal.at.lower_offsets-requires-clause-n_in_bounds c).After-offset)))

pub lower_offsets-requires-clause-by_index : goal.lower_offsets-requires-clause-by_index
lower_offsets-requires-clause-by_index c = offsets_ge (sizes (goal.at.lower_offsets-requires-clause-by_index c).After-offset)

pub move_down-requires : goal.move_down-requires
move_down-requires c =
    let z = sizes (goal.at.move_down-requires c).After-offset in
    omega (arith, bounds z, Lowered-length z c.lower_offsets.new.words (lowered (goal.at.move_down-requires c).After-lower_offsets))

pub move_down-requires-2 : goal.move_down-requires-2
move_down-requires-2 c =
    let z = sizes (goal.at.move_down-requires-2 c).After-offset in
    omega (arith, bounds z, Joined-length z c.move_down.new.words (joined (goal.at.move_down-requires-2 c).After-move_down))

pub clear-requires : goal.clear-requires
clear-requires c =
    let z = sizes (goal.at.clear-requires c).After-offset in
    omega (arith, bounds z, Closed-length z c.move_down-2.new.words (closed (goal.at.clear-requires c).After-move_down-2))

pub returns-clause-size : goal.returns-clause-size
returns-clause-size c =
    let z = sizes (goal.at.returns-clause-size c).After-offset in
    let ps = patterns_of c.args.words.now in
    (omega (arith, length-without ps c.args.j z.below, z.patterns), omega (arith, distances_without ps c.args.j z.below, z.distances, z.long))

pub returns-clause-words_after : goal.returns-clause-words_after
returns-clause-words_after c =
    Cleared-after (sizes (goal.at.returns-clause-words_after c).After-offset) c.clear.new.words (cleared (goal.at.returns-clause-words_after c).After-clear)
