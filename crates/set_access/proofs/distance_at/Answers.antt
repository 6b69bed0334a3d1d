-- The distances of a pattern lie one behind the other from its start.
use Rattle.lists.proofs.Prelude.{arith}
use Rattle.set_access.proofs.Laws.{pattern_fits, distance_word}
use Rattle.set_access.proofs.distance_at.Goals as goal

pub overflow_add-result : goal.overflow_add-result
overflow_add-result c =
    omega (arith, pattern_fits c.args.set.now c.requires.set c.args.j c.requires.j_in_bounds.0)

pub offset_bounds-set-pattern_start : goal.offset_bounds-set-pattern_start
offset_bounds-set-pattern_start c =
    omega (arith, pattern_fits c.args.set.now c.requires.set c.args.j c.requires.j_in_bounds.0)

pub bounds-set-pattern_start : goal.bounds-set-pattern_start
bounds-set-pattern_start c =
    omega (arith, pattern_fits c.args.set.now c.requires.set c.args.j c.requires.j_in_bounds.0)

pub returns : goal.returns
returns c =
    rw c.pattern_start.ensures (distance_word c.args.set.now c.requires.set c.args.j c.args.i c.requires.j_in_bounds.0 c.requires.j_in_bounds.1)
