-- Three zeros are the empty set's words.
use Rattle.std.specs.Prelude.{◌++◌}
use Rattle.lists.proofs.Prelude.{List, ap, arith, drop, flatten, le-ltb, length, ℕ}
use Rattle.pattern_set.specs.PatternSet.{offsets, set_words}
use Rattle.set_arrays.proofs.empty_set.Goals as goal

pub returns-clause-out_after : goal.returns-clause-out_after
unfolding set_words offsets flatten
returns-clause-out_after c = simp (le-ltb (length c.args.out.now) 3 (omega arith))
    (ap (λ (l : List ℕ). l ++ drop 3 c.args.out.now) c.copy_from_slice.ensures.after)
