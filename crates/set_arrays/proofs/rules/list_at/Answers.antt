-- The offsets rise up to the last one, so each list lies within the array.
use Rattle.lists.proofs.Prelude.{arith}
use Rattle.set_arrays.proofs.SetRules.{list_within, list_is}
use Rattle.set_arrays.proofs.rules.list_at.Goals as goal

pub slice_bounds-result-end : goal.slice_bounds-result-end
slice_bounds-result-end c =
    omega (arith, list_within c.args.words.now c.requires.offsets c.args.j c.requires.j_in_bounds, c.requires.offsets.sizes.2)

pub returns : goal.returns
returns c = list_is c.args.words.now c.args.j
