-- The child is before its parent, so it is a place of the array.
use Rattle.lists.proofs.Prelude.{◌∙◌, sym, arith, length-set}
use Rattle.compute_parents.proofs.Walk.{child_lt}
use Rattle.compute_parents.proofs.add_place.Goals as goal

pub bounds-out-child : goal.bounds-out-child
bounds-out-child c =
    let a = c.args in
    let before = child_lt a.ds.now a.j c.in-Some.child c.requires.ds_value c.requires.j_in_bounds.0 (sym c.prefix_child.ensures ∙ c.in-Some.is) in
    simp length-set (omega arith)
