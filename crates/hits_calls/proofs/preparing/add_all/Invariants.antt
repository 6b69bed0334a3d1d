-- To add what is left to the set as it is comes to the same as to add all of it.
use Rattle.std.specs.Prelude.{◌≡◌}
use Rattle.lists.proofs.Prelude.{drop}
use Rattle.hits_calls.specs.Prepared.{parts_of, add_all}
use Rattle.hits_calls.proofs.preparing.add_all.Given as goal

abbrev pub invariant-loop-told : goal.invariant-loop-told
invariant-loop-told l =
    add_all (parts_of 0 l.ends l.values) l.initial.set ≡ add_all (parts_of l.from (drop l.told-index l.ends) l.values) l.set
