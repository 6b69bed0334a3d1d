-- The distances are written into the part of the array that starts behind the set's own.
use Rattle.lists.proofs.Prelude.{refl, sym}
use Rattle.cartesian.proofs.Seek.{length-distances}
use Rattle.set_arrays.proofs.Appending.{append_words}
use Rattle.set_arrays.proofs.room.append.Goals as goal

pub returns : goal.returns
returns c =
    let a = c.args in
    append_words a.words.now _ _ _ _ _ _ _ _ c.requires.set c.requires.sizes.0 c.requires.sizes.1 (sym (length-distances a.values.now)) c.requires.room.2
    c.make_room.ensures refl refl c.parent_distances.ensures
