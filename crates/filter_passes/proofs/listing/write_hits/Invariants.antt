-- What the loop has written and the hits from the block's first place on make the list, and so do
-- the rises; a block without a mark has no hit. Where the samples begin is known behind the last
-- block looked at.
use Rattle.std.specs.Prelude.{◌*◌, ◌≤◌}
use Rattle.matching.specs.Rise.{rise_in}
use Rattle.filter_windows.specs.Looks.{Since}
use Rattle.filter_windows.specs.Patterns.{patterns}
use Rattle.filter_passes.specs.Passes.{rest_hits}
use Rattle.filter_passes.proofs.Written.{Written}
use Rattle.filter_passes.proofs.listing.write_hits.Given as goal

abbrev pub invariant-loop-block : goal.invariant-loop-block
invariant-loop-block l =
    (l.done ≤ 64 * l.block)
    × Since l.text l.done l.begin
    × Written (rise_in (patterns l.tables.tables) l.text) l.initial.out l.out l.initial.rises l.rises l.to (rest_hits (patterns l.tables.tables) l.text 0)
    (rest_hits (patterns l.tables.tables) l.text (64 * l.block))
