-- The loop's count and the hits from the block's first place on make the hits of the text; a block
-- without a mark has none. Where the samples begin is known behind the last block looked at.
use Rattle.std.specs.Prelude.{◌≡◌, ◌+◌, ◌*◌, ◌≤◌}
use Rattle.lists.proofs.Prelude.{length}
use Rattle.filter_windows.specs.Looks.{Since}
use Rattle.filter_windows.specs.Patterns.{patterns}
use Rattle.filter_passes.specs.Passes.{rest_hits}
use Rattle.filter_passes.proofs.listing.count_hits.Given as goal

abbrev pub invariant-loop-block : goal.invariant-loop-block
invariant-loop-block l =
    (l.done ≤ 64 * l.block)
    × Since l.text l.done l.begin
    × (l.count + length (rest_hits (patterns l.tables) l.text (64 * l.block)) ≡ length (rest_hits (patterns l.tables) l.text 0))
