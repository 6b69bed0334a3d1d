-- The loop's count and the hits from place p on make the hits of the block; where the samples begin
-- is kept from place to place.
use Rattle.std.specs.Prelude.{◌≡◌, ◌+◌, ◌-◌}
use Rattle.lists.proofs.Prelude.{length, take}
use Rattle.filter_plan.specs.Plan.{text_fingerprint}
use Rattle.filter_windows.specs.Looks.{Since}
use Rattle.filter_windows.specs.Patterns.{patterns}
use Rattle.filter_passes.specs.Passes.{hits_from}
use Rattle.filter_passes.proofs.listing.count_block.Given as goal

abbrev pub invariant-loop-p : goal.invariant-loop-p
invariant-loop-p l =
    (l.own ≡ text_fingerprint 17 (take l.p l.text))
    × Since l.text l.p l.since
    × (l.count + length (hits_from (patterns l.tables) l.text l.p (l.end - l.p)) ≡ length (hits_from (patterns l.tables) l.text l.first (l.end - l.first)))
