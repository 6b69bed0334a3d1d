-- What the loop has written and the hits from place p on make the hits of the block, and so do the
-- rises; where the samples begin is kept from place to place.
use Rattle.std.specs.Prelude.{◌≡◌, ◌-◌}
use Rattle.lists.proofs.Prelude.{take}
use Rattle.matching.specs.Rise.{rise_in}
use Rattle.filter_plan.specs.Plan.{text_fingerprint}
use Rattle.filter_windows.specs.Looks.{Since}
use Rattle.filter_windows.specs.Patterns.{patterns}
use Rattle.filter_passes.specs.Passes.{hits_from}
use Rattle.filter_passes.proofs.Written.{Written}
use Rattle.filter_passes.proofs.listing.write_block.Given as goal

abbrev pub invariant-loop-p : goal.invariant-loop-p
invariant-loop-p l =
    (l.own ≡ text_fingerprint 17 (take l.p l.text))
    × Since l.text l.p l.since
    × Written (rise_in (patterns l.tables.tables) l.text) l.initial.out l.out l.initial.rises l.rises l.to
    (hits_from (patterns l.tables.tables) l.text l.first (l.end - l.first)) (hits_from (patterns l.tables.tables) l.text l.p (l.end - l.p))
