-- The loop keeps the bits of the places it has passed; of 17 values no earlier ones count.
use Rattle.std.specs.Prelude.{◌≡◌, ◌-◌, ◌<◌}
use Rattle.lists.proofs.Prelude.{suc, take}
use Rattle.filter_plan.specs.Plan.{text_fingerprint}
use Rattle.filter_windows.proofs.fingerprints.fingerprint_before.Given as goal

abbrev pub invariant-loop-p : goal.invariant-loop-p
invariant-loop-p l =
    (l.fingerprint < 65536) × (l.fingerprint ≡ text_fingerprint (suc (l.p - (l.end - 16))) (take l.p l.text))
