-- The lowest 16 of the bits shifted are those of the fingerprint one place on.
use Rattle.std.specs.Prelude.{◌%◌}
use Rattle.lists.proofs.Prelude.{arith}
use Rattle.filter_windows.proofs.Rolling.{fingerprint_rolled, shifted}
use Rattle.filter_windows.proofs.fingerprints.bits_next.Goals as goal

pub returns : goal.returns
returns c =
    let bit = c.later_bit in
    let a = c.args in
    fingerprint_rolled 17 a.text.now a.p (a.bits % 65536) bit.result _ (omega arith) c.requires.1 c.requires.2
    bit.ensures.0 (shifted a.bits bit.result bit.ensures.1)
