-- The new bit is shifted in, and the mask takes the oldest out.
use Rattle.lists.proofs.Prelude.{take, arith}
use Rattle.filter_windows.proofs.Rolling.{fingerprint_rolled}
use Rattle.filter_windows.proofs.Lookups.{own_fingerprint_lt}
use Rattle.filter_windows.proofs.fingerprints.own_next.Goals as goal

pub roll-requires : goal.roll-requires
roll-requires c =
    let a = c.args in
    (omega (arith, c.requires.1, own_fingerprint_lt (take a.p a.text.now)), c.new_bit.ensures.1)

pub returns : goal.returns
returns c =
    let bit = c.new_bit in
    let a = c.args in
    fingerprint_rolled 17 a.text.now a.p a.own bit.result c.roll.result (omega arith) c.requires.0 c.requires.1
    bit.ensures.0 c.roll.ensures
