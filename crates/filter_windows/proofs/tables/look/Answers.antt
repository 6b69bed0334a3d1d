-- By the fingerprint first, then by the samples; where no pattern has the fingerprint, none is
-- found.
use Rattle.filter_windows.proofs.Lookups.{Looked-none}
use Rattle.filter_windows.proofs.tables.look.Goals as goal

pub returns-then-alike-eq0 : goal.returns-then-alike-eq0
returns-then-alike-eq0 c =
    let f = c.by_fingerprint-alike in
    let a = c.args in
    Looked-none a.lowbyte.now a.highbyte.now a.fits.now a.fingerprint a.n f.result f.ensures c.if-alike-eq0.true
