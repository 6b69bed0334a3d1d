-- What is in the set and in the entry of the last sample; where there is no sample, nothing.
use Rattle.filter_windows.proofs.Lookups.{Fitting-none}
use Rattle.filter_windows.proofs.tables.fitting.Goals as goal

pub returns-then-n-eq0 : goal.returns-then-n-eq0
returns-then-n-eq0 c = Fitting-none c.args.fits.now c.args.n c.args.set c.if-n-eq0.true
