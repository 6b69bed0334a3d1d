-- Those that fit, of the patterns that have the set fingerprint, are the candidates.
use Rattle.std.specs.Prelude.{◌+◌, ◌-◌}
use Rattle.lists.proofs.Prelude.{refl, suc, take, arith}
use Rattle.pattern_set.proofs.IsSet.{set_good}
use Rattle.filter_plan.specs.Plan.{text_fingerprint}
use Rattle.filter_windows.specs.Patterns.{patterns}
use Rattle.filter_windows.proofs.Lookups.{Looked-Fitting, Looked-candidates}
use Rattle.filter_windows.proofs.tables.CandidateTables.candidates_among.Goals as goal

pub returns : goal.returns
returns c =
    let a = c.args in
    let t = a.self.now.tables.now in
    let low = a.self.now.low.now in
    let high = a.self.now.high.now in
    let n = a.p + 1 - a.begin in
    let k = text_fingerprint a.self.now.span (take (suc a.p) a.text.now) in
    Looked-candidates (patterns t) a.text.now a.p a.begin n (set_good t.windows.set.now t.windows.good) c.requires.p_in_bounds.0 c.requires.p_in_bounds.1
    (omega arith) low high t.windows.fits.now k a.self.now.span c.fitting.result a.self.now.filled a.self.now.span_is refl
    (Looked-Fitting low high t.windows.fits.now k n a.alike c.requires.alike c.fitting.result c.fitting.ensures)
