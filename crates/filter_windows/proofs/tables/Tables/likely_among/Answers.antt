-- Of the candidates those that have the own fingerprint are likely.
use Rattle.lists.proofs.Prelude.{suc, take, arith}
use Rattle.filter_windows.specs.Patterns.{patterns}
use Rattle.pattern_set.proofs.IsSet.{set_good}
use Rattle.filter_windows.proofs.Lookups.{own_fingerprint_lt, among_likely}
use Rattle.filter_windows.proofs.tables.Tables.likely_among.Goals as goal

pub by_fingerprint-alike-requires : goal.by_fingerprint-alike-requires
by_fingerprint-alike-requires c =
    omega (arith, c.requires.p_in_bounds.1, own_fingerprint_lt (take (suc c.args.p) c.args.text.now))

pub returns : goal.returns
returns c =
    let a = c.args in
    among_likely (patterns a.self.now) (take (suc a.p) a.text.now) a.self.now.own_low.now a.self.now.own_high.now a.own c.by_fingerprint-alike.result
    a.candidates c.common.result (set_good a.self.now.windows.set.now a.self.now.windows.good) a.self.now.filled.own.by_low a.self.now.filled.own.by_high
    c.requires.p_in_bounds.1
    c.by_fingerprint-alike.ensures
    c.requires.set_of c.common.ensures
