-- The look into the tables finds the likely patterns.
use Rattle.std.specs.Prelude.{◌+◌, ◌-◌}
use Rattle.lists.proofs.Prelude.{suc, take, arith}
use Rattle.filter_windows.specs.Patterns.{patterns}
use Rattle.pattern_set.proofs.IsSet.{set_good}
use Rattle.filter_windows.proofs.Lookups.{own_fingerprint_lt, Looked-likely}
use Rattle.filter_windows.proofs.tables.Tables.likely_at.Goals as goal

pub look-requires : goal.look-requires
look-requires c =
    omega (arith, c.requires.p_in_bounds.1, own_fingerprint_lt (take (suc c.args.p) c.args.text.now))

pub returns : goal.returns
returns c =
    let a = c.args in
    Looked-likely (patterns a.self.now) a.text.now a.p a.begin (a.p + 1 - a.begin) (set_good a.self.now.windows.set.now a.self.now.windows.good)
    c.requires.p_in_bounds.0 c.requires.p_in_bounds.2 (omega arith)
    a.self.now.own_low.now a.self.now.own_high.now a.self.now.windows.fits.now a.own c.look.result a.self.now.filled.own c.requires.p_in_bounds.1 c.look.ensures
