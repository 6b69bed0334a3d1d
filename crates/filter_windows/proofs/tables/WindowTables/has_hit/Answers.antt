-- The window is the part of the text that the check's law speaks of.
use Rattle.std.specs.Prelude.{◌+◌, ◌-◌, ◌≤◌}
use Rattle.lists.proofs.Prelude.{◌∙◌, [], suc, get_or, arith}
use Rattle.pattern_set.specs.PatternSet.{patterns_of}
use Rattle.set_access.proofs.Laws.{pattern_le, pattern_realizable}
use Rattle.filter_windows.proofs.Windows.{window_fits, window_length, check_is}
use Rattle.filter_windows.proofs.tables.WindowTables.has_hit.Goals.{After-pattern_length-m}
use Rattle.filter_windows.proofs.tables.WindowTables.has_hit.Goals as goal

-- the window lies within the text
fits : (c : After-pattern_length-m) → c.pattern_length-m.result ≤ suc c.args.p
fits c =
    let d = get_or (patterns_of c.args.self.now.set.now) c.args.j [] in
    omega (arith, c.pattern_length-m.ensures, window_fits c.args.text.now c.args.p d c.requires.p_in_bounds.0 c.requires.t)

pub overflow_sub-begin : goal.overflow_sub-begin
overflow_sub-begin c = omega (arith, fits (goal.at.overflow_sub-begin c).After-pattern_length-m)

pub passes-requires-clause-window_len : goal.passes-requires-clause-window_len
passes-requires-clause-window_len c =
    let m = c.pattern_length-m.result in
    let e = c.pattern_length-m.ensures in
    let p = c.args.p in
    let d = get_or (patterns_of c.args.self.now.set.now) c.args.j [] in
    window_length c.args.text.now p d c.requires.p_in_bounds.0 c.requires.t (p + 1 - m) (p + 1 - (p + 1 - m))
    (omega (arith, e)) (omega (arith, e, fits (goal.at.passes-requires-clause-window_len c).After-pattern_length-m))

pub returns : goal.returns
returns c =
    let ws = c.args.self.now.set.now in
    let m = c.pattern_length-m.result in
    let e = c.pattern_length-m.ensures in
    let p = c.args.p in
    let j = c.args.j in
    c.passes.ensures
    ∙ check_is c.args.text.now p (get_or (patterns_of c.args.self.now.set.now) j []) c.requires.p_in_bounds.0 c.requires.t (p + 1 - m) (p + 1 - (p + 1 - m))
    (omega (arith, e)) (omega (arith, e, fits (goal.at.returns c).After-pattern_length-m))
    (pattern_realizable ws c.args.self.now.good j c.requires.p_in_bounds.1)
    (pattern_le ws c.args.self.now.good j c.requires.p_in_bounds.1)
