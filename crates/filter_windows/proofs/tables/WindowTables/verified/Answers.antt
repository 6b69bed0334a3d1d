-- The loop takes the likely patterns group by group; what is found are those that it has taken and
-- that have a hit.
use Rattle.lists.proofs.Prelude.{suc, take}
use Rattle.pattern_set.proofs.IsSet.{set_good}
use Rattle.pattern_set.specs.PatternSet.{patterns_of}
use Rattle.filter_windows.proofs.RankSets.{likely-groups, Found-none, found_all}
use Rattle.filter_windows.proofs.tables.WindowTables.verified.Goals as goal

pub loop-g-init : goal.loop-g-init
loop-g-init c =
    let ps = patterns_of c.args.self.now.set.now in
    (Found-none c.args.likely _, likely-groups ps (take (suc c.args.p) c.args.text.now) c.args.likely c.requires.set_of)

pub returns : goal.returns
returns c =
    let t = c.args.self.now in
    found_all (patterns_of t.set.now) (take (suc c.args.p) c.args.text.now) c.args.likely c.loop-g.rest c.loop-g.found (set_good t.set.now t.good)
    c.requires.set_of c.loop-g.invariant.0 c.in_default.ensures
