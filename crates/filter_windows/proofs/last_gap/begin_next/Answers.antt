-- A gap moves it behind itself, a sample keeps it.
use Rattle.std.specs.Prelude.{◌+◌}
use Rattle.lists.proofs.Prelude.{◌∙◌, sym, add-one}
use Rattle.filter_windows.proofs.Samples.{Since-sample, Since-gap}
use Rattle.filter_windows.proofs.last_gap.begin_next.Goals as goal

pub returns-then-is_gap : goal.returns-then-is_gap
returns-then-is_gap c =
    let a = c.args in
    Since-gap a.text.now a.p (a.p + 1) c.requires.0 (sym c.is_gap.ensures ∙ c.if-is_gap.true) (add-one a.p)

pub returns-else-is_gap : goal.returns-else-is_gap
returns-else-is_gap c =
    let a = c.args in
    Since-sample a.text.now a.p a.begin c.requires.0 (sym c.is_gap.ensures ∙ c.if-is_gap.false) c.requires.1
