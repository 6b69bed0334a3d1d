-- Nothing is open before the first place; above 0 is 1; above another distance is what the place
-- that it leads to leads to, if anything.
use Rattle.lists.proofs.Prelude.{refl, get_or, arith}
use Rattle.compute_next.proofs.Farther.{raised_first, raised_one, led, raised_none, parent_le, raised_more}
use Rattle.compute_next.proofs.raised.Goals as goal

pub returns-then-i-eq0 : goal.returns-then-i-eq0
returns-then-i-eq0 c = let a = c.args in raised_first a.ds.now a.i (get_or a.ds.now a.i 0) c.if-i-eq0.true

pub returns-then-d-eq0 : goal.returns-then-d-eq0
returns-then-d-eq0 c =
    let a = c.args in
    raised_one a.ds.now a.i (get_or a.ds.now a.i 0) c.if-i-eq0.false c.if-d-eq0.true

pub overflow_sub-e : goal.overflow_sub-e
overflow_sub-e c =
    let a = c.args in
    omega (arith, (led a.ds.now a.i _ c.requires.2 c.requires.0 refl c.if-d-eq0.false).0)

pub returns-then-e-eq0 : goal.returns-then-e-eq0
returns-then-e-eq0 c =
    let a = c.args in
    raised_none a.ds.now a.i _ c.requires.2 c.requires.0 refl c.if-d-eq0.false _ refl c.if-e-eq0.true

pub overflow_add-result : goal.overflow_add-result
overflow_add-result c =
    let a = c.args in
    let le = (led a.ds.now a.i _ c.requires.2 c.requires.0 refl c.if-d-eq0.false).0 in
    let more = parent_le a.ds.now a.i _ c.requires.2 c.requires.0 refl c.if-d-eq0.false _ refl in
    record { fits = omega (arith, le, more, c.requires.0, c.requires.1) }

pub returns : goal.returns
returns c =
    let a = c.args in
    raised_more a.ds.now a.i _ c.requires.2 c.requires.0 refl c.if-d-eq0.false _ refl c.if-e-eq0.false
