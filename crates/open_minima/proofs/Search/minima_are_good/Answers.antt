-- `minima_are_good` meets its contract: a state with more than 256 open minima, or with a wrong
-- end, is not good; with both ends right the order decides, as rising places that start among the
-- last 256 stay there.
use Rattle.std.specs.Prelude.{◌+◌, ◌≤◌}
use Rattle.lists.proofs.Prelude.{◌∙◌, sym, arith}
use Rattle.search_model.specs.Ring.{place_at}
use Rattle.open_minima.specs.Parts.{ring_of}
use Rattle.open_minima.proofs.Ways.{good_none, good_many, good_untaken, good_elsewhere, good_stale, good_ordered}
use Rattle.open_minima.proofs.Search.minima_are_good.Goals.{else-taken-gt256, then-taken-gt256+else-place_at-taken-2}
use Rattle.open_minima.proofs.Search.minima_are_good.Goals as goal

pub returns-then-n-eq0 : goal.returns-then-n-eq0
returns-then-n-eq0 c =
    good_none c.args.self.now.state.taken (ring_of c.args.self.now.state) c.if-n-eq0.true

pub returns-then-n-gt256 : goal.returns-then-n-gt256
returns-then-n-gt256 c =
    good_many c.args.self.now.state.taken (ring_of c.args.self.now.state) c.if-n-gt256.true

pub returns-then-taken-eq0 : goal.returns-then-taken-eq0
returns-then-taken-eq0 c =
    good_untaken c.args.self.now.state.taken (ring_of c.args.self.now.state) (omega (arith, c.if-n-eq0.false)) c.if-taken-eq0.true

pub returns-then-place_at-taken : goal.returns-then-place_at-taken
returns-then-place_at-taken c =
    good_elsewhere c.args.self.now.state.taken (ring_of c.args.self.now.state) (omega (arith, c.if-n-eq0.false))
    (λ e. c.if-place_at-taken.true (c.place_at.ensures ∙ e))

pub returns-then-place_at-taken-2 : goal.returns-then-place_at-taken-2
returns-then-place_at-taken-2 c =
    good_stale c.args.self.now.state.taken (ring_of c.args.self.now.state) (omega (arith, c.if-n-eq0.false))
    (omega (arith, c.place_at-then-taken-gt256.ensures, c.if-place_at-taken-2.true, c.if-taken-gt256.true))

pub returns : goal.returns
returns c =
    let l : c.args.self.now.state.taken ≤ place_at (ring_of c.args.self.now.state) 0 + 256 = elim c.if-taken-gt256.branch [
      | then-taken-gt256+else-place_at-taken-2 w ↦ omega (arith, w.place_at-then-taken-gt256.ensures, w.if-place_at-taken-2.false)
      | else-taken-gt256 w ↦ omega (arith, w.if-taken-gt256.false)
    ] in
    c.are_in_order.ensures
    ∙ good_ordered c.args.self.now.state.taken (ring_of c.args.self.now.state) (omega (arith, c.if-n-eq0.false))
    (omega (arith, c.if-taken-eq0.false))
    (sym c.place_at.ensures ∙ c.if-place_at-taken.false) l
