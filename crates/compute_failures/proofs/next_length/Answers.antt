-- `next_length` meets its contract: m is always the length of a tail that fits, and no longer one
-- leads to the answer (`Candidate`). The next shorter such tail is the longest of this tail itself,
-- which `out` has. The measure is m.
use Rattle.lists.proofs.Prelude.{◌∙◌, sym, arith}
use Rattle.lists.proofs.Tests.{T-true}
use Rattle.realization.specs.Realization.{realizable}
use Rattle.compute_failures.proofs.Laws.{search_one, search_first, search_yes, search_no, search_end, failure_lt, filled}
use Rattle.compute_failures.proofs.next_length.Goals as goal

pub returns-then-i-eq0 : goal.returns-then-i-eq0
returns-then-i-eq0 c = search_one c.args.ds.now c.args.i c.if-i-eq0.true

pub loop-m-init : goal.loop-m-init
loop-m-init c =
    let a = c.args in
    let z = c.if-i-eq0.false in
    rw (filled a.ds.now a.out.now a.i a.i c.requires.out_value (omega arith) (omega arith))
    (search_first a.ds.now a.i (T-true (realizable a.ds.now) c.requires.ds_value) (omega arith) c.requires.i_in_bounds.0)

pub returns-then-agrees : goal.returns-then-agrees
returns-then-agrees c =
    let ds = c.args.ds.now in
    search_yes ds c.args.i c.loop-m.m (T-true (realizable ds) c.requires.ds_value) c.requires.i_in_bounds.0
    c.loop-m.invariant (sym c.agrees.ensures ∙ c.if-agrees.true)

pub loop-m-smaller : goal.loop-m-smaller
loop-m-smaller c =
    let a = c.args in
    let L = c.loop-m in
    omega (
      arith,
      filled a.ds.now a.out.now a.i L.m c.requires.out_value c.loop-m-test.true (omega (arith, L.invariant.proper)),
      failure_lt a.ds.now L.m c.loop-m-test.true,
    )

pub loop-m-preserved : goal.loop-m-preserved
loop-m-preserved c =
    let ds = c.args.ds.now in
    let L = c.loop-m in
    rw (filled ds c.args.out.now c.args.i L.m c.requires.out_value c.loop-m-test.true (omega (arith, L.invariant.proper)))
    (search_no ds c.args.i L.m (T-true (realizable ds) c.requires.ds_value) c.requires.i_in_bounds.0 c.loop-m-test.true L.invariant
    (sym c.agrees.ensures ∙ c.if-agrees.false))

pub returns : goal.returns
returns c =
    let ds = c.args.ds.now in
    search_end ds c.args.i c.loop-m.m (T-true (realizable ds) c.requires.ds_value) c.requires.i_in_bounds.0 c.loop-m-test.false c.loop-m.invariant
