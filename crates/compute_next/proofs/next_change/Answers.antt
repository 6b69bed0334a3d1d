-- Where the distance at a place can be raised, this is the change; where the loop ends none can,
-- and the list is the last one.
use Rattle.std.specs.Prelude.{◌≡◌, ◌-◌, ◌<◌}
use Rattle.lists.proofs.Prelude.{sym, List, ℕ, suc, drop, arith}
use Rattle.compute_realization.specs.OpenDistances.{open_distances}
use Rattle.compute_realization.proofs.OpenDistances.{realizable-Led}
use Rattle.catalogue.proofs.Next.{next_iff, last_iff}
use Rattle.compute_next.specs.Change.{replaced}
use Rattle.compute_next.proofs.Carry.{Stuck, Stuck-none, Stuck-more, Stuck-IsLast, raised-IsNext}
use Rattle.compute_next.proofs.next_change.Goals as goal

-- what is from i on is behind the place i - 1
stuck-from : (ds : List ℕ) (i : ℕ) → 0 < i → Stuck (open_distances ds i) (drop i ds) → Stuck (open_distances ds (suc (i - 1))) (drop (suc (i - 1)) ds)
stuck-from ds i h s =
    let e : suc (i - 1) ≡ i = omega arith in
    rw e s

pub loop-place-init : goal.loop-place-init
loop-place-init c = Stuck-none c.args.ds.now

pub returns-in-Some-clause-list : goal.returns-in-Some-clause-list
returns-in-Some-clause-list c =
    let L = c.loop-place in
    let ds = c.args.ds.now in
    sym ((next_iff ds (replaced ds (L.place - 1) c.in-Some.distance)).1
    (raised-IsNext ds (L.place - 1) c.in-Some.distance (omega arith) (realizable-Led ds c.requires.1) c.in-Some.ensures
    (stuck-from ds L.place c.loop-place-test.true L.invariant)))

pub loop-place-preserved : goal.loop-place-preserved
loop-place-preserved c =
    let L = c.loop-place in
    let ds = c.args.ds.now in
    Stuck-more ds (L.place - 1) (omega arith) c.in_default.ensures (stuck-from ds L.place c.loop-place-test.true L.invariant)

pub returns-clause-list : goal.returns-clause-list
unfolding open_distances
returns-clause-list c =
    let L = c.loop-place in
    let ds = c.args.ds.now in
    let e : L.place ≡ 0 = omega arith in
    sym ((last_iff ds).1 (Stuck-IsLast ds (rw e at L.invariant)))
