-- A place that is not above is the parent; one above is left by its distance, which was read.
use Rattle.std.specs.Prelude.{◌≡◌, ◌-◌}
use Rattle.lists.proofs.Prelude.{◌∙◌, sym, pos, le_z, get_or, arith, rules}
use Rattle.lists.proofs.LastBelow.{last_below_yes, last_below_end}
use Rattle.lists.proofs.Tables.{filled_at}
use Rattle.cartesian.specs.Cartesian.{distance_at}
use Rattle.cartesian.proofs.Seek.{jump_none, jump_some, distance_le}
use Rattle.compute_distances.proofs.find_parent.Goals.{Else-not_above}
use Rattle.compute_distances.proofs.find_parent.Goals as goal

pub returns-then-not_above : goal.returns-then-not_above
returns-then-not_above c =
    let xs = c.args.values.now in
    let found = last_below_yes (λ j. le_z (get_or xs j (pos 0)) (get_or xs c.args.i (pos 0))) c.loop-k.k c.loop-k-test.true (search rules) in
    omega (arith, found, c.loop-k.invariant.same, c.loop-k.invariant.within)

-- what was read is the distance at its place
linked : (c : Else-not_above) → get_or c.args.out.now (c.loop-k.k - 1) 0 ≡ distance_at c.args.values.now (c.loop-k.k - 1)
linked c = filled_at 0 (distance_at c.args.values.now) c.args.out.now c.args.i _ c.requires.out_value (omega arith)

pub returns-then-d-eq0 : goal.returns-then-d-eq0
returns-then-d-eq0 c =
    c.loop-k.invariant.same
    ∙ sym (jump_none _ _ _ _ c.loop-k-test.true (search rules) (linked (goal.at.returns-then-d-eq0 c).Else-not_above) c.if-d-eq0.true)

pub overflow_sub-k : goal.overflow_sub-k
overflow_sub-k c =
    omega (arith, linked (goal.at.overflow_sub-k c).Else-not_above, distance_le c.args.values.now (c.loop-k.k - 1))

pub loop-k-preserved : goal.loop-k-preserved
loop-k-preserved c = record {
  within = omega arith;
  same = c.loop-k.invariant.same
      ∙ jump_some _ _ _ _ c.loop-k-test.true (search rules) (linked (goal.at.loop-k-preserved c).Else-not_above) c.if-d-eq0.false;
}

pub returns : goal.returns
returns c =
    let xs = c.args.values.now in
    c.loop-k.invariant.same ∙ sym (last_below_end (λ j. le_z (get_or xs j (pos 0)) (get_or xs c.args.i (pos 0))) _ (omega arith))
