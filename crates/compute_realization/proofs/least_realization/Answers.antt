-- From the end to the front: the values from place i on are written, and next holds the next lower
-- place of each. The value at i - 1 is one more than the value at its next lower place, which is
-- written already, or 0 where there is none.
use Rattle.std.specs.Prelude.{◌≡◌, ◌-◌, ◌+ℤ◌}
use Rattle.lists.proofs.Prelude.{◌∙◌, ap, sym, refl, ℤ, pos, get_or, length-set, arith, w32, to_z}
use Rattle.lists.proofs.Prelude.{of_z}
use Rattle.lists.proofs.Order.{back_i32}
use Rattle.realization.specs.Realization.{least_realization}
use Rattle.compute_realization.proofs.NextLower.{least_more, least_zero}
use Rattle.compute_realization.proofs.Values.{values_none, values_more, values_at, values_room, next_more}
use Rattle.compute_realization.proofs.least_realization.Goals as goal

pub loop-i-init : goal.loop-i-init
loop-i-init c =
    record {
      values = values_none _ _ c.requires.ds_value;
      sized_next = refl;
      nexts = λ k a b. absurd (let z : ⊥ = omega arith in z);
    }

pub next_lower-j-requires : goal.next_lower-j-requires
next_lower-j-requires c =
    let L = c.loop-i in
    record {
      i_in_bounds = (omega arith, omega arith);
      by_index = λ k a b. L.invariant.nexts k (omega arith) b;
    }

pub one_more-requires : goal.one_more-requires
one_more-requires c =
    let L = c.loop-i in
    let p = c.next_lower-j.ensures in (
      omega (arith, c.if-j-n.true),
      values_room _ _ c.requires.ds_value L.out L.i _ (omega (arith, p.after)) c.if-j-n.true c.requires.ds_len_bound.1 c.requires.ds_len_bound.0
          L.invariant.values,
    )

pub loop-i-preserved-then-j-n : goal.loop-i-preserved-then-j-n
loop-i-preserved-then-j-n c =
    let L = c.loop-i in
    let p = c.next_lower-j.ensures in
    let j = c.next_lower-j.result in
    let t = c.if-j-n.true in
    let e = c.requires.ds_value in
    let v : to_z w32 (of_z w32 c.one_more.result) ≡ get_or (least_realization c.args.ds.now) (L.i - 1) (pos 0) =
    back_i32 (record { sfits = c.one_more.type_inv })
    ∙ c.one_more.ensures
    ∙ ap (λ (z : ℤ). z +ℤ pos 1)
    (values_at c.args.ds.now c.args.out.now e L.out L.i j (omega (arith, p.after)) t c.requires.ds_len_bound.1 L.invariant.values)
    ∙ sym (least_more c.args.ds.now (L.i - 1) j e (omega arith) p t) in
    record {
      values = values_more c.args.ds.now c.args.out.now e L.out L.i _ (omega arith) (omega arith) c.requires.ds_len_bound.1 L.invariant.values v;
      sized_next = length-set L.next (L.i - 1) _ ∙ L.invariant.sized_next;
      nexts = next_more c.args.ds.now L.next L.i j (omega arith) (omega arith) L.invariant.nexts p;
    }

pub loop-i-preserved : goal.loop-i-preserved
loop-i-preserved c =
    let L = c.loop-i in
    let p = c.next_lower-j.ensures in
    let j = c.next_lower-j.result in
    let e = c.requires.ds_value in
    let v = sym (least_zero c.args.ds.now (L.i - 1) j e (omega arith) p c.if-j-n.false) in
    record {
      values = values_more c.args.ds.now c.args.out.now e L.out L.i _ (omega arith) (omega arith) c.requires.ds_len_bound.1 L.invariant.values v;
      sized_next = length-set L.next (L.i - 1) _ ∙ L.invariant.sized_next;
      nexts = next_more c.args.ds.now L.next L.i j (omega arith) (omega arith) L.invariant.nexts p;
    }

pub returns : goal.returns
returns c =
    let L = c.loop-i in
    let z : L.i ≡ 0 = omega arith in
    rw z at L.invariant.values
