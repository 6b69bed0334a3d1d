-- What the loop has written and the hits from place p on make the hits of the block, and so do the
-- rises; where the samples begin is kept from place to place.
use Rattle.std.specs.Prelude.{◌≡◌, ◌+◌, ◌-◌}
use Rattle.lists.proofs.Prelude.{◌∙◌, ap, sym, subst, ℕ, take, add-one, arith}
use Rattle.matching.specs.Matching.{hits_at}
use Rattle.matching.specs.Rise.{rise_in}
use Rattle.filter_plan.specs.Plan.{text_fingerprint}
use Rattle.filter_windows.specs.Looks.{Since}
use Rattle.filter_windows.specs.Patterns.{patterns}
use Rattle.filter_passes.specs.Passes.{hits_from}
use Rattle.filter_passes.proofs.Lists.{hits_step, hits_end}
use Rattle.filter_passes.proofs.Written.{Written-start, written_room, part_room, Written-behind, written_end}
use Rattle.filter_passes.proofs.listing.write_block.Goals as goal

pub loop-p-init : goal.loop-p-init
loop-p-init c =
    let a = c.args in
    let ps = patterns a.tables.now.tables in (
      c.fingerprint_before-own.ensures,
      c.requires.first_le_end.3,
      Written-start (rise_in ps a.text.now) a.out.now a.rises.now (hits_from ps a.text.now a.first (a.end - a.first)) c.requires.first_in_bounds
          c.requires.first_in_bounds_2,
    )

pub write_place-to-requires-clause-room : goal.write_place-to-requires-clause-room
write_place-to-requires-clause-room c =
    let L = c.loop-p in
    let a = c.args in
    let ps = patterns a.tables.now.tables in
    let text = a.text.now in
    part_room (rise_in ps text) a.out.now L.out a.rises.now L.rises L.to (hits_from ps text a.first (a.end - a.first)) (hits_from ps text L.p (a.end - L.p))
    L.invariant.2 (hits_at ps text L.p) (hits_from ps text (L.p + 1) (a.end - (L.p + 1))) (hits_step ps text L.p a.end c.loop-p-test.true)

pub overflow_add-to : goal.overflow_add-to
overflow_add-to c =
    let L = c.loop-p in
    let a = c.args in
    let ps = patterns a.tables.now.tables in
    let text = a.text.now in
    let room =
    written_room (rise_in ps text) a.out.now L.out a.rises.now L.rises L.to (hits_from ps text a.first (a.end - a.first))
    (hits_from ps text L.p (a.end - L.p)) L.invariant.2 (hits_at ps text L.p) (hits_from ps text (L.p + 1) (a.end - (L.p + 1)))
    (hits_step ps text L.p a.end c.loop-p-test.true) in
    omega (arith, room.1, c.write_place-to.ensures.value)

pub loop-p-preserved : goal.loop-p-preserved
loop-p-preserved c =
    let L = c.loop-p in
    let a = c.args in
    let ps = patterns a.tables.now.tables in
    let text = a.text.now in
    let one = sym (add-one L.p) in
    let w = c.write_place-to in (
      c.own_next-own.ensures ∙ ap (λ (n : ℕ). text_fingerprint 17 (take n text)) one,
      subst (λ (n : ℕ). Since text n c.begin_next-since.result) one c.begin_next-since.ensures,
      Written-behind (rise_in ps text) a.out.now L.out a.rises.now L.rises L.to (hits_from ps text a.first (a.end - a.first))
          (hits_from ps text L.p (a.end - L.p)) L.invariant.2 (hits_at ps text L.p) (hits_from ps text (L.p + 1) (a.end - (L.p + 1)))
          (hits_step ps text L.p a.end c.loop-p-test.true) w.new.out w.new.rises w.result w.ensures.out_after w.ensures.rises_after w.ensures.value,
    )

pub returns : goal.returns
returns c =
    let L = c.loop-p in
    let a = c.args in
    let ps = patterns a.tables.now.tables in
    let text = a.text.now in
    let e : L.p ≡ a.end = omega (arith, c.loop-p-test.false) in
    let w =
    written_end (rise_in ps text) a.out.now L.out a.rises.now L.rises L.to (hits_from ps text a.first (a.end - a.first)) (hits_from ps text L.p (a.end - L.p))
    L.invariant.2 (hits_end ps text L.p a.end c.loop-p-test.false) in record {
      hits_value = w.0;
      out_after = w.1;
      rises_after = w.2;
      since = subst (λ (n : ℕ). Since text n L.since) e L.invariant.1;
    }
