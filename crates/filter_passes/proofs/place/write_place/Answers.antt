-- The loop takes the likely patterns group by group; what it has written and the hits of those that
-- are left make the place's hits. The windows of a group are of one length, so the rise is one.
use Rattle.std.specs.Prelude.{◌≡◌, ◌++◌, ◌-◌, ◌<◌}
use Rattle.lists.proofs.Prelude.{◌∙◌, ap, sym, subst, List, ℕ, suc, sets, length, get_or, take, drop, w32, to_z, of_z, arith}
use Rattle.lists.proofs.Order.{back_i32}
use Rattle.bit_sets.specs.BitSets.{bits}
use Rattle.pattern_set.proofs.IsSet.{set_good}
use Rattle.matching.specs.Matching.{hits_at}
use Rattle.matching.specs.Rise.{rise_in}
use Rattle.filter_windows.specs.Groups.{HitGroup}
use Rattle.filter_windows.specs.Patterns.{patterns}
use Rattle.filter_windows.proofs.RankSets.{likely-groups}
use Rattle.filter_passes.specs.Passes.{rank_hits}
use Rattle.filter_passes.proofs.Places.{length-rank_hits}
use Rattle.filter_passes.proofs.GroupHits.{hits_of, likely_all, none_all, group_first, group_rises, group_within}
use Rattle.filter_passes.proofs.Written.{Written, Written-start, written_room, part_room, Written-behind, written_end}
use Rattle.filter_passes.proofs.place.write_place.Goals.{In-Some}
use Rattle.filter_passes.proofs.place.write_place.Goals as goal

-- the group has a hit
group : (c : In-Some) →
    let t = c.args.tables.now.tables in
    let w = t.windows in
    let g = c.in-Some.group in
    (g.rank < length (patterns t))
    × HitGroup (patterns t) (take (suc c.args.p) c.args.text.now) c.loop-group.rest (get_or w.equal.now g.rank 0) g.length g.rest
group c = c.in-Some.ensures

-- its hits come first of those left
first : (c : In-Some) →
    let t = c.args.tables.now.tables in
    let w = t.windows in
    let g = c.in-Some.group in
    hits_of (patterns t) c.args.text.now c.args.p w.numbers.now c.loop-group.rest
    ≡ rank_hits w.numbers.now c.args.p (bits (get_or w.equal.now g.rank 0)) ++ hits_of (patterns t) c.args.text.now c.args.p w.numbers.now g.rest
first c =
    let t = c.args.tables.now.tables in
    let w = t.windows in
    let g = c.in-Some.group in
    group_first (patterns t) c.args.text.now c.args.p w.numbers.now (set_good w.set.now w.good) w.check.ranks
    c.loop-group.rest (get_or w.equal.now g.rank 0) g.rank g.length g.rest (w.check.equals g.rank (group c).0) (group c).1

pub loop-group-init : goal.loop-group-init
loop-group-init c =
    let a = c.args in
    let t = a.tables.now.tables in
    let w = t.windows in
    let ps = patterns t in
    let f = rise_in ps a.text.now in
    let all = hits_at ps a.text.now a.p in (
      subst (λ (l : List (ℕ × ℕ)). Written f a.out.now a.out.now a.rises.now a.rises.now 0 all l)
          (sym (likely_all ps a.text.now a.p w.numbers.now (set_good w.set.now w.good) w.check.ranks a.likely c.requires.set_of))
          (Written-start f a.out.now a.rises.now all c.requires.room.0 c.requires.room.1),
      likely-groups ps (take (suc a.p) a.text.now) a.likely c.requires.set_of,
    )

pub rise_in-group_rise-requires : goal.rise_in-group_rise-requires
rise_in-group_rise-requires c =
    let a = c.args in
    let t = a.tables.now.tables in
    let w = t.windows in
    let g = c.in-Some.group in
    let k = group (goal.at.rise_in-group_rise-requires c).In-Some in (
      c.requires.p_in_bounds.0,
      g.some,
      group_within (patterns t) a.text.now a.p w.numbers.now (set_good w.set.now w.good) w.check.ranks
          c.loop-group.rest (get_or w.equal.now g.rank 0) g.rank g.length g.rest (w.check.equals g.rank k.0) k.1 k.0 c.requires.p_in_bounds.0,
    )

pub write_group-to-requires-clause-room : goal.write_group-to-requires-clause-room
write_group-to-requires-clause-room c =
    let L = c.loop-group in
    let a = c.args in
    let t = a.tables.now.tables in
    let w = t.windows in
    let ps = patterns t in
    let g = c.in-Some.group in
    let ranks = bits (get_or w.equal.now g.rank 0) in
    let room =
    part_room (rise_in ps a.text.now) a.out.now L.out a.rises.now L.rises L.to (hits_at ps a.text.now a.p) (hits_of ps a.text.now a.p w.numbers.now L.rest)
    L.invariant.0 (rank_hits w.numbers.now a.p ranks) (hits_of ps a.text.now a.p w.numbers.now g.rest)
    (first (goal.at.write_group-to-requires-clause-room c).In-Some) in
    rw (length-rank_hits w.numbers.now a.p ranks) at room

pub overflow_add-to : goal.overflow_add-to
overflow_add-to c =
    let L = c.loop-group in
    let a = c.args in
    let t = a.tables.now.tables in
    let w = t.windows in
    let ps = patterns t in
    let g = c.in-Some.group in
    let ranks = bits (get_or w.equal.now g.rank 0) in
    let room =
    written_room (rise_in ps a.text.now) a.out.now L.out a.rises.now L.rises L.to (hits_at ps a.text.now a.p) (hits_of ps a.text.now a.p w.numbers.now L.rest)
    L.invariant.0 (rank_hits w.numbers.now a.p ranks) (hits_of ps a.text.now a.p w.numbers.now g.rest) (first (goal.at.overflow_add-to c).In-Some) in
    omega (arith, room.1, length-rank_hits w.numbers.now a.p ranks, c.write_group-to.ensures.value)

pub loop-group-preserved : goal.loop-group-preserved
loop-group-preserved c =
    let L = c.loop-group in
    let a = c.args in
    let t = a.tables.now.tables in
    let w = t.windows in
    let ps = patterns t in
    let g = c.in-Some.group in
    let f = rise_in ps a.text.now in
    let ranks = bits (get_or w.equal.now g.rank 0) in
    let k = group (goal.at.loop-group-preserved c).In-Some in
    let one =
    group_rises ps a.text.now a.p w.numbers.now (set_good w.set.now w.good) w.check.ranks L.rest (get_or w.equal.now g.rank 0) g.rank g.length g.rest
    (w.check.equals g.rank k.0) k.1 (to_z w32 (of_z w32 c.rise_in-group_rise.result))
    (back_i32 (record { sfits = c.rise_in-group_rise.type_inv }) ∙ c.rise_in-group_rise.ensures) in (
      Written-behind f a.out.now L.out a.rises.now L.rises L.to (hits_at ps a.text.now a.p) (hits_of ps a.text.now a.p w.numbers.now L.rest) L.invariant.0
          (rank_hits w.numbers.now a.p ranks) (hits_of ps a.text.now a.p w.numbers.now g.rest) (first (goal.at.loop-group-preserved c).In-Some)
          c.write_group-to.new.out c.write_group-to.new.rises c.write_group-to.result c.write_group-to.ensures.out_after
          (c.write_group-to.ensures.rises_after ∙ ap (sets (take (length L.rises - L.to) (drop L.to L.rises)) 0) one)
          (c.write_group-to.ensures.value ∙ sym (length-rank_hits w.numbers.now a.p ranks)),
      k.1.groups,
    )

pub returns : goal.returns
returns c =
    let L = c.loop-group in
    let a = c.args in
    let t = a.tables.now.tables in
    let w = t.windows in
    let ps = patterns t in
    let e =
    written_end (rise_in ps a.text.now) a.out.now L.out a.rises.now L.rises L.to (hits_at ps a.text.now a.p)
    (hits_of ps a.text.now a.p w.numbers.now L.rest) L.invariant.0
    (none_all ps a.text.now a.p w.numbers.now (set_good w.set.now w.good) w.check.ranks L.rest c.in_default.ensures) in record {
      value = e.0;
      out_after = e.1;
      rises_after = e.2;
    }
