-- The loop takes the ranks left lowest first, each with the ranks of equal patterns; those it has
-- taken have no hit. Where one has a hit, those of its length that are left are its equal patterns
-- or have none.
use Rattle.std.specs.Prelude.{◌≡◌, ◌<◌, ◌≤◌}
use Rattle.lists.proofs.Prelude.{◌∙◌, ap, sym, [], ℕ, suc, T, length, get_or, take, arith}
use Rattle.lists.proofs.Tests.{T-true}
use Rattle.pattern_set.proofs.IsSet.{set_good}
use Rattle.bit_sets.specs.BitSets.{bit_at}
use Rattle.bit_sets.proofs.Laws.{lowest_in, lowest_le}
use Rattle.filter_plan.specs.Plan.{is_likely, is_hit}
use Rattle.filter_plan.proofs.HitOrder.{good_number, hit_order-lt, length-hit_order}
use Rattle.filter_tables.specs.Tables.{ranked}
use Rattle.pattern_set.specs.PatternSet.{patterns_of}
use Rattle.filter_windows.proofs.Groups.{Passed-end, Passed-miss, miss_less, hit_group}
use Rattle.filter_windows.proofs.tables.WindowTables.next_group.Goals.{After-has_hit, After-lowest-r, After-pattern_length-m}
use Rattle.filter_windows.proofs.tables.WindowTables.next_group.Goals as goal

-- the rank taken is left
taken : (l : After-lowest-r) → T (bit_at l.loop-rest.rest l.lowest-r.result)
taken l = lowest_in l.loop-rest.rest l.lowest-r.result l.lowest-r.ensures.1

-- it is that of a likely pattern of the set, whose number the table has
rank : (l : After-lowest-r) →
    let ps = patterns_of l.args.self.now.set.now in
    let r = l.lowest-r.result in
    let j = get_or l.args.self.now.numbers.now r 0 in
    (r < length ps)
    × (j < length ps)
    × (get_or ps j [] ≡ ranked ps r)
    × T (is_likely (take (suc l.args.p) l.args.text.now) (ranked ps r))
rank l =
    let t = l.args.self.now in
    let ps = patterns_of t.set.now in
    let r = l.lowest-r.result in
    let g = l.loop-rest.invariant.groups r l.lowest-r.ensures.0 (taken l) in
    let number = t.check.ranks r g.0 in
    let inside = hit_order-lt ps r (omega (arith, g.0, length-hit_order ps (set_good t.set.now t.good))) in
    (g.0, omega (arith, number, inside), ap (λ (n : ℕ). get_or ps n []) number, g.1)

-- whether it has a hit
answer : (c : After-has_hit) → is_hit (take (suc c.args.p) c.args.text.now) (ranked (patterns_of c.args.self.now.set.now) c.lowest-r.result) ≡ c.has_hit.result
answer c =
    sym (c.has_hit.ensures ∙ ap (is_hit (take (suc c.args.p) c.args.text.now)) (rank (goal.at.After-has_hit c).After-lowest-r).2)

-- the length of its pattern
long : (c : After-pattern_length-m) →
    let ps = patterns_of c.args.self.now.set.now in
    (c.pattern_length-m.result ≡ length (ranked ps c.lowest-r.result)) × (1 ≤ c.pattern_length-m.result)
long c =
    let t = c.args.self.now in
    let ps = patterns_of t.set.now in
    let k = rank (goal.at.After-pattern_length-m c).After-lowest-r in
    (c.pattern_length-m.ensures ∙ ap length k.2, omega (arith, c.pattern_length-m.ensures, (good_number ps _ (set_good t.set.now t.good) k.1).0))

pub has_hit-requires-clause-p_in_bounds : goal.has_hit-requires-clause-p_in_bounds
has_hit-requires-clause-p_in_bounds c = (c.requires.p_in_bounds, (rank (goal.at.has_hit-requires-clause-p_in_bounds c).After-lowest-r).1)

pub has_hit-requires-clause-t : goal.has_hit-requires-clause-t
has_hit-requires-clause-t c =
    let k = rank (goal.at.has_hit-requires-clause-t c).After-lowest-r in
    rw k.2 k.3

pub pattern_length-m-requires-clause-j_in_bounds : goal.pattern_length-m-requires-clause-j_in_bounds
pattern_length-m-requires-clause-j_in_bounds c = (rank (goal.at.pattern_length-m-requires-clause-j_in_bounds c).After-lowest-r).1

pub overflow_sub-m : goal.overflow_sub-m
overflow_sub-m c = omega (arith, (long (goal.at.overflow_sub-m c).After-pattern_length-m).1)

-- the group of the rank taken has a hit
pub returns-then-has_hit : goal.returns-then-has_hit
returns-then-has_hit c =
    let L = c.loop-rest in
    let t = c.args.self.now in
    let r = c.lowest-r.result in
    let k = rank (goal.at.returns-then-has_hit c).After-lowest-r in (
      k.0,
      hit_group (patterns_of t.set.now) (take (suc c.args.p) c.args.text.now) c.args.left L.rest r (get_or t.equal.now r 0)
          (set_good t.set.now t.good) L.invariant c.lowest-r.ensures.0 (taken (goal.at.returns-then-has_hit c).After-lowest-r)
          (t.check.equals r k.0)
          c.fitting.result c.pattern_length-m.result t.fits.now t.by_place (long (goal.at.returns-then-has_hit c).After-pattern_length-m).0
          c.fitting.ensures (λ j h. lowest_le L.rest r j c.lowest-r.ensures.1 h)
          (T-true _ (answer (goal.at.returns-then-has_hit c).After-has_hit ∙ c.if-has_hit.true)) c.fitting.type_inv,
    )

pub loop-rest-smaller : goal.loop-rest-smaller
loop-rest-smaller c =
    let L = c.loop-rest in
    let t = c.args.self.now in
    let r = c.lowest-r.result in
    miss_less (patterns_of t.set.now) (take (suc c.args.p) c.args.text.now) c.args.left L.rest r (get_or t.equal.now r 0)
    (set_good t.set.now t.good) L.invariant c.lowest-r.ensures.0 (taken (goal.at.loop-rest-smaller c).After-lowest-r)
    (t.check.equals r (rank (goal.at.loop-rest-smaller c).After-lowest-r).0)
    c.without-rest.result c.without-rest.ensures c.without-rest.type_inv

pub loop-rest-preserved : goal.loop-rest-preserved
loop-rest-preserved c =
    let L = c.loop-rest in
    let t = c.args.self.now in
    let r = c.lowest-r.result in
    Passed-miss (patterns_of t.set.now) (take (suc c.args.p) c.args.text.now) c.args.left L.rest r (get_or t.equal.now r 0)
    (set_good t.set.now t.good) L.invariant c.lowest-r.ensures.0 (taken (goal.at.loop-rest-preserved c).After-lowest-r)
    (t.check.equals r (rank (goal.at.loop-rest-preserved c).After-lowest-r).0)
    c.without-rest.result c.without-rest.ensures c.without-rest.type_inv (answer (goal.at.loop-rest-preserved c).After-has_hit ∙ c.if-has_hit.false)

pub returns : goal.returns
returns c = Passed-end (patterns_of c.args.self.now.set.now) (take (suc c.args.p) c.args.text.now) c.args.left c.loop-rest.rest c.loop-rest.invariant
    c.loop-rest-test.false

pub invariant_of-result : goal.invariant_of-result
invariant_of-result c = record { few = c.lowest-r.ensures.0; some = (long (goal.at.invariant_of-result c).After-pattern_length-m).1 }
