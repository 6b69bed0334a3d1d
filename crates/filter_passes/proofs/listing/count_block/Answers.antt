-- The loop's count and the hits from place p on make the hits of the block; where the samples begin
-- is kept from place to place.
use Rattle.std.specs.Prelude.{◌≡◌, ◌+◌, ◌-◌}
use Rattle.lists.proofs.Prelude.{◌∙◌, ap, sym, subst, ℕ, length, take, add-one, arith}
use Rattle.bit_sets.specs.BitSets.{bits}
use Rattle.pattern_set.proofs.IsSet.{set_good}
use Rattle.filter_plan.specs.Plan.{text_fingerprint}
use Rattle.filter_windows.specs.Looks.{Since}
use Rattle.filter_windows.specs.Patterns.{patterns}
use Rattle.filter_passes.specs.Passes.{hits_from}
use Rattle.filter_passes.proofs.Lists.{hits_end, hits_from-le}
use Rattle.filter_passes.proofs.Written.{place_length}
use Rattle.filter_passes.proofs.listing.count_block.Goals.{After-hits_at}
use Rattle.filter_passes.proofs.listing.count_block.Goals as goal

-- the hits from place p on are those found there, and those behind it
here : (c : After-hits_at) →
    let ps = patterns c.args.tables.now in
    let p = c.loop-p.p in
    length (hits_from ps c.args.text.now p (c.args.end - p))
    ≡ length (bits c.hits_at.result) + length (hits_from ps c.args.text.now (p + 1) (c.args.end - (p + 1)))
here c =
    let t = c.args.tables.now in
    place_length (patterns t) c.args.text.now c.loop-p.p c.args.end c.loop-p-test.true (set_good t.windows.set.now t.windows.good)
    t.windows.numbers.now c.hits_at.result t.filled.check.ranks c.hits_at.ensures

pub overflow_add-count : goal.overflow_add-count
overflow_add-count c =
    let a = c.args in
    let t = a.tables.now in
    omega (
      arith,
      c.size-count.ensures,
      here (goal.at.overflow_add-count c).After-hits_at,
      c.loop-p.invariant.2,
      c.requires.first_le_end.2,
      hits_from-le (patterns t) a.text.now a.first (a.end - a.first) (set_good t.windows.set.now t.windows.good),
    )

pub loop-p-preserved : goal.loop-p-preserved
loop-p-preserved c =
    let text = c.args.text.now in
    let one = sym (add-one c.loop-p.p) in (
      c.own_next-own.ensures ∙ ap (λ (n : ℕ). text_fingerprint 17 (take n text)) one,
      subst (λ (n : ℕ). Since text n c.begin_next-since.result) one c.begin_next-since.ensures,
      omega (arith, c.size-count.ensures, here (goal.at.loop-p-preserved c).After-hits_at, c.loop-p.invariant.2),
    )

pub returns-clause-hits_value : goal.returns-clause-hits_value
returns-clause-hits_value c =
    omega (arith, c.loop-p.invariant.2, ap length (hits_end (patterns c.args.tables.now) c.args.text.now c.loop-p.p c.args.end c.loop-p-test.false))
