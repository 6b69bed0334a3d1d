-- There are at most 64 patterns and 1,048,576 places.
use Rattle.std.specs.Prelude.{◌*◌}
use Rattle.lists.proofs.Prelude.{ap, ℕ, leb, mul-le-mul_right, arith}
use Rattle.set_access.proofs.Laws.{count_le}
use Rattle.filter_search.proofs.takes_all.Goals as goal

pub overflow_mul-result : goal.overflow_mul-result
overflow_mul-result c =
    omega (
      arith,
      mul-le-mul_right c.pattern_count-k.result c.requires.n_bound,
      c.pattern_count-k.ensures,
      count_le c.args.tables.now.tables.windows.set.now
          c.args.tables.now.tables.windows.good,
    )

pub overflow_mul-result-2 : goal.overflow_mul-result-2
overflow_mul-result-2 c =
    omega (
      arith,
      mul-le-mul_right c.pattern_count-k.result c.requires.n_bound,
      c.pattern_count-k.ensures,
      count_le c.args.tables.now.tables.windows.set.now
          c.args.tables.now.tables.windows.good,
    )

pub returns : goal.returns
returns c = ap (λ (k : ℕ). leb (2 * (c.args.n * k)) c.args.room) c.pattern_count-k.ensures
