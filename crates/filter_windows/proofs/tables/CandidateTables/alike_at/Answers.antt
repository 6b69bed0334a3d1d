-- What the tables have for the set fingerprint.
use Rattle.lists.proofs.Prelude.{subst, ℕ, arith}
use Rattle.pattern_set.proofs.IsSet.{set_good}
use Rattle.filter_windows.specs.Looks.{Alike}
use Rattle.filter_windows.specs.Patterns.{patterns}
use Rattle.filter_windows.proofs.Lookups.{set_fingerprint_length}
use Rattle.filter_windows.proofs.tables.CandidateTables.alike_at.Goals as goal

pub set_fingerprint-requires : goal.set_fingerprint-requires
set_fingerprint-requires c =
    let s = c.args.self.now in
    let h = set_fingerprint_length (patterns s.tables.now) s.span (set_good s.tables.now.windows.set.now s.tables.now.windows.good) s.span_is in
    (omega (arith, h.0), omega (arith, h.1))

pub returns : goal.returns
returns c = λ text e.
    subst (λ (k : ℕ). Alike c.args.self.now.low.now c.args.self.now.high.now k c.by_fingerprint.result) (c.set_fingerprint.ensures.value text e)
    c.by_fingerprint.ensures
