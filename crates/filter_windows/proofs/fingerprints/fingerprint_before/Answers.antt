-- The loop keeps the bits of the places it has passed; of 17 values no earlier ones count.
use Rattle.std.specs.Prelude.{◌≡◌, ◌+◌, ◌-◌, ◌*◌, ◌%◌}
use Rattle.lists.proofs.Prelude.{◌∙◌, ap₂, ℕ, arith}
use Rattle.filter_windows.proofs.Rolling.{fingerprint_start, fingerprint_more}
use Rattle.filter_windows.proofs.fingerprints.fingerprint_before.Goals as goal

pub loop-p-init : goal.loop-p-init
loop-p-init c = (omega arith, let e : c.saturating_sub-p.result ≡ c.args.end - 16 = omega arith in rw e (fingerprint_start c.args.text.now (c.args.end - 16)))

pub loop-p-preserved : goal.loop-p-preserved
loop-p-preserved c =
    let L = c.loop-p in (
      omega (arith, c.roll-fingerprint.ensures),
      c.roll-fingerprint.ensures
          ∙ ap₂ (λ (k b : ℕ). (k * 2 + b) % 65536) L.invariant.1 c.new_bit.ensures.0
          ∙ fingerprint_more c.args.text.now (c.args.end - 16) L.p (omega arith) (omega arith) (omega arith),
    )
