-- The three parts are those of the changed list, and what is behind them is as it was.
use Rattle.std.proofs.Common.{◌∙◌, ap, ℕ, arith, length-drop, length-take}
use Rattle.lists.proofs.Prelude.{replicate, length, length-set, length-append}
use Rattle.compute_next.proofs.Replaced.{overwritten}
use Rattle.compute_next.proofs.write_replaced.Goals as goal

pub returns : goal.returns
returns c =
    let a = c.args in
    let zeros = c.fill.ensures.after (λ y e. e) in
    rw c.copy_front.ensures
    (overwritten a.ds.now a.out.now a.change.place a.change.distance c.fill.new.self c.requires.0 (omega arith)
    (zeros ∙ ap (λ (n : ℕ). replicate n 0)
    (omega (arith, ap length c.copy_front.ensures, length-take {A = ℕ}, length-drop {A = ℕ}, length-set {A = ℕ}, length-append {A = ℕ}))))
