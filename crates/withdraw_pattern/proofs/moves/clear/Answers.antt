-- The part is filled with zeros.
use Rattle.std.specs.Prelude.{◌-◌, ◌+◌, ◌≡◌}
use Rattle.lists.proofs.Prelude.{◌∙◌, ap, arith, drop, length, length-drop, length-replicate, length-take-le, replicate, take, ℕ}
use Rattle.withdraw_pattern.proofs.Replacing.{put}
use Rattle.withdraw_pattern.proofs.moves.clear.Goals as goal

pub returns : goal.returns
returns c =
    let a = c.args in
    let e : a.at + a.n - a.at ≡ a.n = omega arith in
    let part = drop a.at a.words.now in
    let l : length (take (a.at + a.n - a.at) part) ≡ a.n = length-take-le (a.at + a.n - a.at) part (omega (arith, length-drop a.at a.words.now)) ∙ e in
    put a.at a.n (a.at + a.n - a.at) a.words.now (replicate a.n 0) _ e (length-replicate a.n 0)
    (c.fill.ensures.after (λ y e. e) ∙ ap (λ (i : ℕ). replicate i 0) l)
