-- `is_eight` meets its contract: the loop keeps that the first i words are the same (`Alike`).
use Rattle.std.specs.Prelude.{◌≡◌}
use Rattle.lists.proofs.Prelude.{sym, subst, ℕ, arith}
use Rattle.automaton.proofs.EightWords.{Alike, Alike-more, eight_same, eight_differ}
use Rattle.automaton.proofs.checking.is_eight.Goals as goal

pub loop-i-init : goal.loop-i-init
loop-i-init c = λ a l. absurd (let z : ⊥ = omega arith in z)

pub returns-then-words-at : goal.returns-then-words-at
returns-then-words-at c =
    let a = c.args in
    sym (eight_differ a.words.now a.wanted.now a.at c.loop-i.i c.loop-i-test.true c.if-words-at.true)

pub loop-i-preserved : goal.loop-i-preserved
loop-i-preserved c =
    let a = c.args in
    let L = c.loop-i in
    Alike-more a.words.now a.wanted.now a.at L.i L.invariant c.if-words-at.false

pub returns : goal.returns
returns c =
    let L = c.loop-i in
    let a = c.args in
    let e : L.i ≡ 8 = omega (arith, c.loop-i-test.false) in
    sym
    (eight_same a.words.now a.wanted.now a.at c.requires (omega arith)
    (subst (λ (n : ℕ). Alike a.words.now a.wanted.now a.at n) e L.invariant))
