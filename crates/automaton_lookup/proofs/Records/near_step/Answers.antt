-- `near_step` meets its contract: from the root every step leads to node 1 (`entry_root`).
use Rattle.lists.proofs.Prelude.{◌∙◌, ap, sym, ℕ}
use Rattle.automaton_lookup.specs.View.{patterns}
use Rattle.automaton_model.specs.Automaton.{entry_of}
use Rattle.automaton_model.proofs.Steps.{entry_root}
use Rattle.automaton_lookup.proofs.Words.{made_good}
use Rattle.automaton_lookup.proofs.Records.near_step.Goals as goal

pub returns-then-node-eq0 : goal.returns-then-node-eq0
returns-then-node-eq0 c =
    let m = c.args.self.now.begun in
    let ps = patterns c.args.self.now in
    sym (ap (λ (n : ℕ). entry_of ps n c.args.x) c.if-node-eq0.true ∙ entry_root ps (made_good m) m.filled c.args.x)
