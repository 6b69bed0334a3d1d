use Rattle.lists.proofs.Prelude.{◌∙◌, ap₂, [], ℕ, get_or, arith}
use Rattle.pattern_set.specs.PatternSet.{PatternSet}
use Rattle.automaton_model.proofs.Order.{order-lt}
use Rattle.automaton_lookup.specs.View.{patterns}
use Rattle.automaton_lookup.proofs.Records.pattern_at.Goals as goal

pub pattern-requires : goal.pattern-requires
pattern-requires c = rw c.of-set.ensures (omega (arith, order-lt (patterns c.args.self.now) c.args.i c.requires, c.pattern_in_order-j.ensures))

pub returns : goal.returns
returns c =
    c.pattern.ensures.pattern ∙ ap₂ (λ (ps : PatternSet) (j : ℕ). get_or ps j []) c.of-set.ensures c.pattern_in_order-j.ensures
