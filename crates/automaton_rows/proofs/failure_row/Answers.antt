use Rattle.lists.proofs.Prelude.{arith}
use Rattle.automaton_lookup.specs.View.{patterns}
use Rattle.automaton_lookup.proofs.Words.{made_good}
use Rattle.automaton_model.proofs.Steps.{entry_small}
use Rattle.automaton_rows.proofs.failure_row.Goals as goal

pub overflow_add-row : goal.overflow_add-row
overflow_add-row c =
    let made = c.args.records.now.begun in
    omega (
      arith,
      c.near_step.ensures,
      entry_small (patterns c.args.records.now) (made_good made) made.filled c.args.link c.loop-x.x (omega (arith, made.within, c.requires)),
    )
