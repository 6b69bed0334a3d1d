-- `output_of` meets its contract: the first node of the chain where a pattern ends is the first
-- node itself, or the first one of the chain of its failure link.
use Rattle.lists.proofs.Prelude.{arith}
use Rattle.automaton_lookup.specs.View.{patterns}
use Rattle.automaton_lookup.proofs.Words.{made_good}
use Rattle.automaton_records.proofs.Links.{output_own, output_next, failure_below}
use Rattle.lists.proofs.Prelude.{rules}
use Rattle.automaton_records.proofs.output_of.Goals as goal

pub output-requires : goal.output-requires
output-requires c =
    let b = failure_below (patterns c.args.node.now.records) (made_good c.args.node.now.records.begun) c.args.node.now.records.begun.filled
    c.args.node.now.records.made c.args.link (omega arith) (omega arith)
    c.requires.link_value.0 in
    search rules

pub returns-then-ends-eq0 : goal.returns-then-ends-eq0
returns-then-ends-eq0 c =
    output_next (patterns c.args.node.now.records) (made_good c.args.node.now.records.begun) c.args.node.now.records.begun.filled
    c.args.node.now.records.made c.args.ends c.args.link c.output.result (omega arith)
    (omega arith)
    c.requires.link_value.1 c.if-ends-eq0.true c.requires.link_value.0 c.output.ensures

pub returns : goal.returns
returns c =
    output_own (patterns c.args.node.now.records) (made_good c.args.node.now.records.begun) c.args.node.now.records.begun.filled c.args.node.now.records.made
    c.args.ends (omega arith) c.requires.link_value.1
    c.if-ends-eq0.false
