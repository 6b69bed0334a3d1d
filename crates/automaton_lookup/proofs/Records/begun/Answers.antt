use Rattle.automaton_lookup.proofs.Words.{made_reads}
use Rattle.automaton_lookup.proofs.Records.begun.Goals as goal

pub invariant_of-result-clause-reads : goal.invariant_of-result-clause-reads
invariant_of-result-clause-reads c = made_reads c.requires
