-- `root_record` meets its contract: the words of the root are the same for every set that has a
-- pattern.
use Rattle.pattern_set.specs.PatternSet.{patterns_of}
use Rattle.pattern_set.proofs.IsSet.{set_good}
use Rattle.automaton_records.proofs.Root.{root_words}
use Rattle.automaton_records.proofs.root_record.Goals as goal

pub returns : goal.returns
returns c = let ws = c.args.set.now in root_words (patterns_of ws) (set_good ws c.requires.set) c.requires.nonzero
