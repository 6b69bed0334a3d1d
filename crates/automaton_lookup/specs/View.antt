-- What a view over the words of an automaton stands for.
use Rattle.pattern_set.specs.PatternSet.{PatternSet, patterns_of}
use Rattle.automaton_lookup.specs.declared.Records.{Records}

-- the patterns of its set
abbrev pub patterns : Records → PatternSet
patterns r = patterns_of r.set.now
