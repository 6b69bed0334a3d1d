-- The patterns of the set that tables are filled from.
use Rattle.pattern_set.specs.PatternSet.{PatternSet, patterns_of}
use Rattle.filter_windows.specs.declared.tables.Tables.{Tables}

abbrev pub patterns : Tables → PatternSet
patterns tables = patterns_of tables.windows.set.now
