-- What the words from here on say decides.
use Rattle.std.specs.Prelude.{◌≡◌}
use Rattle.lists.proofs.Prelude.{drop, all}
use Rattle.filter_checks.specs.Comparisons.{passes_right}
use Rattle.filter_checks.proofs.check.passes_right.Given as goal

abbrev pub invariant-loop-word : goal.invariant-loop-word
invariant-loop-word l = all (passes_right l.window) (drop l.word-index l.words) ≡ all (passes_right l.window) l.words
