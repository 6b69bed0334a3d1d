-- The lines of the hits that are taken stand at the front of the buffer.
use Rattle.std.specs.Prelude.{◌≡◌, ◌*◌, ◌≤◌}
use Rattle.lists.proofs.Prelude.{length}
use Rattle.pattern_set.specs.PatternSet.{patterns_of}
use Rattle.matching.specs.HitsIn.{hits_in}
use Rattle.hits_output.specs.Output.{hit_lines}
use Rattle.hits_output.proofs.Lines.{written}
use Rattle.hits_output.proofs.write_lines.Given as goal

abbrev pub invariant-loop-i : goal.invariant-loop-i
invariant-loop-i l =
    (l.at ≡ length (hit_lines (patterns_of l.set) (hits_in l.hits l.i))) × (l.at ≤ 63 * l.i)
    × (l.out ≡ written (hit_lines (patterns_of l.set) (hits_in l.hits l.i)) l.initial.out)
