-- The numbers of the parts that are taken lie at the front of the array.
use Rattle.hits_input.specs.Steps.{parts_left}
use Rattle.hits_input.proofs.Lines.{Filling}
use Rattle.hits_input.proofs.read_line.Given as goal

abbrev pub invariant-loop-part : goal.invariant-loop-part
invariant-loop-part l = Filling l.line (parts_left l.part-iterator) l.initial.out l.out l.count
