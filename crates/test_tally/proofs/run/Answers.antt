-- `run` meets its contract: the group begins with nothing counted, and what is reported is what was
-- counted.
use Rattle.test_tally.proofs.run.Goals as goal

pub returns-clause-counted : goal.returns-clause-counted
returns-clause-counted g c = rw c.report.ensures (rw c.new-cases.ensures at c.all.ensures.counted)
