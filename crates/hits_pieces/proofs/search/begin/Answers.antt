-- `begin` meets its contract: the state is that of a new search.
use Rattle.lists.proofs.Prelude.{false}
use Rattle.hits_pieces.proofs.search.begin.Goals as goal

pub returns : goal.returns
returns c = λ i. record { state = c.new.ensures i; attempts = 0; ended = false }
