-- The walk is proved in CatalogueWalk.antt.
use Rattle.runs.proofs.CatalogueWalk.{walk_theorem}
use Rattle.runs.proofs.walk_meets_the_catalogue.Goals as goal

pub returns : goal.returns
returns c = walk_theorem
