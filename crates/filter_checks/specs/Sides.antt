-- The side of a place on which its parent is, as the test of the comparisons' definitions.
use Rattle.lists.specs.Prelude.{Bool, true, false}
use Rattle.filter_checks.specs.declared.comparisons.Side.{Side}
use Rattle.filter_checks.specs.declared.comparisons.Side.TheVariants.{Left, Right}

abbrev pub is_right : Side → Bool
is_right Left = false
is_right Right = true
