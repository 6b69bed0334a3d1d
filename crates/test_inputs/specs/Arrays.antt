-- What arrays hold before an entry writes to them.
use Rattle.lists.specs.Prelude.{ℕ}

abbrev pub before : ℕ
before = 4000000007
