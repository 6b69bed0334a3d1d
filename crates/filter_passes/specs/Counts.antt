-- What the count of a pass tells of the number of hits.
use Rattle.std.specs.Prelude.{◌≡◌, ◌≤◌}
use Rattle.lists.specs.Prelude.{ℕ}
use Rattle.filter_passes.specs.declared.counting.HitCount.{HitCount}
use Rattle.filter_passes.specs.declared.counting.HitCount.TheVariants.{Exactly, AtMost}

-- a text has n hits; no text of the greatest length has more than 64 at each place
abbrev pub CountsHits : ℕ → HitCount → Type 0
CountsHits n (Exactly found) = (found ≡ n) × (found ≤ 67108864)
CountsHits n (AtMost found) = (n ≤ found) × (found ≤ 67108864)
