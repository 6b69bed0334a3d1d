-- What the structs of numbers tell that the exported functions return: refusal and counts.
use Rattle.lists.specs.Prelude.{ℕ}
use Rattle.finder_c.specs.declared.FinderWritten.{FinderWritten}
use Rattle.finder_c.specs.declared.FinderNextList.{FinderNextList}
use Rattle.finder_c.specs.declared.FinderCode.{FinderCode}
use Rattle.finder_c.specs.declared.FinderCounts.{FinderCounts}
use Rattle.finder_c.specs.declared.FinderStreamed.{FinderStreamed}
use Rattle.finder_c.specs.declared.FinderFirstHit.{FinderFirstHit}

abbrev pub tells_written : FinderWritten → ℕ × ℕ
tells_written r = (r.refusal, r.words)

abbrev pub tells_next : FinderNextList → ℕ × (ℕ × ℕ)
tells_next r = (r.refusal, (r.last, r.words))

abbrev pub tells_code : FinderCode → ℕ × ℕ
tells_code r = (r.refusal, r.code)

abbrev pub tells_counts : FinderCounts → ℕ × (ℕ × ℕ)
tells_counts r = (r.refusal, (r.first, r.second))

abbrev pub tells_streamed : FinderStreamed → ℕ × (ℕ × ℕ × ℕ × ℕ)
tells_streamed r = (r.refusal, (r.ended, r.taken, r.hits, r.attempts))

abbrev pub tells_first : FinderFirstHit → ℕ × (ℕ × ℕ × ℕ × ℕ)
tells_first r = (r.refusal, (r.found, r.last, r.pattern, r.read))
