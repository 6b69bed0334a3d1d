-- `main` is safe: the buffer is long enough for a line, and the second array for the hit array.
use Rattle.lists.proofs.Prelude.{ℕ, pos, length-replicate, arith}
use Rattle.hits.proofs.main.Goals as goal

pub write_answer-requires : goal.write_answer-requires
write_answer-requires c = (
  omega (arith, length-replicate {A = ℕ} 258048 0),
  omega (arith, length-replicate {A = ℕ} 8192 0, length-replicate 4096 (pos 0)),
)
